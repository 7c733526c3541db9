-- A line that declares has the letters of a keyword that does.
use Rattle.std.proofs.Common.{◌≡◌, ℕ, zero, suc, Bool, true, false, cond, List, [], ◌∷◌, Option, Some, None, refl, sym, ap, ◌∙◌, get_or, length}
use Rattle.std.proofs.Common.{◌≤◌, ◌<◌, arith}
use Rattle.std.specs.Prelude.{find, nat_le, is_some, IfSome}
use Rattle.std.specs.List.{list_any, list_all, onto_first}
use Rattle.std.specs.Str.{bytes_eq}
use Rattle.std.proofs.lemmas.Bool.{false≢true, and_from, and_parts, leb-true, eq-eqb, or_parts}
use Rattle.nt_text.specs.Lines.{is_byte, fields, first}
use Rattle.nt_line.specs.declared.keywords.Keyword.{Keyword}
use Rattle.nt_line.specs.declared.keywords.TheConstants.{KEYWORDS}
use Rattle.nt_line.specs.declared.names.Kind.{Kind}
use Rattle.nt_line.specs.Keywords.{text_of, declaring, in_version, since, word_of, keyword_of}
use Rattle.nt_line.specs.Letters.{declares_with}
use Rattle.nt_line.proofs.FieldTexts.{same_text}

-- the first field of a line has the line's bytes
abbrev AtEach : List ℕ → List ℕ → Type 0
AtEach field line = (k : ℕ) → k < length field → get_or field k 0 ≡ get_or line k 0

-- a byte put in front of both keeps that a field has the bytes of its line
longer : (b : ℕ) (field line : List ℕ) → AtEach field line → AtEach (b ∷ field) (b ∷ line)
longer b field line h zero below = refl
longer b field line h (suc k) below = h k (omega arith)

-- the first field of a line has the line's bytes at each place
first_bytes : (line : List ℕ) → AtEach (first (fields line)) line
first_bytes [] = λ k below. absurd (omega arith)
first_bytes (b ∷ bs) = go (is_byte 32 b) (fields bs) (first_bytes bs)
  where
    go : (t : Bool) (fs : List (List ℕ)) → AtEach (first fs) bs → AtEach (first (cond t ([] ∷ fs) (onto_first b fs))) (b ∷ bs)
    go true fs h = λ k below. absurd (omega arith)
    go false [] h = longer b [] bs (λ k below. absurd (omega arith))
    go false (f ∷ fs) h = longer b f bs h

-- keywords have three letters at least
abbrev IsLong : Keyword → Bool
IsLong w = nat_le 3 (length (text_of w))

-- all keywords have three letters at least
all_long : list_all IsLong KEYWORDS ≡ true
all_long = refl

-- the first field of a line is no longer than the line
no_longer : (line : List ℕ) → length (first (fields line)) ≤ length line
no_longer [] = omega arith
no_longer (b ∷ bs) = go (is_byte 32 b) (fields bs) (no_longer bs)
  where
    go : (t : Bool) (fs : List (List ℕ)) → length (first fs) ≤ length bs → length (first (cond t ([] ∷ fs) (onto_first b fs))) ≤ suc (length bs)
    go true fs h = omega arith
    go false [] h = omega arith
    go false (f ∷ fs) h = omega (arith, h)

-- what is found among keywords declares nothing, where none of those that declare may be found
abbrev Silent : Option Keyword → Type 0
Silent o = IfSome o (λ w. declaring w ≡ None)

-- the keyword found by a field declares nothing, if a test that all which declare pass holds of no keyword
silent_find : (field : List ℕ) (p : Keyword → Bool) →
    ((w : Keyword) → bytes_eq field (text_of w) ≡ true → IsLong w ≡ true → is_some (declaring w) ≡ true → p w ≡ true) →
    (ks : List Keyword) → list_all IsLong ks ≡ true → list_any p ks ≡ false → Silent (find (λ w. bytes_eq field (text_of w)) ks)
silent_find field p h [] long none = tt
silent_find field p h (w ∷ ks) long none = go (bytes_eq field (text_of w)) refl (silent_find field p h ks is_long.1 is_none.1)
  where
    is_long : (IsLong w ≡ true) × (list_all IsLong ks ≡ true)
    is_long = and_parts (IsLong w) (list_all IsLong ks) long

    is_none : (p w ≡ false) × (list_any p ks ≡ false)
    is_none = or_parts (p w) (list_any p ks) none

    declares_none : bytes_eq field (text_of w) ≡ true → (o : Option Kind) → declaring w ≡ o → declaring w ≡ None
    declares_none e None is = is
    declares_none e (Some k) is =
        let may : p w ≡ true = h w e is_long.0 (ap (λ (o : Option Kind). is_some o) is) in
        absurd (false≢true (sym is_none.0 ∙ may))

    go : (t : Bool) → bytes_eq field (text_of w) ≡ t → Silent (find (λ w. bytes_eq field (text_of w)) ks) →
        Silent (cond t (Some w) (find (λ w. bytes_eq field (text_of w)) ks))
    go true e more = declares_none e (declaring w) refl
    go false e more = more

-- a keyword that declares nothing still declares nothing if only those of a version are kept
silent_version : (version : ℕ) (o : Option Keyword) → Silent o → Silent (in_version version o)
silent_version version None h = tt
silent_version version (Some w) h = elim (nat_le (since w) version) as (λ t. Silent (cond t (Some w) None)) [ true ↦ h | false ↦ tt ]

-- a keyword that the first field is has the letters of the line
letters : (x y z : ℕ) (more : List ℕ) (w : Keyword) → bytes_eq (first (fields (x ∷ y ∷ z ∷ more))) (text_of w) ≡ true → IsLong w ≡ true →
    is_some (declaring w) ≡ true → declares_with x z w ≡ true
letters x y z more w e long d =
    let line = x ∷ y ∷ z ∷ more in
    let same = same_text (first (fields line)) (text_of w) e in
    let at = rw same at (first_bytes line) in
    let three : 3 ≤ length (text_of w) = leb-true 3 (length (text_of w)) long in
    let one : get_or (text_of w) 0 0 ≡ x = at 0 (omega (arith, three)) in
    let third : get_or (text_of w) 2 0 ≡ z = at 2 (omega (arith, three)) in
    and_from _ _ d (rw (one, third) (and_from _ _ (eq-eqb x x refl) (eq-eqb z z refl)))

-- a line of three bytes or more with the first and third letters of no declaring keyword declares nothing
pub other_letters : (line : List ℕ) (d e : ℕ) → 3 ≤ length line → list_any (declares_with (get_or line 0 d) (get_or line 2 e)) KEYWORDS ≡ false →
    (version : ℕ) → IfSome (keyword_of version (first (fields line))) (λ w. declaring w ≡ None)
unfolding word_of
other_letters [] d e h none version = absurd (omega arith)
other_letters (x ∷ []) d e h none version = absurd (omega arith)
other_letters (x ∷ y ∷ []) d e h none version = absurd (omega arith)
other_letters (x ∷ y ∷ z ∷ more) d e h none version = silent_version version _
    (silent_find (first (fields (x ∷ y ∷ z ∷ more))) (declares_with x z) (letters x y z more) KEYWORDS all_long none)

-- a line of less than three bytes declares nothing
pub too_short : (line : List ℕ) → length line < 3 → (version : ℕ) → IfSome (keyword_of version (first (fields line))) (λ w. declaring w ≡ None)
unfolding word_of
too_short line h version =
    silent_version version _ (silent_find (first (fields line)) (λ w. false) (λ w e long d. absurd (shorter w e long)) KEYWORDS all_long refl)
  where
    shorter : (w : Keyword) → bytes_eq (first (fields line)) (text_of w) ≡ true → IsLong w ≡ true → ⊥
    shorter w e long =
        let same = same_text (first (fields line)) (text_of w) e in
        let fits = rw same at (no_longer line) in
        omega (arith, fits, leb-true 3 (length (text_of w)) long)
