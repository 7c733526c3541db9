-- Readers of a line's fields: what is read stands in front of what is left, and what stands in front is read.
use Rattle.std.proofs.Common.{◌≡◌, ◌∙◌, Bool, true, false, cond, ℕ, List, [], ◌∷◌, ◌++◌, Result, Ok, Err, refl, sym, ap, subst, append-nil}
use Rattle.std.specs.List.{list_all}
use Rattle.std.specs.Str.{bytes_eq}
use Rattle.std.proofs.lemmas.Bool.{and_from}
use Rattle.nt_text.specs.declared.kind.ScriptKind.{ScriptKind}
use Rattle.nt_text.specs.declared.kind.ScriptKind.TheVariants.{UnknownWord}
use Rattle.nt_text.specs.Lines.{Row, is_field, needed, rest}
use Rattle.nt_line.specs.Results.{◌>>=◌}
use Rattle.nt_line.proofs.FieldTexts.{same_text, text_same}
use Rattle.nt_line.proofs.Results.{bind_ok}
use Rattle.nt_expect.specs.Fields.{behind_word, one_field}
use Rattle.nt_expect.proofs.Known.{FieldOf}
use Rattle.nt_expect.proofs.Steps.{bind_is, made, ok}

-- what was read stands in front of what is left, and fits
abbrev pub Shown : {A : Type 0} → (A → Row) → (A → Type 0) → Row → A × Row → Type 0
Shown show Fits row y = (row ≡ show y.0 ++ y.1) × Fits y.0

-- how a reader takes what it reads
pub record TakesShown {A : Type 0} (read : Row → Result (A × Row) ScriptKind) (show : A → Row) (Fits : A → Type 0) : Type 0 where
  pub from : (row : Row) (y : A × Row) → read row ≡ Ok y → Shown show Fits row y

pub record Parses {A : Type 0} (read : Row → Result (A × Row) ScriptKind) (show : A → Row) (Fits : A → Type 0) : Type 0 where
  pub takes : TakesShown read show Fits
  pub again : (x : A) (more : Row) → Fits x → read (show x ++ more) ≡ Ok (x, more)
  pub clean : (x : A) → Fits x → list_all is_field (show x) ≡ true

-- one field
pub one_takes : {A : Type 0} (read : List ℕ → Result A ScriptKind) (show : A → List ℕ) (Fits : A → Type 0) →
    ((f : List ℕ) (x : A) → read f ≡ Ok x → (f ≡ show x) × Fits x) → TakesShown (one_field read) (λ x. show x ∷ []) Fits
one_takes {A = A} read show Fits good = record { from = from }
  where
    from : (row : Row) (y : A × Row) → one_field read row ≡ Ok y → Shown (λ x. show x ∷ []) Fits row y
    from [] y e = absurd cc
    from (g ∷ row) y e =
        let b = bind_ok (read g) (λ (x : A). ok {A = A × Row} (x, row)) y e in
        let t = good g b.value b.is in
        made (λ (y : A × Row). Shown (λ x. show x ∷ []) Fits (g ∷ row) y) (b.value, row) y b.then (ap (λ (h : List ℕ). h ∷ row) t.0, t.1)

-- a reader of one field reads it from the front of a row and leaves the fields behind it
pub one : {A : Type 0} {read : List ℕ → Result A ScriptKind} {show : A → List ℕ} {Fits : A → Type 0} → FieldOf read show Fits →
    Parses (one_field read) (λ x. show x ∷ []) Fits
one {A = A} {read = read} {show = show} {Fits = Fits} f = record {
  takes = one_takes read show Fits (λ g x e. (f.shown g x e, f.fits g x e));
  again = λ x more h. bind_is (read (show x)) (λ (x : A). ok {A = A × Row} (x, more)) x (f.again x h);
  clean = λ x h. and_from (is_field (show x)) true (f.clean x h) refl;
}

-- a value that is made from what a reader gives
pub mapped : {A B : Type 0} {read : Row → Result (A × Row) ScriptKind} {show : A → Row} {Fits : A → Type 0} → TakesShown read show Fits → (make : A → B)
    → (Q : Row → B × Row → Type 0) → ((x : A) (more : Row) → Fits x → Q (show x ++ more) (make x, more))
    → (row : Row) (y : B × Row) → (read row >>= λ x. ok {A = B × Row} (make x.0, x.1)) ≡ Ok y → Q row y
mapped {A = A} {B = B} {read = read} {show = show} takes make Q good row y e =
    let b = bind_ok (read row) (λ (x : A × Row). ok {A = B × Row} (make x.0, x.1)) y e in
    let t = takes.from row b.value b.is in
    made (Q row) (make b.value.0, b.value.1) y b.then
    (subst (λ (r : Row). Q r (make b.value.0, b.value.1)) (sym t.0) (good b.value.0 b.value.1 t.1))

-- the same behind a word
pub by_word : {A B : Type 0} {read : Row → Result (A × Row) ScriptKind} {show : A → Row} {Fits : A → Type 0} → TakesShown read show Fits → (make : A → B)
    → (Q : Row → B × Row → Type 0) (word : List ℕ) → ((x : A) (more : Row) → Fits x → Q (word ∷ (show x ++ more)) (make x, more))
    → (w : List ℕ) (row : Row) (y : B × Row) → bytes_eq w word ≡ true → (read row >>= λ x. ok {A = B × Row} (make x.0, x.1)) ≡ Ok y → Q (w ∷ row) y
by_word {B = B} takes make Q word good w row y is e =
    subst (λ (v : List ℕ). Q (v ∷ row) y) (sym (same_text w word is)) (mapped takes make (λ (r : Row) (y : B × Row). Q (word ∷ r) y) good row y e)

-- a word alone
pub word_alone : {B : Type 0} (x : B) (Q : Row → B × Row → Type 0) (word : List ℕ) (w : List ℕ) (row : Row) (y : B × Row) → Q (word ∷ row) (x, row) →
    bytes_eq w word ≡ true → ok (x, row) ≡ Ok y → Q (w ∷ row) y
word_alone x Q word w row y good is e = subst (λ (v : List ℕ). Q (v ∷ row) y) (sym (same_text w word is)) (made (Q (word ∷ row)) (x, row) y e good)

-- what is made is read again
pub mapped_again : {A B : Type 0} {read : Row → Result (A × Row) ScriptKind} {show : A → Row} {Fits : A → Type 0} → Parses read show Fits → (make : A → B)
    → (x : A) (more : Row) → Fits x → (read (show x ++ more) >>= λ x. ok {A = B × Row} (make x.0, x.1)) ≡ Ok (make x, more)
mapped_again {A = A} {B = B} {read = read} {show = show} p make x more h =
    bind_is (read (show x ++ more)) (λ (x : A × Row). ok {A = B × Row} (make x.0, x.1)) (x, more) (p.again x more h)

-- with no field behind it
pub last_again : {A B : Type 0} {read : Row → Result (A × Row) ScriptKind} {show : A → Row} {Fits : A → Type 0} → Parses read show Fits → (make : A → B)
    → (x : A) → Fits x → (read (show x) >>= λ x. ok {A = B × Row} (make x.0, x.1)) ≡ Ok (make x, [])
last_again {A = A} {B = B} {read = read} {show = show} p make x h =
    bind_is (read (show x)) (λ (x : A × Row). ok {A = B × Row} (make x.0, x.1)) (x, []) (ap read (sym (append-nil (show x))) ∙ p.again x [] h)

-- a reader behind a word
pub behind_takes : {A : Type 0} {read : Row → Result (A × Row) ScriptKind} {show : A → Row} {Fits : A → Type 0} → TakesShown read show Fits → (word : List ℕ)
    → TakesShown (λ row. behind_word word row >>= read) (λ x. word ∷ show x) Fits
behind_takes {A = A} {read = read} {show = show} {Fits = Fits} takes word = record { from = from }
  where
    go : (f : List ℕ) (fs : Row) (y : A × Row) (b : Bool) → bytes_eq f word ≡ b → (cond b (ok fs) (Err UnknownWord) >>= read) ≡ Ok y →
        Shown (λ x. word ∷ show x) Fits (f ∷ fs) y
    go f fs y false is e = absurd cc
    go f fs y true is e =
        let t = takes.from fs y e in
        (ap (λ (g : List ℕ). g ∷ fs) (same_text f word is) ∙ ap (λ (r : Row). word ∷ r) t.0, t.1)

    from : (row : Row) (y : A × Row) → (behind_word word row >>= read) ≡ Ok y → Shown (λ x. word ∷ show x) Fits row y
    from [] y e = absurd cc
    from (f ∷ fs) y e = go f fs y (bytes_eq f word) refl e

-- a reader behind a fixed word takes that word and then what it reads
pub behind : {A : Type 0} {read : Row → Result (A × Row) ScriptKind} {show : A → Row} {Fits : A → Type 0} → Parses read show Fits → (word : List ℕ)
    → is_field word ≡ true → Parses (λ row. behind_word word row >>= read) (λ x. word ∷ show x) Fits
behind {A = A} {read = read} {show = show} {Fits = Fits} p word plain = record {
  takes = behind_takes p.takes word;
  again = λ x more h. rw (text_same word) (p.again x more h);
  clean = λ x h. and_from (is_field word) (list_all is_field (show x)) plain (p.clean x h);
}

-- a reader by a first word
pub worded : {A : Type 0} (read : List ℕ → Row → Result (A × Row) ScriptKind) (Q : Row → A × Row → Type 0)
    → ((word : List ℕ) (row : Row) (y : A × Row) → read word row ≡ Ok y → Q (word ∷ row) y)
    → (row : Row) (y : A × Row) → (needed row >>= λ word. read word (rest row)) ≡ Ok y → Q row y
worded read Q good [] y e = absurd cc
worded read Q good (f ∷ fs) y e = good f fs y e
