-- Fields that have no name of a level stay, and so do scripts.
use Rattle.std.proofs.Common.{◌≡◌, ℕ, ◌≤◌, Bool, true, false, List, [], ◌∷◌, refl, sym, ap, ◌∙◌, inl, inr, arith}
use Rattle.std.specs.Prelude.{◌||◌, ◌==◌, nat_le, codes}
use Rattle.std.specs.List.{AllByRecursion, list_all}
use Rattle.std.specs.Char.{is_ascii_digit, is_ascii_lowercase}
use Rattle.std.specs.Str.{bytes_eq}
use Rattle.std.proofs.lemmas.Bool.{and_parts, or_cases, eqb-true, false_from_ne_true, leb-true, ne_eqb}
use Rattle.std.proofs.lemmas.Slice.Eq.{bytes_eq-Decides}
use Rattle.nt_text.specs.Fields.{is_name, is_name_byte}
use Rattle.nt_text.specs.Lines.{Row, first}
use Rattle.nt_script.specs.declared.walk.Input.{Input}
use Rattle.nt_script.specs.Sound.{IsSound}
use Rattle.nt_script.specs.Text.{input_rows, text}
use Rattle.nt_script.proofs.Soundness.{sound_fits}
use Rattle.nt_friendly.specs.declared.levels.Next.{Next}
use Rattle.nt_friendly.specs.declared.levels.Next.TheVariants as next
use Rattle.nt_friendly.specs.Fields.{has_mark, is_filled}
use Rattle.nt_friendly.specs.Levels.{after, behind_first, is_left_out, level_text, replaced, written}
use Rattle.nt_friendly.specs.Strict.{IsStrictField, IsStrictRow, is_strict_byte}
use Rattle.nt_friendly.specs.Text.{strict_text}
use Rattle.nt_friendly.proofs.Again.{level_cases}
use Rattle.nt_friendly.proofs.Bytes.{weaker}
use Rattle.nt_friendly.proofs.Plain.{AllPlainRows, IsPlainRow, input_clean, is_plain, is_plain_byte}
use Rattle.nt_friendly.proofs.Rows.{rows_stay}

-- ---- fields

-- a test that refuses all names of levels
abbrev pub RefusesLevels : (List ℕ → Bool) → Type 0
RefusesLevels test = (f : List ℕ) → test f ≡ true → (level_text f ≡ f) × (bytes_eq f (codes "DIRQL") ≡ false)

-- where neither is written otherwise nor left out, all stays
pub written_stays : (n : Next) (f : List ℕ) → level_text f ≡ f → written n f ≡ f
written_stays next.Word f e = refl
written_stays next.Name f e = refl
written_stays next.Bound f e = e
written_stays next.Verb f e = refl
written_stays next.Cpu f e = refl
written_stays next.Level f e = e
written_stays next.Rest f e = refl

-- a field that is not DIRQL is not left out
pub not_left : (n : Next) (f behind : List ℕ) → bytes_eq f (codes "DIRQL") ≡ false → is_left_out n f behind ≡ false
not_left next.Word f behind e = refl
not_left next.Name f behind e = refl
not_left next.Bound f behind e = rw e refl
not_left next.Verb f behind e = refl
not_left next.Cpu f behind e = refl
not_left next.Level f behind e = rw e refl
not_left next.Rest f behind e = refl

-- no name that a script declares is the name of a level
name_text : (f : List ℕ) → is_name f ≡ true → level_text f ≡ f
name_text f e = level_cases (λ x y. is_name x ≡ true → y ≡ x) (λ h. absurd cc) (λ h. absurd cc) (λ h. absurd cc) (λ h. absurd cc) (λ h. absurd cc)
    (λ h. absurd cc) (λ h. absurd cc) (λ g e h. refl) f e

-- no name that a script declares is DIRQL
name_dirql : (f : List ℕ) → is_name f ≡ true → bytes_eq f (codes "DIRQL") ≡ false
name_dirql f e = false_from_ne_true (bytes_eq f (codes "DIRQL")) (λ same. no (ap is_name (sym ((bytes_eq-Decides f (codes "DIRQL")).0 same)) ∙ e))
  where
    no : is_name (codes "DIRQL") ≡ true → ⊥
    no h = absurd cc

-- a name that a script declares is written and not left out, wherever it stands
pub name_stays : (n : Next) (f behind : List ℕ) → is_name f ≡ true → (written n f ≡ f) × (is_left_out n f behind ≡ false)
name_stays n f behind e = (written_stays n f (name_text f e), not_left n f behind (name_dirql f e))

-- no plain field is the name of a level
pub plain_text : (f : List ℕ) → is_plain f ≡ true → level_text f ≡ f
plain_text f e = level_cases (λ x y. is_plain x ≡ true → y ≡ x) (λ h. absurd cc) (λ h. absurd cc) (λ h. absurd cc) (λ h. absurd cc) (λ h. absurd cc)
    (λ h. absurd cc) (λ h. absurd cc) (λ g e h. refl) f e

-- no plain field is DIRQL
pub plain_dirql : (f : List ℕ) → is_plain f ≡ true → bytes_eq f (codes "DIRQL") ≡ false
plain_dirql f e = false_from_ne_true (bytes_eq f (codes "DIRQL")) (λ same. no (ap is_plain (sym ((bytes_eq-Decides f (codes "DIRQL")).0 same)) ∙ e))
  where
    no : is_plain (codes "DIRQL") ≡ true → ⊥
    no h = absurd cc

-- a byte of a plain field is no end of a line, no blank space, no # and none of a byte order mark
plain_byte : (c : ℕ) → is_plain_byte c ≡ true → (is_strict_byte c ≡ true) × ((c == 239) ≡ false)
plain_byte c e = elim (or_cases (is_name_byte c) (c == 45) e) [
  | inl name ↦ elim (or_cases (is_ascii_lowercase c || is_ascii_digit c) (c == 95) name) [
    | inl both ↦ elim (or_cases (is_ascii_lowercase c) (is_ascii_digit c) both) [
      | inl low ↦ let p = and_parts (nat_le 97 c) (nat_le c 122) low in between c (omega (arith, leb-true 97 c p.0)) (omega (arith, leb-true c 122 p.1))
      | inr digit ↦ let p = and_parts (nat_le 48 c) (nat_le c 57) digit in between c (omega (arith, leb-true 48 c p.0)) (omega (arith, leb-true c 57 p.1))
    ]
    | inr line ↦ rw (eqb-true c 95 line) (refl, refl)
  ]
  | inr dash ↦ rw (eqb-true c 45 dash) (refl, refl)
]
  where
    between : (c : ℕ) → 48 ≤ c → c ≤ 122 → (is_strict_byte c ≡ true) × ((c == 239) ≡ false)
    between c low high = (
      rw (
        ne_eqb c 10 (λ z. omega (arith, low, z)),
        ne_eqb c 32 (λ z. omega (arith, low, z)),
        ne_eqb c 9 (λ z. omega (arith, low, z)),
        ne_eqb c 13 (λ z. omega (arith, low, z)),
        ne_eqb c 35 (λ z. omega (arith, low, z)),
      ) refl,
      ne_eqb c 239 (λ z. omega (arith, high, z)),
    )

-- a plain field is a strict one
pub plain_strict : (f : List ℕ) → is_plain f ≡ true → IsStrictField f
plain_strict f e =
    let both = and_parts (is_filled f) (list_all is_plain_byte f) e in
    (both.0, weaker is_plain_byte is_strict_byte (λ c h. (plain_byte c h).0) f both.1)

-- a plain field has no byte order mark
plain_marked : (f : List ℕ) → is_plain f ≡ true → has_mark f ≡ false
plain_marked [] e = refl
plain_marked (b ∷ bs) e =
    let both = and_parts (is_filled (b ∷ bs)) (list_all is_plain_byte (b ∷ bs)) e in
    let first = (and_parts (is_plain_byte b) (list_all is_plain_byte bs) both.1).0 in
    marked bs (plain_byte b first).1
  where
    marked : (bs : List ℕ) → (b == 239) ≡ false → has_mark (b ∷ bs) ≡ false
    marked [] h = rw h refl
    marked (c ∷ []) h = rw h refl
    marked (c ∷ d ∷ bs) h = rw h refl

-- ---- rows

-- all fields are plain
abbrev pub ArePlain : Row → Type 0
ArePlain row = AllByRecursion (λ f. is_plain f ≡ true) row

-- the fields of a plain row are plain
pub plain_fields : (row : Row) → IsPlainRow row → ArePlain row
plain_fields [] h = tt
plain_fields (f ∷ []) h = (h.0, tt)
plain_fields (f ∷ g ∷ fs) h = (h.0, plain_fields (g ∷ fs) h.1)

-- plain fields are strict
fields_strict : (row : Row) → ArePlain row → AllByRecursion IsStrictField row
fields_strict [] h = tt
fields_strict (f ∷ fs) h = (plain_strict f h.0, fields_strict fs h.1)

-- plain fields stay
plain_stay : (n : Next) (row : Row) → ArePlain row → replaced n row ≡ row
plain_stay n [] h = refl
plain_stay n (f ∷ fs) h = rw (not_left n f (first fs) (plain_dirql f h.0), written_stays n f (plain_text f h.0))
    (ap (λ (r : Row). f ∷ r) (plain_stay (after n f) fs h.1))

-- a plain row is strict
row_strict : (row : Row) → IsPlainRow row → IsStrictRow row
row_strict [] h = absurd h
row_strict (f ∷ fs) h =
    let plain = plain_fields (f ∷ fs) h in
    record {
      some = λ e. absurd cc;
      fields = fields_strict (f ∷ fs) plain;
      mark = plain_marked f plain.0;
      levels = ap (λ (r : Row). f ∷ r) (plain_stay (behind_first f) fs plain.1);
    }

-- plain rows are strict
rows_strict : (rows : List Row) → AllPlainRows rows → AllByRecursion IsStrictRow rows
rows_strict [] h = tt
rows_strict (row ∷ rows) h = (row_strict row h.0, rows_strict rows h.1)

-- the rows of a sound input are strict
pub script_strict : (input : Input) → IsSound input → AllByRecursion IsStrictRow (input_rows input)
script_strict input sound = rows_strict (input_rows input) (input_clean input (sound_fits input sound))

-- the text of a sound input means itself
pub script_stays : (input : Input) → IsSound input → strict_text (text input) ≡ text input
script_stays input sound = rows_stay (input_rows input) (script_strict input sound)
