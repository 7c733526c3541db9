-- Names of levels that were replaced are not there any more.
use Rattle.std.proofs.Common.{◌≡◌, ℕ, Bool, true, false, cond, List, [], ◌∷◌, refl, sym, ap, subst}
use Rattle.std.specs.Prelude.{codes}
use Rattle.std.specs.List.{AllByRecursion}
use Rattle.std.specs.Str.{bytes_eq}
use Rattle.std.proofs.lemmas.Slice.Eq.{bytes_eq-Decides}
use Rattle.nt_text.specs.Lines.{Row, first}
use Rattle.nt_friendly.specs.declared.levels.Next.{Next}
use Rattle.nt_friendly.specs.declared.levels.Next.TheVariants as next
use Rattle.nt_friendly.specs.Levels.{after, behind_first, is_left_out, is_level, level_text, replaced, strict_row, written}
use Rattle.nt_friendly.specs.Strict.{IsStrictField}

-- what holds of each name with its number, and of each field that stays, holds of each field with what is written for it
pub level_cases : (P : List ℕ → List ℕ → Type 0) → P (codes "PASSIVE") (codes "0") → P (codes "APC") (codes "1") → P (codes "DISPATCH") (codes "2") →
    P (codes "SYNCH") (codes "12") → P (codes "CLOCK") (codes "13") → P (codes "IPI") (codes "14") → P (codes "HIGH") (codes "15") →
    ((f : List ℕ) → level_text f ≡ f → P f f) → (f : List ℕ) → P f (level_text f)
level_cases P passive apc dispatch synch clock ipi high other f =
    go (bytes_eq f (codes "PASSIVE")) (bytes_eq f (codes "APC")) (bytes_eq f (codes "DISPATCH")) (bytes_eq f (codes "SYNCH")) (bytes_eq f (codes "CLOCK"))
    (bytes_eq f (codes "IPI")) (bytes_eq f (codes "HIGH")) refl refl refl refl refl refl refl
  where
    is : (name : List ℕ) (number : List ℕ) → bytes_eq f name ≡ true → P name number → P f number
    is name number e p = subst (λ (x : List ℕ). P x number) (sym ((bytes_eq-Decides f name).0 e)) p

    go : (a b c d e g h : Bool) → bytes_eq f (codes "PASSIVE") ≡ a → bytes_eq f (codes "APC") ≡ b → bytes_eq f (codes "DISPATCH") ≡ c →
        bytes_eq f (codes "SYNCH") ≡ d → bytes_eq f (codes "CLOCK") ≡ e → bytes_eq f (codes "IPI") ≡ g → bytes_eq f (codes "HIGH") ≡ h →
        P f
        (cond a (codes "0") (cond b (codes "1") (cond c (codes "2") (cond d (codes "12") (cond e (codes "13") (cond g (codes "14") (cond h (codes "15") f)))))))
    go true b c d e g h ea eb ec ed ee eg eh = is (codes "PASSIVE") (codes "0") ea passive
    go false true c d e g h ea eb ec ed ee eg eh = is (codes "APC") (codes "1") eb apc
    go false false true d e g h ea eb ec ed ee eg eh = is (codes "DISPATCH") (codes "2") ec dispatch
    go false false false true e g h ea eb ec ed ee eg eh = is (codes "SYNCH") (codes "12") ed synch
    go false false false false true g h ea eb ec ed ee eg eh = is (codes "CLOCK") (codes "13") ee clock
    go false false false false false true h ea eb ec ed ee eg eh = is (codes "IPI") (codes "14") eg ipi
    go false false false false false false true ea eb ec ed ee eg eh = is (codes "HIGH") (codes "15") eh high
    go false false false false false false false ea eb ec ed ee eg eh = other f (rw (ea, eb, ec, ed, ee, eg, eh) refl)

-- a number that was written for a name stays
pub text_again : (f : List ℕ) → level_text (level_text f) ≡ level_text f
text_again f = level_cases (λ x y. level_text y ≡ y) refl refl refl refl refl refl refl (λ g e. e) f

-- what is written for a strict field is one
pub text_strict : (f : List ℕ) → IsStrictField f → IsStrictField (level_text f)
text_strict f s = level_cases (λ x y. IsStrictField x → IsStrictField y) (λ _. (refl, refl)) (λ _. (refl, refl)) (λ _. (refl, refl)) (λ _. (refl, refl))
    (λ _. (refl, refl)) (λ _. (refl, refl)) (λ _. (refl, refl)) (λ g e h. h) f s

-- a field is DIRQL if what is written for it is
pub text_dirql : (f : List ℕ) → bytes_eq (level_text f) (codes "DIRQL") ≡ bytes_eq f (codes "DIRQL")
text_dirql f = level_cases (λ x y. bytes_eq y (codes "DIRQL") ≡ bytes_eq x (codes "DIRQL")) refl refl refl refl refl refl refl (λ g e. refl) f

-- what was written for a field at its place stays
pub written_again : (n : Next) (f : List ℕ) → written n (written n f) ≡ written n f
written_again next.Word f = refl
written_again next.Name f = refl
written_again next.Bound f = text_again f
written_again next.Verb f = refl
written_again next.Cpu f = refl
written_again next.Level f = text_again f
written_again next.Rest f = refl

-- what stands behind a field stands behind what is written for it
pub after_again : (n : Next) (f : List ℕ) → after n (written n f) ≡ after n f
after_again next.Word f = refl
after_again next.Name f = refl
after_again next.Bound f = refl
after_again next.Verb f = refl
after_again next.Cpu f = refl
after_again next.Level f = refl
after_again next.Rest f = refl

-- where no level stands, the first field stays
first_stays : (n : Next) → is_level n ≡ false → (row : Row) → first (replaced n row) ≡ first row
first_stays n e [] = refl
first_stays n e (f ∷ fs) = rw e refl

-- what is written is left out only if the field was
left_again : (n : Next) (f : List ℕ) (fs : Row) → is_left_out n f (first fs) ≡ false → is_left_out n (written n f) (first (replaced (after n f) fs)) ≡ false
left_again next.Word f fs e = refl
left_again next.Name f fs e = refl
left_again next.Bound f fs e = rw (text_dirql f, first_stays next.Word refl fs) e
left_again next.Verb f fs e = refl
left_again next.Cpu f fs e = refl
left_again next.Level f fs e = rw (text_dirql f, first_stays next.Rest refl fs) e
left_again next.Rest f fs e = refl

-- fields with names replaced stay
pub replaced_again : (n : Next) (row : Row) → replaced n (replaced n row) ≡ replaced n row
replaced_again n [] = refl
replaced_again n (f ∷ fs) = go (is_left_out n f (first fs)) refl (replaced_again n fs) (replaced_again (after n f) fs)
  where
    go : (t : Bool) → is_left_out n f (first fs) ≡ t → replaced n (replaced n fs) ≡ replaced n fs →
        replaced (after n f) (replaced (after n f) fs) ≡ replaced (after n f) fs →
        replaced n (cond t (replaced n fs) (written n f ∷ replaced (after n f) fs)) ≡ cond t (replaced n fs) (written n f ∷ replaced (after n f) fs)
    go true e without with = without
    go false e without with = rw (left_again n f fs e, written_again n f, after_again n f) (ap (λ (r : Row). written n f ∷ r) with)

-- a strict row stays
pub row_again : (row : Row) → strict_row (strict_row row) ≡ strict_row row
row_again [] = refl
row_again (f ∷ fs) = ap (λ (r : Row). f ∷ r) (replaced_again (behind_first f) fs)

-- what is written for a strict field at its place is one
written_strict : (n : Next) (f : List ℕ) → IsStrictField f → IsStrictField (written n f)
written_strict next.Word f s = s
written_strict next.Name f s = s
written_strict next.Bound f s = text_strict f s
written_strict next.Verb f s = s
written_strict next.Cpu f s = s
written_strict next.Level f s = text_strict f s
written_strict next.Rest f s = s

-- strict fields with names replaced are strict
replaced_strict : (n : Next) (row : Row) → AllByRecursion IsStrictField row → AllByRecursion IsStrictField (replaced n row)
replaced_strict n [] all = tt
replaced_strict n (f ∷ fs) all = go (is_left_out n f (first fs)) (replaced_strict n fs all.1) (replaced_strict (after n f) fs all.1)
  where
    go : (t : Bool) → AllByRecursion IsStrictField (replaced n fs) → AllByRecursion IsStrictField (replaced (after n f) fs) →
        AllByRecursion IsStrictField (cond t (replaced n fs) (written n f ∷ replaced (after n f) fs))
    go true without with = without
    go false without with = (written_strict n f all.0, with)

-- a row of strict fields with names replaced has strict fields
pub row_strict : (row : Row) → AllByRecursion IsStrictField row → AllByRecursion IsStrictField (strict_row row)
row_strict [] all = tt
row_strict (f ∷ fs) all = (all.0, replaced_strict (behind_first f) fs all.1)
