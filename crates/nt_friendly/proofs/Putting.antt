-- Fields that are put one behind the other.
use Rattle.std.proofs.Common.{◌≡◌, ℕ, false, List, [], ◌∷◌, ◌++◌, drop, Some, refl, sym, ap, ◌∙◌, append_assoc}
use Rattle.std.specs.Prelude.{slice_get}
use Rattle.nt_text.specs.Lines.{Row, first, spaced}
use Rattle.nt_friendly.specs.declared.levels.Next.{Next}
use Rattle.nt_friendly.specs.Levels.{after, is_left_out, replaced, written}

-- a field that is not left out is written, and then the fields behind it
kept : (next : Next) (f : List ℕ) (fs : Row) → is_left_out next f (first fs) ≡ false →
    replaced next (f ∷ fs) ≡ written next f ∷ replaced (after next f) fs
kept next f fs e = rw e refl

-- if a field is put that is not left out, then what was put and what is left stays all of it
pub one_put : (out new whole : List ℕ) (next : Next) (fields rest : Row) (f : List ℕ) → Some f ≡ slice_get fields 0 → rest ≡ drop 1 fields →
    is_left_out next f (first rest) ≡ false → new ≡ out ++ spaced (written next f ∷ []) → out ++ spaced (replaced next fields) ≡ whole →
    new ++ spaced (replaced (after next f) rest) ≡ whole
one_put out new whole next [] rest f is left e put before = absurd cc
one_put out new whole next (g ∷ gs) rest f is left e put before =
    let same : f ≡ g = cc in
    let one : is_left_out next f (first gs) ≡ false = rw left at e in
    let split : replaced next (g ∷ gs) ≡ written next f ∷ replaced (after next f) gs = rw (← same) (kept next f gs one) in
    let text = written next f in
    let more = spaced (replaced (after next f) gs) in
    rw left (ap (λ (xs : List ℕ). xs ++ more) put ∙ append_assoc out (32 ∷ (text ++ [])) more
    ∙ ap (λ (xs : List ℕ). out ++ 32 ∷ xs) (append_assoc text [] more) ∙ ap (λ (r : Row). out ++ spaced r) (sym split) ∙ before)
