-- What is put behind a text, part by part.
use Rattle.std.proofs.Common.{◌≡◌, ◌∙◌, ℕ, List, [], ◌∷◌, ◌++◌, Some, Result, Ok, Err, sym, ap, append_assoc, drop}
use Rattle.std.specs.Prelude.{OnOk}
use Rattle.std.specs.List.{slice_get}
use Rattle.nt_text.specs.Lines.{Row, spaced}
use Rattle.nt_text.proofs.RowTexts.{spaced_append}
use Rattle.nt_script.specs.declared.walk.Input.{Input}
use Rattle.nt_expect.specs.declared.expectations.Watched.{Watched}
use Rattle.nt_expect.specs.Reading.{never_behind, never_with_word}

-- a consequence of what holds of a call that went well holds of that call too
pub on_ok : {A E : Type 0} {P Q : Type 0} (r : Result A E) → (P → Q) → OnOk r P → OnOk r Q
on_ok (Ok x) f p = f p
on_ok (Err e) f p = tt

-- fields behind others
pub fields_put : (old now out : List ℕ) (a b : Row) → now ≡ old ++ spaced a → out ≡ now ++ spaced b → out ≡ old ++ spaced (a ++ b)
fields_put old now out a b d e =
    e ∙ ap (λ (t : List ℕ). t ++ spaced b) d ∙ append_assoc old (spaced a) (spaced b) ∙ ap (λ (t : List ℕ). old ++ t) (sym (spaced_append a b))

-- what stands behind the event of a `never`, where a field is left
pub never_behind_some : (input : Input) (e : Watched) (row : Row) (w : List ℕ) → slice_get row 0 ≡ Some w →
    never_behind input e row ≡ never_with_word input e w (drop 1 row)
never_behind_some input e [] w h = absurd cc
never_behind_some input e (f ∷ fs) w h = let same : f ≡ w = cc in ap (λ (w : List ℕ). never_with_word input e w fs) same
