-- Fields put behind others.
use Rattle.std.proofs.Common.{ap, append_assoc, sym, ◌∙◌}
use Rattle.std.specs.Prelude.{Err, List, Ok, OnOk, Result, ℕ, ◌++◌, ◌≡◌}
use Rattle.nt_text.specs.Lines.{Row, spaced}
use Rattle.nt_text.proofs.RowTexts.{spaced_append}

-- fields, and then others
pub behind : (old now out : List ℕ) (fs gs : Row) → now ≡ old ++ spaced fs → out ≡ now ++ spaced gs → out ≡ old ++ spaced (fs ++ gs)
behind old now out fs gs first others =
    others ∙ ap (λ (xs : List ℕ). xs ++ spaced gs) first ∙ append_assoc old (spaced fs) (spaced gs)
    ∙ ap (λ (xs : List ℕ). old ++ xs) (sym (spaced_append fs gs))

-- fields, and then others by a call that may find no memory
pub last_behind : {A E : Type 0} (r : Result A E) (old now out : List ℕ) (fs gs : Row) → now ≡ old ++ spaced fs → OnOk r (out ≡ now ++ spaced gs) →
    OnOk r (out ≡ old ++ spaced (fs ++ gs))
last_behind (Ok x) old now out fs gs first others = behind old now out fs gs first others
last_behind (Err e) old now out fs gs first others = tt
