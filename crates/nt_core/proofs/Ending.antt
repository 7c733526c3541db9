-- The end of a run by the robin rule.
use Rattle.std.proofs.Common.{ap, sym, ◌∙◌}
use Rattle.std.specs.Prelude.{List, None, Option, true, ℕ, ◌≡◌}
use Rattle.nt_event.specs.declared.events.Event.{Event}
use Rattle.nt_event.specs.declared.events.Turn.{Turn}
use Rattle.nt_event.specs.declared.scripts.Script.{Script}
use Rattle.nt_event.specs.Robin.{is_settled, robin}
use Rattle.nt_event.specs.Step.{IsRun}
use Rattle.nt_runs.proofs.Settled.{robin_ends_settled}

-- where the rule has no turn, the history is settled
pub ended_settled : (s t : Script) (limit turns : ℕ) (past : List Event) (o : Option Turn) → t ≡ s → limit ≡ turns →
    IsRun t limit past → o ≡ robin t limit past → o ≡ None → is_settled s turns past ≡ true
ended_settled s t limit turns past o a b r h i =
    let settled : is_settled t limit past ≡ true = (robin_ends_settled t limit past r).0 (sym h ∙ i) in
    ap (λ (x : Script). is_settled x turns past) (sym a) ∙ (ap (λ (n : ℕ). is_settled t n past) (sym b) ∙ settled)
