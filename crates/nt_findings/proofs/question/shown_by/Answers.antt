use Rattle.std.proofs.Common.{subst, sym}
use Rattle.std.specs.Prelude.{List}
use Rattle.nt_event.specs.declared.events.Turn.{Turn}
use Rattle.nt_findings.specs.Ways.{IsShownBy}
use Rattle.nt_findings.proofs.Showing.{shown_turns}
use Rattle.nt_findings.proofs.question.shown_by.Goals as goal

pub returns : goal.returns
returns c s all x are fails =
    subst (λ (ts : List Turn). IsShownBy s x ts c.args.failure.at) (sym c.in_ok-add_turn.ensures)
    (shown_turns s all x c.args.failure c.in_ok-turns.turns.items (c.in_ok-turns.ensures s all are) fails)
