-- A key that is set is one of the script's.
use Rattle.std.proofs.Common.{ap, ◌∙◌}
use Rattle.nt_event.specs.Timers.{Timers}
use Rattle.nt_timer.specs.Settings.{due_entry}
use Rattle.nt_states.proofs.DueKeys.{due_fits}
use Rattle.nt_plain.proofs.states.answering.StatesLaneAnswers.first_due.Goals as goal

pub returns-clause-named : goal.returns-clause-named
returns-clause-named c =
    due_fits c.args.self.now c.first_due.result c.sound.ensures (c.first_due.ensures.value ∙ ap (λ (x : Timers). due_entry x) c.timers.ensures)
