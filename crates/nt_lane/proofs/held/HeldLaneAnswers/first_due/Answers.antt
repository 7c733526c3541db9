-- A key that is set is one of the script's.
use Rattle.std.proofs.Common.{ap, ◌∙◌}
use Rattle.nt_event.specs.Timers.{Timers}
use Rattle.nt_timer.specs.Settings.{due_entry}
use Rattle.nt_lane.specs.Answers.{held_lanes}
use Rattle.nt_lane.proofs.Holding.{sound_held}
use Rattle.nt_states.proofs.DueKeys.{due_fits}
use Rattle.nt_lane.proofs.held.HeldLaneAnswers.first_due.Goals as goal

pub returns-clause-named : goal.returns-clause-named
returns-clause-named c =
    due_fits (record { script = c.args.self.now.script; lanes = held_lanes c.args.self.now }) c.first_due.result
    (sound_held c.args.self.now c.there.ensures c.requires) (c.first_due.ensures.value ∙ ap (λ (x : Timers). due_entry x) c.timers.ensures)
