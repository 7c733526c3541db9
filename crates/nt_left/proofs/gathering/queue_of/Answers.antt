use Rattle.std.proofs.Common.{ap, ◌∙◌}
use Rattle.std.specs.Prelude.{option_map}
use Rattle.nt_event.specs.Lanes.{Lanes, object_at}
use Rattle.nt_event.specs.Objects.{ObjectState}
use Rattle.nt_states.specs.AllStates.{AllStates}
use Rattle.nt_left.specs.Walks.{past_of}
use Rattle.nt_left.proofs.Standing.{object_is}
use Rattle.nt_left.proofs.gathering.queue_of.Goals as goal

pub returns-clause-queue : goal.returns-clause-queue
returns-clause-queue c =
    c.standing.ensures.value
    ∙ (ap (λ (x : AllStates). option_map (λ x. x.queue) (object_at x.lanes c.args.dpc).standing) c.states.ensures
    ∙ (ap (λ (l : Lanes). option_map (λ x. x.queue) (object_at l c.args.dpc).standing) c.requires.end.lanes
    ∙ ap (λ (o : ObjectState). option_map (λ x. x.queue) o.standing)
    (object_is c.args.end.now.script.now (past_of c.args.end.now.events) c.args.dpc c.requires.dpc)))
