use Rattle.std.proofs.Common.{ap, arith, length, subst, sym}
use Rattle.std.proofs.lemmas.List.{length-map}
use Rattle.std.specs.Prelude.{List}
use Rattle.nt_event.specs.declared.events.Rises.{Rises}
use Rattle.nt_search.specs.declared.states.Way.{Way}
use Rattle.nt_search.specs.Steps.{IsIn, way_in}
use Rattle.nt_search.proofs.Stepping.{in_at}
use Rattle.nt_search.proofs.ways.Ways.get.Goals as goal

pub turn_of-requires : goal.turn_of-requires
turn_of-requires c =
    let steps = c.self.inside.steps.items in
    let looks = c.self.inside.looks.items in
    let size = length-map steps (way_in looks) in
    let same = ap (λ (ws : List Way). length ws) c.self.view_is in
    let low = c.requires in
    subst (λ (rs : List Rises). IsIn rs c.index-step.result.now.by) (sym c.as_slice.ensures.value)
    (in_at looks steps c.args.number c.index-step.result.now c.self.invariant (omega (arith, size, same, low)) c.index-step.ensures)
