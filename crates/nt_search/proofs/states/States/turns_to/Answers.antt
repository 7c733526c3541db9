use Rattle.std.proofs.Common.{[], ap, get_or, subst, ℕ, ◌∙◌}
use Rattle.std.specs.Prelude.{List}
use Rattle.nt_event.specs.declared.events.Event.{Event}
use Rattle.nt_search.specs.Ways.{Lead}
use Rattle.nt_search.proofs.Beginning.{from_none}
use Rattle.nt_search.proofs.states.States.turns_to.Goals as goal

pub returns : goal.returns
returns c s all are =
    let path = c.in_ok-path.ensures s all are in
    let first = ap (λ (n : ℕ). get_or all n []) (from_none c.new.result c.in_ok-path.path.station path.from c.new.ensures.kept path.begins) ∙ are.first in
    subst (λ (h : List Event). Lead s c.in_ok-path.path.turns.items h (get_or all c.args.number [])) first path.lead
