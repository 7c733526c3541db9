use Rattle.std.proofs.Common.{[], List, subst}
use Rattle.nt_expect.specs.declared.expectations.Watched.{Watched}
use Rattle.nt_search.specs.Machines.{Stands}
use Rattle.nt_search.proofs.Progress.{start}
use Rattle.nt_search.proofs.plan.Plan.start.Goals as goal

pub returns-in_ok-found-in-Ok : goal.returns-in_ok-found-in-Ok
returns-in_ok-found-in-Ok c =
    let x = c.args.self.now in
    let s = x.script.now in
    let stands = subst (λ (w : List Watched). Stands s x.limit w [] c.in_ok-machine.machine) c.as_slice.ensures.value c.in_ok-machine.ensures in
    let keyed = c.in-Ok.ensures.key s x.limit x.watched.items [] stands in
    let new = c.in_ok-found-in-Ok.ensures in
    start x _ c.key-key.new.states c.in-Ok.key _ c.requires.plan.most new.states new.graph keyed new.count new.none
