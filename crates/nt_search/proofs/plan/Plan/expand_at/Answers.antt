use Rattle.std.proofs.Common.{subst, sym, ◌++◌}
use Rattle.std.proofs.lemmas.Result.{err_from_is_err_and}
use Rattle.nt_search.specs.declared.stop.Stop.{Stop}
use Rattle.nt_search.specs.Searches.{IsStopped}
use Rattle.nt_search.proofs.Listing.{if_err}
use Rattle.nt_search.proofs.Beginning.{stations_more}
use Rattle.nt_search.proofs.TryingMore.{at_more, way_stopped}
use Rattle.nt_search.proofs.plan.Plan.expand_at.Goals as goal

pub machine_at-requires-clause-ways : goal.machine_at-requires-clause-ways
machine_at-requires-clause-ways c = (c.requires.at.0, c.requires.at.1.states.ways, c.requires.at.2)

pub returns-in_err-machine-clause-stopped : goal.returns-in_err-machine-clause-stopped
returns-in_err-machine-clause-stopped c =
    let r = err_from_is_err_and c.from_residual.result c.from_residual.ensures.1 in
    if_err _ c.from_residual.result r.0 r.1
    (λ all h kept. subst (λ (stop : Stop). IsStopped c.args.self.now all stop c.args.found.now) (sym r.2)
    (way_stopped c.args.self.now all _ c.args.found.now (c.in_err-machine.ensures.cause all h.states.ways kept) h))

pub expand-requires-clause-at : goal.expand-requires-clause-at
expand-requires-clause-at c =
    let at = c.requires.at in
    (at.0, at.1, c.in_ok-machine.ensures.at at.0 at.1.states.ways at.2)

pub returns-in-Err-clause-stopped : goal.returns-in-Err-clause-stopped
returns-in-Err-clause-stopped c all h kept = c.in-Err.ensures.stopped all h (c.in_ok-machine.ensures.at all h.states.ways kept)

pub returns-in-Ok-clause-expanded : goal.returns-in-Ok-clause-expanded
returns-in-Ok-clause-expanded c all h kept =
    let x = c.args.self.now in
    let n = c.args.number in
    let m = c.in_ok-machine.machine in
    let at = c.in_ok-machine.ensures.at all h.states.ways kept in
    let e = c.in-Ok.ensures.expanded all h at in
    (e, c.keep.ensures x (all ++ e.more) (stations_more x all e.more c.args.stations.now kept) (at_more x all e.more n m at))
