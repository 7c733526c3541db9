use Rattle.std.proofs.Common.{subst, sym}
use Rattle.std.proofs.lemmas.Result.{err_from_is_err_and}
use Rattle.nt_search.specs.declared.stop.Stop.{Stop}
use Rattle.nt_search.specs.Searches.{IsStopped}
use Rattle.nt_search.proofs.Listing.{if_err}
use Rattle.nt_search.proofs.TryingMore.{starved}
use Rattle.nt_search.proofs.plan.Plan.try_turn.Goals as goal

pub returns-in_err-stand_as-clause-stopped : goal.returns-in_err-stand_as-clause-stopped
returns-in_err-stand_as-clause-stopped c =
    let e = err_from_is_err_and c.from_residual.result c.from_residual.ensures.1 in
    if_err _ c.from_residual.result e.0 e.1
    (λ all h at next. subst (λ (stop : Stop). IsStopped c.args.self.now all stop c.args.found.now) (sym e.2)
    (starved c.args.self.now all c.args.found.now h))

pub try_next-requires-clause-at : goal.try_next-requires-clause-at
try_next-requires-clause-at c =
    let at = c.requires.at in
    (at.0, at.1, at.2, c.in_ok-stand_as.ensures c.args.self.now at.0 c.args.from at.2 at.3)

pub returns-in_err-taken-clause-stopped : goal.returns-in_err-taken-clause-stopped
returns-in_err-taken-clause-stopped c =
    let r = err_from_is_err_and c.from_residual-in_err-taken.result c.from_residual-in_err-taken.ensures.1 in
    if_err _ c.from_residual-in_err-taken.result r.0 r.1
    (λ all h at next. subst (λ (stop : Stop). IsStopped c.args.self.now all stop c.try_next.new.found) (sym r.2)
    (c.in_err-taken.ensures.stopped all h at (c.in_ok-stand_as.ensures c.args.self.now all c.args.from at next)))

pub returns-clause-tried : goal.returns-clause-tried
returns-clause-tried c all h at next = c.in_ok-taken.ensures.tried all h at (c.in_ok-stand_as.ensures c.args.self.now all c.args.from at next)

pub returns-clause-next : goal.returns-clause-next
returns-clause-next c all at next q = c.in_ok-taken.ensures.refused q all (c.in_ok-stand_as.ensures c.args.self.now all c.args.from at next)
