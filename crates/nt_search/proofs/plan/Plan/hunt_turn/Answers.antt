use Rattle.std.proofs.Common.{subst, sym}
use Rattle.std.proofs.lemmas.Result.{err_from_is_err_and}
use Rattle.nt_search.specs.declared.stop.Stop.{Stop}
use Rattle.nt_search.specs.Searches.{IsStopped}
use Rattle.nt_search.proofs.Hunts.{more_tried, none_more}
use Rattle.nt_search.proofs.Listing.{if_err}
use Rattle.nt_search.proofs.plan.Plan.hunt_turn.Goals as goal

pub returns-then-is_wide-clause-more : goal.returns-then-is_wide-clause-more
returns-then-is_wide-clause-more c all h at next = none_more c.args.self.now all c.args.found.now h

pub returns-in_err-taken-clause-stopped : goal.returns-in_err-taken-clause-stopped
returns-in_err-taken-clause-stopped c =
    let r = err_from_is_err_and c.from_residual.result c.from_residual.ensures.1 in
    if_err _ c.from_residual.result r.0 r.1
    (λ all h at next. subst (λ (stop : Stop). IsStopped c.args.self.now all stop c.try_turn.new.found) (sym r.2)
    (c.in_err-taken.ensures.stopped all h at next))

pub returns-clause-more : goal.returns-clause-more
returns-clause-more c all h at next = more_tried c.args.self.now all _ _ c.args.found.now c.try_turn.new.found (c.in_ok-taken.ensures.tried all h at next)
