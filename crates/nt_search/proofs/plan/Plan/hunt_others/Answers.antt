use Rattle.std.proofs.Common.{subst, sym}
use Rattle.std.proofs.lemmas.Result.{err_from_is_err_and}
use Rattle.nt_search.specs.declared.stop.Stop.{Stop}
use Rattle.nt_search.specs.Searches.{IsStopped}
use Rattle.nt_search.proofs.Hunts.{none_more}
use Rattle.nt_search.proofs.Listing.{if_err}
use Rattle.nt_search.proofs.plan.Plan.hunt_others.Goals as goal

pub returns-then-preemptions-place-clause-more : goal.returns-then-preemptions-place-clause-more
returns-then-preemptions-place-clause-more c all h at next = none_more c.args.self.now all c.args.found.now h

pub returns-in_err-_taken-clause-stopped : goal.returns-in_err-_taken-clause-stopped
returns-in_err-_taken-clause-stopped c =
    let r = err_from_is_err_and c.from_residual.result c.from_residual.ensures.1 in
    if_err _ c.from_residual.result r.0 r.1
    (λ all h at next. subst (λ (stop : Stop). IsStopped c.args.self.now all stop c.hunt_turns.new.found) (sym r.2)
    (c.in_err-_taken.ensures.stopped all h at next))

pub returns-clause-more : goal.returns-clause-more
returns-clause-more c all h at next = c.in_ok-_taken.ensures.more all h at next
