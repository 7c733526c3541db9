use Rattle.std.proofs.Common.{[], ap, arith, length, subst, sym, ◌∷◌, ◌∙◌}
use Rattle.std.specs.Prelude.{List, Option}
use Rattle.nt_search.specs.declared.failures.Failure.{Failure}
use Rattle.std.proofs.lemmas.Result.{err_from_is_err_and}
use Rattle.nt_search.specs.declared.stop.Stop.{Stop}
use Rattle.nt_search.specs.Searches.{IsStopped}
use Rattle.nt_search.proofs.Hunts.{hunted_on}
use Rattle.nt_search.proofs.Listing.{if_err}
use Rattle.nt_search.proofs.Beginning.{none_kept}
use Rattle.nt_search.proofs.TryingMore.{stopped_more}
use Rattle.nt_search.proofs.plan.Plan.hunt_each.Goals as goal

pub loop-number-init : goal.loop-number-init
loop-number-init c = (
  record { more = [] ∷ []; found = c.requires.start.found },
  none_kept c.args.self.now ([] ∷ []) c.args.stations.now c.requires.kept c.requires.next,
)

pub all_failed-requires : goal.all_failed-requires
all_failed-requires c =
    ap (λ (fs : List (Option Failure)). length fs) c.as_slice.ensures.value ∙ c.loop-number.invariant.0.found.noted.count

pub hunt_at-requires-clause-number : goal.hunt_at-requires-clause-number
hunt_at-requires-clause-number c =
    let len = c.len.ensures in
    let test = c.if-len-number.false in
    omega (arith, len, test)

pub hunt_at-requires-clause-found : goal.hunt_at-requires-clause-found
hunt_at-requires-clause-found c = (c.loop-number.invariant.0.more, c.loop-number.invariant.0.found, c.loop-number.invariant.1)

pub returns-in_err-hunt_at-clause-stopped : goal.returns-in_err-hunt_at-clause-stopped
returns-in_err-hunt_at-clause-stopped c =
    let h = c.loop-number.invariant.0 in
    let r = err_from_is_err_and c.from_residual.result c.from_residual.ensures.1 in
    if_err _ c.from_residual.result r.0 r.1
    (subst (λ (stop : Stop). IsStopped c.args.self.now [] stop c.hunt_at.new.found) (sym r.2)
    (stopped_more c.args.self.now [] h.more _ c.hunt_at.new.found (c.in_err-hunt_at.ensures.stopped h.more h.found c.loop-number.invariant.1)))

pub loop-number-preserved : goal.loop-number-preserved
loop-number-preserved c =
    let h = c.loop-number.invariant.0 in
    let x = c.args.self.now in
    rw c.forget_leads.ensures
    (hunted_on x h.more c.hunt_at.new.found c.hunt_at.new.stations (c.in_ok-hunt_at.ensures.more h.more h.found c.loop-number.invariant.1))
