use Rattle.std.proofs.Common.{[], arith, length, subst, sym, ◌<◌}
use Rattle.std.proofs.lemmas.Result.{err_from_is_err_and}
use Rattle.nt_search.specs.declared.stop.Stop.{Stop}
use Rattle.nt_search.specs.Searches.{IsStopped}
use Rattle.nt_search.proofs.Listing.{if_err}
use Rattle.nt_search.proofs.Progress.{begun, ended, gone_on_by}
use Rattle.nt_search.proofs.Beginning.{none_kept}
use Rattle.nt_search.proofs.TryingMore.{stopped_more}
use Rattle.nt_search.proofs.plan.Plan.expand_each.Goals as goal

pub loop-number-init : goal.loop-number-init
loop-number-init c =
    let h = begun c.args.self.now c.args.found.now c.requires.start in
    (h, none_kept c.args.self.now h.all c.args.stations.now c.requires.kept c.requires.next)

pub returns-then-len-number-clause-searched : goal.returns-then-len-number-clause-searched
returns-then-len-number-clause-searched c =
    let len = c.len.ensures in
    let test = c.if-len-number.true in
    ended c.args.self.now c.loop-number.found c.loop-number.number c.loop-number.invariant.0 (omega (arith, len, test))

pub expand_at-requires-clause-number : goal.expand_at-requires-clause-number
expand_at-requires-clause-number c =
    let len = c.len.ensures in
    let test = c.if-len-number.false in
    omega (arith, len, test)

pub expand_at-requires-clause-at : goal.expand_at-requires-clause-at
expand_at-requires-clause-at c = (c.loop-number.invariant.0.all, c.loop-number.invariant.0.found, c.loop-number.invariant.1)

pub returns-in_err-expand_at-clause-stopped : goal.returns-in_err-expand_at-clause-stopped
returns-in_err-expand_at-clause-stopped c =
    let h = c.loop-number.invariant.0 in
    let r = err_from_is_err_and c.from_residual.result c.from_residual.ensures.1 in
    if_err _ c.from_residual.result r.0 r.1
    (subst (λ (stop : Stop). IsStopped c.args.self.now [] stop c.expand_at.new.found) (sym r.2)
    (stopped_more c.args.self.now [] h.all _ c.expand_at.new.found (c.in_err-expand_at.ensures.stopped h.all h.found c.loop-number.invariant.1)))

pub loop-number-preserved : goal.loop-number-preserved
loop-number-preserved c =
    let h = c.loop-number.invariant.0 in
    let count = h.found.states.ways.count in
    let len = c.len.ensures in
    let test = c.if-len-number.false in
    let low : c.loop-number.number < length h.all = omega (arith, count, len, test) in
    let e = c.in_ok-expand_at.ensures.expanded h.all h.found c.loop-number.invariant.1 in
    gone_on_by c.args.self.now c.loop-number.found c.expand_at.new.found c.loop-number.number c.expand_at.new.stations h low e

pub returns-clause-searched : goal.returns-clause-searched
returns-clause-searched c =
    let h = c.loop-number.invariant.0 in
    let few = h.found.few in
    let test = c.loop-number-test.false in
    ended c.args.self.now c.loop-number.found c.loop-number.number h (omega (arith, few, test))
