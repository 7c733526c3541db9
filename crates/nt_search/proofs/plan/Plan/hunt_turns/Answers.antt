use Rattle.std.proofs.Common.{subst, sym, ◌++◌}
use Rattle.std.proofs.lemmas.Result.{err_from_is_err_and}
use Rattle.nt_search.specs.declared.stop.Stop.{Stop}
use Rattle.nt_search.specs.Searches.{IsStopped}
use Rattle.nt_search.proofs.Hunts.{more_on, none_more}
use Rattle.nt_search.proofs.Listing.{if_err}
use Rattle.nt_search.proofs.Beginning.{trial_more}
use Rattle.nt_search.proofs.TryingMore.{at_more, stopped_more}
use Rattle.nt_search.proofs.plan.Plan.hunt_turns.Goals as goal

pub loop-index-init : goal.loop-index-init
loop-index-init c = record {
  more = λ all h at next. none_more c.args.self.now all c.args.found.now h;
  next = λ all at next. next;
}

pub hunt_turn-requires-clause-at : goal.hunt_turn-requires-clause-at
hunt_turn-requires-clause-at c =
    let x = c.args.self.now in
    let at = c.requires.at in
    let n = c.args.place.now.state in
    let a = c.loop-index.invariant.more at.0 at.1 at.2 at.3 in (
      at.0 ++ a.more,
      a.found,
      at_more x at.0 a.more n c.args.machine.now at.2,
      trial_more x at.0 a.more n c.loop-index.next (c.loop-index.invariant.next at.0 at.2 at.3),
    )

pub returns-in_err-taken-clause-stopped : goal.returns-in_err-taken-clause-stopped
returns-in_err-taken-clause-stopped c =
    let r = err_from_is_err_and c.from_residual.result c.from_residual.ensures.1 in
    if_err _ c.from_residual.result r.0 r.1
    (λ all h at next.
    let x = c.args.self.now in
    let n = c.args.place.now.state in
    let a = c.loop-index.invariant.more all h at next in
    subst (λ (stop : Stop). IsStopped x all stop c.hunt_turn.new.found) (sym r.2)
    (stopped_more x all a.more _ c.hunt_turn.new.found
    (c.in_err-taken.ensures.stopped (all ++ a.more) a.found (at_more x all a.more n c.args.machine.now at)
    (trial_more x all a.more n c.loop-index.next (c.loop-index.invariant.next all at next)))))

pub loop-index-preserved : goal.loop-index-preserved
loop-index-preserved c = record {
  more = λ all h at next.
      let x = c.args.self.now in
      let n = c.args.place.now.state in
      let a = c.loop-index.invariant.more all h at next in
      more_on x all a.more c.hunt_turn.new.found
      (c.in_ok-taken.ensures.more (all ++ a.more) a.found (at_more x all a.more n c.args.machine.now at)
      (trial_more x all a.more n c.loop-index.next (c.loop-index.invariant.next all at next)));
  next = λ all at next. c.in_ok-taken.ensures.next all at (c.loop-index.invariant.next all at next);
}
