use Rattle.std.proofs.Common.{[], arith, get_or, subst, sym, take, ◌++◌}
use Rattle.std.proofs.lemmas.List.{take_all, take_more}
use Rattle.std.proofs.lemmas.Result.{err_from_is_err_and}
use Rattle.std.specs.Prelude.{List}
use Rattle.nt_event.specs.declared.events.Turn.{Turn}
use Rattle.nt_event.specs.declared.events.Turn.TheVariants.{Next}
use Rattle.nt_search.specs.declared.stop.Stop.{Stop}
use Rattle.nt_search.specs.Searches.{AreTried, IsStopped}
use Rattle.nt_search.proofs.Listing.{if_err}
use Rattle.nt_search.proofs.Beginning.{trial_more}
use Rattle.nt_search.proofs.TryingMore.{at_more, none_of, one_more, stopped_more}
use Rattle.nt_search.proofs.plan.Plan.try_all.Goals as goal

pub loop-place-init : goal.loop-place-init
loop-place-init c = record {
  tried = λ all h at next. none_of c.args.self.now all (get_or all c.args.from []) c.args.found.now h;
  next = λ all h at next. next;
}

pub try_turn-requires-clause-at : goal.try_turn-requires-clause-at
try_turn-requires-clause-at c =
    let x = c.args.self.now in
    let at = c.requires.at in
    let a = c.loop-place.invariant.tried at.0 at.1 at.2 at.3 in
    let n = c.loop-place.invariant.next at.0 at.1 at.2 at.3 in (
      at.0 ++ a.more,
      a.found,
      at_more x at.0 a.more c.args.from c.args.machine.now at.2,
      trial_more x at.0 a.more c.args.from c.loop-place.next n,
    )

pub returns-in_err-try_turn-clause-stopped : goal.returns-in_err-try_turn-clause-stopped
returns-in_err-try_turn-clause-stopped c =
    let r = err_from_is_err_and c.from_residual.result c.from_residual.ensures.1 in
    if_err _ c.from_residual.result r.0 r.1
    (λ all h at next.
    let x = c.args.self.now in
    let a = c.loop-place.invariant.tried all h at next in
    let n = c.loop-place.invariant.next all h at next in
    subst (λ (stop : Stop). IsStopped x all stop c.try_turn.new.found) (sym r.2)
    (stopped_more x all a.more _ c.try_turn.new.found
    (c.in_err-try_turn.ensures.stopped (all ++ a.more) a.found (at_more x all a.more c.args.from c.args.machine.now at)
    (trial_more x all a.more c.args.from c.loop-place.next n))))

pub loop-place-preserved : goal.loop-place-preserved
loop-place-preserved c = record {
  tried = λ all h at next.
      let x = c.args.self.now in
      let turns = c.args.turns.now in
      let i = c.loop-place.place in
      let t = get_or turns i (Next (record { 0 = 0 })) in
      let a = c.loop-place.invariant.tried all h at next in
      let n = c.loop-place.invariant.next all h at next in
      let b = c.in_ok-try_turn.ensures.tried (all ++ a.more) a.found (at_more x all a.more c.args.from c.args.machine.now at)
      (trial_more x all a.more c.args.from c.loop-place.next n) in
      subst (λ (ts : List Turn). AreTried x all (get_or all c.args.from []) ts c.args.found.now c.try_turn.new.found)
      (sym (take_more turns i (Next (record { 0 = 0 })) c.loop-place-test.true))
      (one_more x all c.args.from (take i turns) t c.args.found.now c.loop-place.found c.try_turn.new.found at.state a b);
  next = λ all h at next. c.in_ok-try_turn.ensures.next all at (c.loop-place.invariant.next all h at next);
}

pub returns-clause-tried : goal.returns-clause-tried
returns-clause-tried c all h at next =
    let x = c.args.self.now in
    let turns = c.args.turns.now in
    let test = c.loop-place-test.false in
    subst (λ (ts : List Turn). AreTried x all (get_or all c.args.from []) ts c.args.found.now c.loop-place.found)
    (take_all c.loop-place.place turns (omega (arith, test))) (c.loop-place.invariant.tried all h at next)
