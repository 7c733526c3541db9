use Rattle.std.proofs.Common.{List, reverse, subst, sym, ◌∙◌}
use Rattle.std.specs.Prelude.{refl}
use Rattle.nt_event.specs.declared.events.Event.{Event}
use Rattle.nt_plain.specs.States.{view_of}
use Rattle.nt_cpus.specs.Following.{AreAfter}
use Rattle.nt_live.specs.Gathered.{GoesByRobin}
use Rattle.nt_live.proofs.AddedTurns.{ended_settled, fewer_left, goes_further, goes_still, newest_last}
use Rattle.nt_live.proofs.finishing.go_on_all.Goals as goal

pub loop-made-init : goal.loop-made-init
loop-made-init c = record {
  after = c.requires;
  script = refl;
  limit = refl;
  added = goes_still c.args.processors.now.script c.args.processors.now.limit (reverse c.args.events.now);
}

pub loop-made-smaller : goal.loop-made-smaller
loop-made-smaller c =
    let events = c.loop-made.events in
    let last = c.last_cpu.ensures in
    let did = c.go_on.ensures.event c.loop-made-test.true (reverse events) c.loop-made.invariant.after last in
    let kept = c.go_on.ensures.kept in
    fewer_left _ events c.go_on.new.event c.loop-made.processors c.go_on.new.self _ _ c.in_ok-push.ensures.ok kept.0 kept.1 did.2

pub loop-made-preserved : goal.loop-made-preserved
loop-made-preserved c =
    let i = c.loop-made.invariant in
    let events = c.loop-made.events in
    let s = c.args.processors.now.script in
    let limit = c.args.processors.now.limit in
    let last = c.last_cpu.ensures in
    let did = c.go_on.ensures.event c.loop-made-test.true (reverse events) i.after last in
    let list = newest_last _ events c.go_on.new.event c.in_ok-push.ensures.ok in
    record {
      after = subst (λ (past : List Event). AreAfter past c.go_on.new.self c.go_on.new.floor.script (view_of c.go_on.new.floor)) (sym list) did.2;
      script = c.go_on.ensures.kept.0 ∙ i.script;
      limit = c.go_on.ensures.kept.1 ∙ i.limit;
      added = subst (λ (past : List Event). GoesByRobin s limit (reverse c.args.events.now) past) (sym list)
          (goes_further s _ limit _ _ (reverse events) c.go_on.new.event i.script i.limit i.added did.0);
    }

pub returns-clause-settled : goal.returns-clause-settled
returns-clause-settled c =
    let i = c.loop-made.invariant in
    let last = c.last_cpu.ensures in
    ended_settled c.args.processors.now.script _ c.args.processors.now.limit _ (reverse c.loop-made.events) i.script i.limit i.after.run
    (c.go_on.ensures.none c.loop-made-test.false (reverse c.loop-made.events) i.after last)
