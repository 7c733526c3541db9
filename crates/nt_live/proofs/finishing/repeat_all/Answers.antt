use Rattle.std.proofs.Common.{List, ap, arith, get_or, length, subst, sym, ◌<◌, ◌∙◌, ◌≡◌}
use Rattle.std.specs.List.{slice_get}
use Rattle.std.specs.Prelude.{Some, refl, ℕ}
use Rattle.nt_event.specs.declared.events.Event.{Event}
use Rattle.nt_plain.specs.States.{view_of}
use Rattle.nt_cpus.specs.Following.{AreAfter}
use Rattle.nt_history.proofs.Lists.{as_many}
use Rattle.nt_live.proofs.AddedTurns.{next_given, past_at, past_more, past_whole}
use Rattle.nt_live.proofs.Zipped.{got}
use Rattle.nt_live.proofs.finishing.repeat_all.Goals as goal

-- the event that is read is the one of its number
read : (list events : List Event) (n : ℕ) (e : Event) → list ≡ events → slice_get list n ≡ Some e → e ≡ get_or events n e
read list events n e same is = sym (got events n e e (ap (λ (es : List Event). slice_get es n) (sym same) ∙ is))

pub event-requires : goal.event-requires
event-requires c =
    let t = c.loop-number-test.true in
    let e = c.len-number-end.ensures in
    let many = as_many c.lend-list.result.briefs.now c.lend-list.result.rises.now in
    let same = ap length c.lend-list.ensures.events in
    omega (arith, t, e, many, same)

pub repeat-requires : goal.repeat-requires
repeat-requires c =
    let i = c.loop-number.invariant in
    let n = c.loop-number.number in
    let t = c.loop-number-test.true in
    let e = c.len-number-end.ensures in
    let w : n < length c.args.events.now = omega (arith, t, e) in
    let r = read _ c.args.events.now n c.event.result c.lend-list.ensures.events c.event.ensures in (
      past_at n c.args.events.now,
      (
        i.after,
        next_given _ _ _ _ _ c.args.events.now n c.event.result i.script i.limit refl c.requires.run w r,
      ),
    )

pub loop-number-preserved : goal.loop-number-preserved
loop-number-preserved c =
    let i = c.loop-number.invariant in
    let n = c.loop-number.number in
    let t = c.loop-number-test.true in
    let e = c.len-number-end.ensures in
    let w : n < length c.args.events.now = omega (arith, t, e) in
    let r = read _ c.args.events.now n c.event.result c.lend-list.ensures.events c.event.ensures in
    let next = next_given _ _ _ _ _ c.args.events.now n c.event.result i.script i.limit refl c.requires.run w r in
    record {
      after = subst (λ (past : List Event). AreAfter past c.repeat.new.processors c.repeat.new.floor.script (view_of c.repeat.new.floor))
          (sym (past_more c.args.events.now n c.event.result w r)) (c.repeat.ensures.after _ i.after next);
      script = c.repeat.ensures.kept.0 ∙ i.script;
      limit = c.repeat.ensures.kept.1 ∙ i.limit;
    }

pub returns-clause-after : goal.returns-clause-after
returns-clause-after c =
    let t = c.loop-number-test.false in
    let e = c.len-number-end.ensures in
    subst (λ (past : List Event). AreAfter past c.loop-number.processors c.loop-number.floor.script (view_of c.loop-number.floor))
    (past_whole c.args.events.now c.loop-number.number (omega (arith, t, e))) c.loop-number.invariant.after
