use Rattle.std.proofs.Common.{arith, length, subst, sym, ◌<◌}
use Rattle.std.specs.Prelude.{List}
use Rattle.nt_expect.specs.declared.expectations.Watched.{Watched}
use Rattle.nt_search.specs.Machines.{IsRefused, IsTaken, Stands}
use Rattle.nt_search.proofs.Leading.{uncut}
use Rattle.nt_search.proofs.GoingRound.{after, gone_on}
use Rattle.nt_search.proofs.plan.Plan.go_on.Goals as goal

pub turn_to-requires-clause-after : goal.turn_to-requires-clause-after
turn_to-requires-clause-after c =
    let x = c.args.self.now in
    let low = c.if-self-len.false in
    let len = c.len.ensures in
    let at = c.requires.at in
    (at.1, after x c.args.turns.now.items at.1 c.args.machine.now at.3 (omega (arith, low, len)))

pub take-requires : goal.take-requires
take-requires c =
    let x = c.args.self.now in
    let low = c.if-self-len.false in
    let len = c.len.ensures in
    let at = c.requires.at in
    let here = after x c.args.turns.now.items at.1 c.args.machine.now at.3 (omega (arith, low, len)) in
    uncut x.script.now x.limit x.watched.items _ at.1 c.args.machine.now here.stands here.short c.as_slice.ensures.value

pub returns-in_ok-push-in-Some : goal.returns-in_ok-push-in-Some
returns-in_ok-push-in-Some c b all past are has =
    let x = c.args.self.now in
    let s = x.script.now in
    let m = c.args.machine.now in
    let n = c.take.new.self in
    let t = c.in-Some.turn in
    let e = c.as_slice.ensures.value in
    let low = c.if-self-len.false in
    let len = c.len.ensures in
    let few : length c.args.turns.now.items < x.limit = omega (arith, low, len) in
    let here = after x c.args.turns.now.items past m has few in
    let old = subst (λ (w : List Watched). Stands s x.limit w past m) (sym e) here.stands in
    let leads = rw c.in-Some.is at c.in_ok-turn.ensures in
    gone_on x all c.args.turns.now.items c.push.new.self.items t past c.args.number m n c.in_ok-take-in-Some.field-0 has few
    (leads all past are here) c.in_ok-push-in-Some.ensures.items
    (λ q. subst (λ (w : List Watched). IsTaken s x.limit w t past n.event n) e (c.in_ok-take-in-Some.ensures.taken q s x.limit past old here.short))
    (λ q. subst (λ (w : List Watched). IsRefused s x.limit w t past n) e (c.in_ok-take-in-Some.ensures.refused q s x.limit past old here.short))
