use Rattle.std.proofs.Common.{drop, get_or, subst, sym}
use Rattle.std.proofs.lemmas.List.{get_or_default}
use Rattle.std.specs.Prelude.{List}
use Rattle.nt_event.specs.declared.events.Turn.TheVariants.{Next}
use Rattle.nt_expect.specs.declared.expectations.Watched.{Watched}
use Rattle.nt_search.specs.Machines.{IsRefused, IsTaken, Stands}
use Rattle.nt_search.proofs.Leading.{uncut, way_on, way_short}
use Rattle.nt_search.proofs.plan.Plan.walk.Goals as goal

pub take-requires : goal.take-requires
take-requires c =
    let x = c.args.self.now in
    let at = c.requires.at in
    let on = c.loop-place.invariant at.0 at.1 at.2 at.3 at.4 in
    let short = way_short x.script.now x.limit x.watched.items (drop c.loop-place.place c.args.turns.now) at.1 c.loop-place.machine on at.3 in
    uncut x.script.now x.limit x.watched.items c.as_slice-watched.result.now on.past c.loop-place.machine on.stands short c.as_slice-watched.ensures.value

pub loop-place-preserved : goal.loop-place-preserved
loop-place-preserved c from h lead short stands =
    let x = c.args.self.now in
    let ws = c.as_slice-watched.result.now in
    let e = c.as_slice-watched.ensures.value in
    let on = c.loop-place.invariant from h lead short stands in
    let s = x.script.now in
    let m = c.loop-place.machine in
    let n = c.take.new.self in
    let turns = c.args.turns.now in
    let i = c.loop-place.place in
    let t = get_or turns i (Next (record { 0 = 0 })) in
    way_on s x.limit x.watched.items turns i t h m n c.in_ok-take.field-0 on short c.loop-place-test.true
    (get_or_default turns i (Next (record { 0 = 0 })) t c.loop-place-test.true)
    (λ q past a b. subst (λ (w : List Watched). IsTaken s x.limit w t past n.event n) e
    (c.in_ok-take.ensures.taken q s x.limit past (subst (λ (w : List Watched). Stands s x.limit w past m) (sym e) a) b))
    (λ q past a b. subst (λ (w : List Watched). IsRefused s x.limit w t past n) e
    (c.in_ok-take.ensures.refused q s x.limit past (subst (λ (w : List Watched). Stands s x.limit w past m) (sym e) a) b))
