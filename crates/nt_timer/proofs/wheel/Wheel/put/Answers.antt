use Rattle.std.proofs.Common.{None, ap, arith, length, length-set, ◌<◌, ◌≡◌, sym}
use Rattle.nt_event.specs.Timers.{setting_in}
use Rattle.nt_timer.specs.Wheel.{WheelFacts}
use Rattle.nt_timer.proofs.Turning.{fewer_sorted, put_none, put_room, put_some}
use Rattle.std.proofs.lemmas.List.{get_or_read}
use Rattle.nt_timer.proofs.wheel.Wheel.put.Goals as goal

pub stand-requires-clause-room : goal.stand-requires-clause-room
stand-requires-clause-room c =
    let less : c.args.key < length c.self.inside.settings.items =
    let r = c.requires in let e = ap (λ (w : WheelFacts). length w.settings) c.self.view_is in omega arith in
    let at : setting_in c.self.inside.settings.items c.args.key ≡ c.index-old.result.now =
    sym (get_or_read c.self.inside.settings.items c.args.key c.index-old.result.now less c.index-old.ensures None) in
    let few =
    put_room c.self.inside.lowest c.self.inside.now c.args.key c.index-old.result.now c.self.inside.settings.items c.self.inside.rings
    c.self.inside.due.items
    c.lift.new.due.items c.self.invariant.4 at less c.lift.ensures.due in
    let room = c.lift.ensures.room in
    let whole = c.self.invariant.3 in
    let len = c.lift.new.due.ok in omega arith

pub stand-requires-clause-sorted : goal.stand-requires-clause-sorted
stand-requires-clause-sorted c =
    rw c.lift.ensures.due (fewer_sorted c.self.inside.now c.args.key c.index-old.result.now c.self.inside.due.items c.self.invariant.4.sorted)

pub invariant_of-self : goal.invariant_of-self
invariant_of-self c =
    let less : c.args.key < length c.self.inside.settings.items =
    let r = c.requires in let e = ap (λ (w : WheelFacts). length w.settings) c.self.view_is in omega arith in
    let at : setting_in c.self.inside.settings.items c.args.key ≡ c.index-old.result.now =
    sym (get_or_read c.self.inside.settings.items c.args.key c.index-old.result.now less c.index-old.ensures None) in
    let i = c.self.invariant in
    let l = length-set c.self.inside.settings.items c.args.key c.args.setting in (
      i.0,
      (let b = i.1 in let q = c.stand.ensures.lowest.0 in omega arith),
      (let b = i.2 in omega arith),
      (let b = i.3 in let r = c.lift.ensures.room in let q = c.stand.ensures.room in omega arith),
      put_some c.self.inside.lowest c.stand.new.lowest c.self.inside.now c.args.key c.index-old.result.now c.args.setting c.in-Some.setting
          c.self.inside.settings.items c.self.inside.rings c.lift.new.rings
          c.stand.new.rings c.self.inside.due.items c.lift.new.due.items c.stand.new.due.items i.4 at less c.in-Some.is c.lift.ensures.homes c.lift.ensures.due
          c.stand.ensures.homes c.stand.ensures.due c.stand.ensures.lowest.0 c.stand.ensures.lowest.1,
    )

pub invariant_of-self-in_default : goal.invariant_of-self-in_default
invariant_of-self-in_default c =
    let less : c.args.key < length c.self.inside.settings.items =
    let r = c.requires in let e = ap (λ (w : WheelFacts). length w.settings) c.self.view_is in omega arith in
    let at : setting_in c.self.inside.settings.items c.args.key ≡ c.index-old.result.now =
    sym (get_or_read c.self.inside.settings.items c.args.key c.index-old.result.now less c.index-old.ensures None) in
    let i = c.self.invariant in
    let l = length-set c.self.inside.settings.items c.args.key c.args.setting in (
      i.0,
      i.1,
      (let b = i.2 in omega arith),
      (let b = i.3 in let r = c.lift.ensures.room in omega arith),
      put_none c.self.inside.lowest c.self.inside.now c.args.key c.index-old.result.now c.args.setting c.self.inside.settings.items c.self.inside.rings
          c.lift.new.rings
          c.self.inside.due.items c.lift.new.due.items i.4 at less c.in_default.is c.lift.ensures.homes c.lift.ensures.due i.1,
    )
