use Rattle.std.proofs.Common.{IfOk, None, Ok, Option, Result, arith, length, suc, sym, ◌+◌, ◌-◌, ◌/◌, ◌≡◌, ◌∙◌, subst, ℕ}
use Rattle.std.specs.declared.alloc.AllocError.{AllocError}
use Rattle.nt_shrink.proofs.Halves.{fail_together, found_later, half_taken, missed_half, missed_twins, none_later, not_found, one_place, refused_before}
use Rattle.nt_shrink.proofs.Halves.{spare_last}
use Rattle.nt_shrink.proofs.Machines.{sound}
use Rattle.nt_shrink.specs.Machines.{Took}
use Rattle.nt_shrink.specs.Searches.{IsAnswer, IsMissed}
use Rattle.nt_shrink.specs.Spare.{is_spare}
use Rattle.nt_shrink.proofs.searching.Places.+greatest_spare.Goals.{else-take_all, then-take_all}
use Rattle.nt_shrink.proofs.searching.Places.+greatest_spare.Goals as goal

-- the values of equal results are equal
ok_same : (r : Result (Option ℕ) AllocError) (a b : Option ℕ) → r ≡ Ok a → r ≡ Ok b → a ≡ b
ok_same r a b h k = cc

pub returns-then-high-low : goal.returns-then-high-low
returns-then-high-low t c s limit taken missed =
    let list = c.args.self.now.turns.now in
    let test = is_spare s limit c.args.self.now.goal list in
    let twins = c.args.self.now.twins.now.flags.items in
    subst (IsMissed test (length list) twins) c.if-high-low.true
    (missed_twins test (length list) twins c.before_twins-high.result c.args.high c.before_twins-high.ensures.to missed
    (fail_together s limit c.args.self.now.goal list twins c.requires.twins) c.before_twins-high.ensures.twins)

pub returns-then-low-last : goal.returns-then-low-last
returns-then-low-last t c s limit taken missed =
    let list = c.args.self.now.turns.now in
    let test = is_spare s limit c.args.self.now.goal list in
    let twins = c.args.self.now.twins.now.flags.items in
    let high = c.before_twins-high.result in
    let from = c.before_twins-high.ensures.from in
    let other = c.if-high-low.false in
    let last = c.if-low-last.true in
    let next : high ≡ suc c.args.low = omega (arith, from, other, last) in
    let here = missed_twins test (length list) twins high c.args.high c.before_twins-high.ensures.to missed
    (fail_together s limit c.args.self.now.goal list twins c.requires.twins) c.before_twins-high.ensures.twins in
    subst (IsAnswer test (length list) twins c.args.low) (sym c.then_some.ensures)
    (one_place test (length list) twins c.args.low (high - 1) high c.delivers_without-is_spare.result next last here
    (spare_last s limit c.args.self.now.goal list c.args.low high c.args.machine.now c.delivers_without-is_spare.result taken next
    (c.delivers_without-is_spare.ensures s limit taken.end taken.took)))

pub greatest_spare-tried-requires : goal.greatest_spare-tried-requires
greatest_spare-tried-requires t c =
    let e = c.in_ok-later.ensures in
    let from = c.before_twins-high.ensures.from in
    let to = c.before_twins-high.ensures.to in
    let other = c.if-high-low.false in
    let last = c.if-low-last.false in
    let places = c.requires.places in
    let less = c.decreases in
    let a = c.take_all.ensures.taken (let y = c.if-take_all.true in cc) c.args.machine.now.processors.script c.args.machine.now.processors.limit
    c.requires.machine.0 (subst (Took _ _ c.args.self.now.goal c.requires.machine.0) (sym e) c.requires.machine.1) in (
      omega (arith, less, from, to, other, last),
      (c.requires.twins, (omega (arith, from), (omega (arith, to, places), sound _ _ c.args.self.now.goal a.end c.take_all.new.self a.took))),
    )

pub returns-then-is_some : goal.returns-then-is_some
returns-then-is_some t c s limit taken missed =
    let list = c.args.self.now.turns.now in
    let test = is_spare s limit c.args.self.now.goal list in
    let twins = c.args.self.now.twins.now.flags.items in
    let high = c.before_twins-high.result in
    let from = c.before_twins-high.ensures.from in
    let to = c.before_twins-high.ensures.to in
    let places = c.requires.places in
    let mid = c.args.low + (high - c.args.low) / 2 in
    let here = missed_twins test (length list) twins high c.args.high c.before_twins-high.ensures.to missed
    (fail_together s limit c.args.self.now.goal list twins c.requires.twins) c.before_twins-high.ensures.twins in
    elim c.if-take_all.branch [
      | then-take_all w ↦
          let half =
          half_taken s limit c.args.self.now.goal list c.args.low mid c.args.machine.now c.in_ok-later.later c.take_all.new.self c.in_ok-later.ensures
          taken (omega arith) (omega (arith, from, to, places)) (c.take_all.ensures.taken (let y = w.if-take_all.true in cc) s limit) in
          let e : w.greatest_spare-tried.result ≡ Ok c.in_ok-found.found = sym w.tried-is ∙ c.in_ok-found.was in
          found_later test (length list) twins c.args.low mid c.in_ok-found.found (sym c.is_some.ensures ∙ c.if-is_some.true)
          (subst (λ (r : Result (Option ℕ) AllocError). IfOk r (IsAnswer test (length list) twins mid)) e
          (w.greatest_spare-tried.ensures s limit half here))
      | else-take_all w ↦ let e : c.in_ok-found.found ≡ None = ok_same c.if-take_all.tried c.in_ok-found.found None c.in_ok-found.was w.tried-is in
          not_found c.in_ok-found.found e (sym c.is_some.ensures ∙ c.if-is_some.true)
    ]

pub returns : goal.returns
returns t c s limit taken missed =
    let list = c.args.self.now.turns.now in
    let test = is_spare s limit c.args.self.now.goal list in
    let twins = c.args.self.now.twins.now.flags.items in
    let high = c.before_twins-high.result in
    let from = c.before_twins-high.ensures.from in
    let to = c.before_twins-high.ensures.to in
    let other = c.if-high-low.false in
    let last = c.if-low-last.false in
    let places = c.requires.places in
    let mid = c.args.low + (high - c.args.low) / 2 in
    let here = missed_twins test (length list) twins high c.args.high c.before_twins-high.ensures.to missed
    (fail_together s limit c.args.self.now.goal list twins c.requires.twins) c.before_twins-high.ensures.twins in
    let half : IsMissed test (length list) twins mid = elim c.if-take_all.branch [
      | then-take_all w ↦
          let half =
          half_taken s limit c.args.self.now.goal list c.args.low mid c.args.machine.now c.in_ok-later.later c.take_all.new.self c.in_ok-later.ensures
          taken (omega arith) (omega (arith, from, to, places)) (c.take_all.ensures.taken (let y = w.if-take_all.true in cc) s limit) in
          let e : w.greatest_spare-tried.result ≡ Ok c.in_ok-found.found = sym w.tried-is ∙ c.in_ok-found.was in
          none_later test (length list) twins mid c.in_ok-found.found (sym c.is_some.ensures ∙ c.if-is_some.false)
          (subst (λ (r : Result (Option ℕ) AllocError). IfOk r (IsAnswer test (length list) twins mid)) e
          (w.greatest_spare-tried.ensures s limit half here))
      | else-take_all w ↦
          let no = c.take_all.ensures.refused (let y = w.if-take_all.false in cc) s limit taken.end
          (subst (Took s limit c.args.self.now.goal taken.end) (sym c.in_ok-later.ensures) taken.took) in
          missed_half test (length list) twins mid high (omega (arith, from, other, last)) here
          (λ at a b.
          refused_before s limit c.args.self.now.goal list c.args.low mid c.args.machine.now taken no (omega arith) at a (omega (arith, b, to, places)))
    ] in
    c.greatest_spare.ensures s limit taken half
