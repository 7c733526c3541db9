use Rattle.std.proofs.Common.{◌∙◌, ◌≡◌, ◌<◌, List, ap, arith, get_or, length, refl, subst, sym, true, ℕ}
use Rattle.std.proofs.lemmas.List.{get_or_default}
use Rattle.std.specs.Prelude.{filter, not}
use mathlib.Core.Logic.{dite}
use native.Mathlib.Decide.{ℕ_discrete}
use Rattle.nt_work.specs.declared.change.Change.TheVariants.{Takes}
use Rattle.nt_work.specs.declared.change.Insert.{Insert}
use Rattle.nt_work.specs.Changes.{RiseBelow, stays_by, thing_of, uses}
use Rattle.nt_work.proofs.Rising.{all_stay, away_one}
use Rattle.nt_work.proofs.waiting.take_away.Goals as goal

pub loop-place-init : goal.loop-place-init
loop-place-init c = record { stay = λ j d lt. absurd (omega (arith, lt)); same = refl; within = omega arith }

pub loop-place-preserved : goal.loop-place-preserved
loop-place-preserved c =
    let t : Insert = c.args.taken in
    let xs : List Insert = c.loop-place.pending.items in
    let k : ℕ = c.loop-place.place in
    let x : Insert = c.index.result.now in
    let before = c.loop-place.invariant in
    let ok = c.args.pending.now.ok in
    let len = c.len-place-end.ensures in
    let many : length xs ≡ length c.args.pending.now.items = ap (λ (ys : List Insert). length ys) before.same in
    let lt : k < length xs = omega (arith, c.loop-place-test.true, ok, len, many) in
    let here : stays_by (Takes t) x ≡ true = ap not (sym c.uses_up.ensures ∙ c.if-uses_up.false) in
    record {
      stay = λ j d less.
          dite (ℕ_discrete j k)
          (λ e.
          subst (λ (y : Insert). stays_by (Takes t) y ≡ true)
          (sym (ap (λ (m : ℕ). get_or xs m d) e ∙ get_or_default xs k d x lt ∙ sym c.index.ensures)) here)
          (λ ne. before.stay j d (omega (arith, less, ne)));
      same = before.same;
      within = omega (arith, lt);
    }

pub returns-then-uses_up-clause-kept : goal.returns-then-uses_up-clause-kept
returns-then-uses_up-clause-kept c =
    let t : Insert = c.args.taken in
    let xs : List Insert = c.loop-place.pending.items in
    let k : ℕ = c.loop-place.place in
    let x : Insert = c.index.result.now in
    let before = c.loop-place.invariant in
    let ok = c.args.pending.now.ok in
    let len = c.len-place-end.ensures in
    let many : length xs ≡ length c.args.pending.now.items = ap (λ (ys : List Insert). length ys) before.same in
    let lt : k < length xs = omega (arith, c.loop-place-test.true, ok, len, many) in
    let rise : RiseBelow c.requires.0 xs = subst (λ (ys : List Insert). RiseBelow c.requires.0 ys) (sym before.same) c.requires.1 in
    let used : uses (Takes t) (thing_of (get_or xs k x).object) (get_or xs k x).number ≡ true =
    subst (λ (y : Insert). uses (Takes t) (thing_of y.object) y.number ≡ true) c.index.ensures (sym c.uses_up.ensures ∙ c.if-uses_up.true) in
    c.remove.ensures.items ∙ away_one t c.requires.0 xs k x rise lt before.stay used ∙ ap (filter (stays_by (Takes t))) before.same

pub returns-clause-kept : goal.returns-clause-kept
returns-clause-kept c =
    let t : Insert = c.args.taken in
    let xs : List Insert = c.loop-place.pending.items in
    let before = c.loop-place.invariant in
    let ok = c.args.pending.now.ok in
    let len = c.len-place-end.ensures in
    let many : length xs ≡ length c.args.pending.now.items = ap (λ (ys : List Insert). length ys) before.same in
    let end = c.loop-place-test.false in
    all_stay t xs (λ j d lt. before.stay j d (omega (arith, lt, ok, len, many, end))) ∙ ap (filter (stays_by (Takes t))) before.same
