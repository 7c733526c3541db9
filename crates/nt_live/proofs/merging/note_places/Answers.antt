use Rattle.std.proofs.Common.{arith, inl, length, refl, ◌<◌}
use Rattle.nt_live.specs.declared.merging.Place.{Place}
use Rattle.nt_live.proofs.Places.{below_all, noted_all, noted_then, others_then}
use Rattle.nt_live.proofs.merging.note_places.Goals as goal
use Rattle.nt_live.proofs.merging.note_places.Goals.{After-number}

pub loop-at-init : goal.loop-at-init
loop-at-init c = record {
  others = λ n p. inl refl;
  noted = λ j x p l. absurd (omega (arith, l));
}

-- the place in the loop is one of the list
inside : (c : After-number) → c.loop-at.at < length c.args.list.now
inside c = let e = c.len-at-end.ensures in let t = c.loop-at-test.true in omega (arith, e, t)

pub bounds-places-number : goal.bounds-places-number
bounds-places-number c =
    let long = c.loop-at.auto.places in
    let b = below_all c.args.list.now c.loop-at.at c.number.result (length c.args.places.now) (inside c) c.number.ensures c.requires.below in
    omega (arith, b, long)

pub offset_bounds-places-number : goal.offset_bounds-places-number
offset_bounds-places-number c =
    let b = bounds-places-number c in
    let a = c.loop-at.auto.places in
    let w = c.well_formed.0 in
    omega (arith, b, a, w.1)

pub loop-at-preserved : goal.loop-at-preserved
loop-at-preserved c =
    let list = c.args.list.now in
    let q : Place = record { list = c.args.which; at = c.loop-at.at } in
    let i = c.loop-at.invariant in
    let b = bounds-places-number c in
    record {
      others = others_then list c.args.which c.loop-at.at c.number.result c.loop-at.places q refl refl (inside c) c.number.ensures b
          c.args.places.now i.others;
      noted = noted_then list c.args.which c.loop-at.at c.number.result c.loop-at.places q refl refl (inside c) c.number.ensures b i.noted;
    }

pub returns-clause-others : goal.returns-clause-others
returns-clause-others c = c.loop-at.invariant.others

pub returns-clause-noted : goal.returns-clause-noted
returns-clause-noted c =
    let a = c.loop-at.auto.at-end in
    let e = c.len-at-end.ensures in
    let t = c.loop-at-test.false in
    noted_all c.args.list.now c.args.which c.loop-at.at c.loop-at.places (omega (arith, a, e, t)) c.loop-at.invariant.noted
