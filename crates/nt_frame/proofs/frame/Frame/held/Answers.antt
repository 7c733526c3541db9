use Rattle.std.proofs.Common.{arith, length, refl, ◌<◌}
use Rattle.std.proofs.lemmas.Grind.{get_or_default_zero}
use Rattle.nt_frame.proofs.HeldLocks.{held_place, length-held}
use Rattle.nt_frame.proofs.frame.Frame.held.Goals as goal

pub bounds-self-inside-place : goal.bounds-self-inside-place
bounds-self-inside-place c =
    let l = length-held c.self.inside.count c.self.inside.locks c.self.inside.kept in
    omega (arith, l, (rw (← c.self.view_is) at c.requires), c.self.invariant.count)

pub listed : goal.listed
listed c =
    let l = length-held c.self.inside.count c.self.inside.locks c.self.inside.kept in
    omega (arith, l, (rw (← c.self.view_is) at c.requires), c.self.invariant.count, c.self.invariant.levels)

pub bounds-self-inside-place-2 : goal.bounds-self-inside-place-2
bounds-self-inside-place-2 c =
    let l = length-held c.self.inside.count c.self.inside.locks c.self.inside.kept in
    omega (arith, l, (rw (← c.self.view_is) at c.requires), c.self.invariant.count)

pub returns : goal.returns
returns c =
    let n = c.self.inside.count in
    let ls = c.self.inside.locks in
    let ks = c.self.inside.kept in
    let l = length-held n ls ks in
    let below : c.args.place < n = omega (arith, l, (rw (← c.self.view_is) at c.requires)) in
    let levels : c.args.place < length ks = omega (arith, below, c.self.invariant.count, c.self.invariant.levels) in
    λ other. rw (
      ← c.self.view_is,
      held_place n c.args.place ls ks other below,
      c.from.ensures,
      get_or_default_zero ks c.args.place c.index-self-place.result levels,
    ) refl
