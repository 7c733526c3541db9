use Rattle.std.proofs.Common.{◌≡◌, ◌<◌, ◌==◌, arith, false, refl}
use Rattle.std.specs.List.{list_any}
use Rattle.nt_frame.specs.HeldLocks.{held_in}
use Rattle.nt_frame.proofs.HeldLocks.{arrays_more, arrays_room, held_more}
use Rattle.nt_verify.proofs.walk.Walk.acquire.Goals as goal

pub bounds-self-inside-self-inside : goal.bounds-self-inside-self-inside
bounds-self-inside-self-inside c =
    arrays_room c.self.inside.count c.self.inside.locks c.self.inside.kept c.args.lock c.self.invariant.arrays c.requires.lock
    (rw (← c.self.view_is) at c.requires.free)

pub bounds-self-inside-self-inside-2 : goal.bounds-self-inside-self-inside-2
bounds-self-inside-self-inside-2 c =
    arrays_room c.self.inside.count c.self.inside.locks c.self.inside.kept c.args.lock c.self.invariant.arrays c.requires.lock
    (rw (← c.self.view_is) at c.requires.free)

pub invariant_of-self-2 : goal.invariant_of-self-2
invariant_of-self-2 c =
    record {
      crits = c.self.invariant.crits;
      guards = c.self.invariant.guards;
      arrays = arrays_more c.self.inside.count c.self.inside.locks c.self.inside.kept c.args.lock c.self.inside.level c.self.invariant.arrays c.requires.lock
          (rw (← c.self.view_is) at c.requires.free);
    }

pub listed : goal.listed
listed c =
    omega (
      arith,
      c.self.invariant.arrays.levels,
      arrays_room c.self.inside.count c.self.inside.locks c.self.inside.kept c.args.lock c.self.invariant.arrays c.requires.lock
          (rw (← c.self.view_is) at c.requires.free),
    )

pub returns : goal.returns
returns c =
    let free : list_any (λ h. h.lock.0 == c.args.lock.0) (held_in c.self.inside.count c.self.inside.locks c.self.inside.kept) ≡ false =
    rw (← c.self.view_is) at c.requires.free in
    let room : c.self.inside.count < 64 =
    arrays_room c.self.inside.count c.self.inside.locks c.self.inside.kept c.args.lock c.self.invariant.arrays c.requires.lock free in
    rw (
      held_more c.self.inside.count c.self.inside.locks c.self.inside.kept c.args.lock.0 c.self.inside.level
          (omega (arith, room, c.self.invariant.arrays.locks)) (omega (arith, room, c.self.invariant.arrays.levels)),
      ← c.self.view_is,
    )
    refl
