use Rattle.std.proofs.Common.{arith, sym}
use Rattle.std.specs.Prelude.{length, ◌<◌}
use Rattle.nt_event.specs.Locks.{lock_moved, start_lock}
use Rattle.nt_event.specs.Numbers.{lock}
use Rattle.nt_states.specs.LockMoves.{move_in}
use Rattle.nt_shade_dpcs.specs.Shades.{lock_said}
use Rattle.nt_shade_dpcs.proofs.Followed.{all_followed, next_followed}
use Rattle.nt_shade_dpcs.proofs.LocksFollowing.{flags_here}
use Rattle.nt_shade_dpcs.proofs.locks.follow_locks.Goals as goal

-- the place is one of the list
low : (c : goal.After-index_mut) → c.from.result < length c.loop-k.locks.items
low c =
    let s = c.requires.flags.0 in
    let t = c.loop-k-test.true in
    let l = c.len-count.ensures in
    let k = (c.loop-k.invariant s c.requires.flags.2).count in
    let f = c.from.ensures in
    omega (arith, t, l, k, f)

pub follow-requires : goal.follow-requires
follow-requires c =
    let s = c.requires.flags.0 in
    let l = c.requires.flags.1 in
    let e = flags_here s (λ k. lock_moved s (lock k) c.args.p (move_in c.moved_lock-moved.result)) c.loop-k.k c.from.result c.args.locks.now.items
    c.loop-k.locks.items c.index_mut.result.now (c.loop-k.invariant s c.requires.flags.2) c.requires.flags.2 c.from.ensures (low c) c.index_mut.ensures.value in
    omega (arith, l, e)

pub loop-k-preserved : goal.loop-k-preserved
loop-k-preserved c s flags =
    let so = c.loop-k.invariant s flags in
    let t = c.loop-k-test.true in
    let l = c.len-count.ensures in
    let k = so.count in
    let f = c.from.ensures in
    let place : c.from.result < length c.loop-k.locks.items = omega (arith, t, l, k, f) in
    next_followed lock_said (λ k. lock_moved s (lock k) c.args.p (move_in c.moved_lock-moved.result)) start_lock c.loop-k.k c.from.result
    c.args.locks.now.items c.loop-k.locks.items c.index_mut.result.now c.follow.new.self so c.from.ensures place c.index_mut.ensures.value
    (c.follow.ensures s (sym (flags_here s (λ k. lock_moved s (lock k) c.args.p (move_in c.moved_lock-moved.result)) c.loop-k.k c.from.result
    c.args.locks.now.items c.loop-k.locks.items c.index_mut.result.now so flags c.from.ensures place c.index_mut.ensures.value)))

pub returns : goal.returns
returns c s flags =
    rw (sym c.moved_lock-moved.ensures)
    (all_followed lock_said (λ k. lock_moved s (lock k) c.args.p (move_in c.moved_lock-moved.result)) start_lock c.loop-k.k c.args.locks.now.items
    c.loop-k.locks.items (c.loop-k.invariant s flags) (let t = c.loop-k-test.false in let l = c.len-count.ensures in omega (arith, t, l, c.requires.count)))
