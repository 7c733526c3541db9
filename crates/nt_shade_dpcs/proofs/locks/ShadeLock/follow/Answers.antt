use Rattle.std.proofs.Common.{ap, eqb, sym, ◌∙◌}
use Rattle.std.proofs.lemmas.Bool.{eq-eqb}
use Rattle.std.specs.Prelude.{refl, true, ◌≡◌}
use Rattle.nt_event.specs.declared.numbers.CpuNo.{CpuNo}
use Rattle.nt_event.specs.declared.numbers.LockNo.{LockNo}
use Rattle.nt_event.specs.declared.scripts.Script.{Script}
use Rattle.nt_event.specs.Locks.{LockMove, LockState, lock_moved}
use Rattle.nt_states.specs.declared.locks.Move.{Move}
use Rattle.nt_states.specs.declared.locks.Move.TheVariants as move
use Rattle.nt_states.specs.LockMoves.{move_in, move_of}
use Rattle.nt_shade_dpcs.specs.Shades.{lock_said}
use Rattle.nt_shade_dpcs.proofs.locks.ShadeLock.follow.Goals as goal

-- a lock of the same number moves the same
same_lock : (s : Script) (k x : LockNo) (p : CpuNo) (by : Move) (o : LockState) → eqb x.0 k.0 ≡ true →
    lock_moved s k p (move_of k by) o ≡ lock_moved s k p (move_of x by) o
same_lock s k x p move.Gets o e = rw (e, eq-eqb k.0 k.0 refl) refl
same_lock s k x p move.Spins o e = rw (e, eq-eqb k.0 k.0 refl) refl
same_lock s k x p move.Frees o e = rw (e, eq-eqb k.0 k.0 refl) refl

pub returns-in-Some : goal.returns-in-Some
returns-in-Some c s size =
    let e : eqb c.in-Some.x.0 c.args.k.0 ≡ true = rw c.in-Some.is at (sym c.eq.ensures ∙ c.if-eq.true) in
    c.leave.ensures s c.args.k size ∙ same_lock s c.args.k c.in-Some.x c.args.p c.in-Some.by (lock_said c.args.self.now) e
    ∙ ap (λ (m : LockMove). lock_moved s c.args.k c.args.p m (lock_said c.args.self.now)) (ap move_in (sym c.in-Some.is))
