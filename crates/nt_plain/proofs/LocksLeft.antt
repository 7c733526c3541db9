-- What an event leaves of the spin locks: of the one that it moves what the move leaves, of the others what there was.
use Rattle.std.proofs.Common.{ap, arith, inl, inr, length, set, sym, ◌∙◌}
use Rattle.std.proofs.lemmas.Bool.{cases_eq, ltb-true, ne_eqb}
use Rattle.std.proofs.lemmas.List.{get_or-set_other, get_or-set_same, get_or_read, length-set}
use Rattle.std.specs.Prelude.{Bool, IsTrue, List, false, get_or, if◌then◌else◌, refl, true, ℕ, ◌<◌, ◌==◌, ◌≡◌}
use Rattle.nt_event.specs.declared.commands.Command.{Command}
use Rattle.nt_event.specs.declared.commands.Command.TheVariants as cmd
use Rattle.nt_event.specs.declared.commands.Reply.{Reply}
use Rattle.nt_event.specs.declared.commands.Reply.TheVariants.{Done, Spin}
use Rattle.nt_event.specs.declared.events.What.{What}
use Rattle.nt_event.specs.declared.events.What.TheVariants as what
use Rattle.nt_event.specs.declared.numbers.CpuNo.{CpuNo}
use Rattle.nt_event.specs.declared.numbers.LockNo.{LockNo}
use Rattle.nt_event.specs.declared.scripts.Script.{Script}
use Rattle.nt_event.specs.Fitting.{what_fits}
use Rattle.nt_event.specs.Locks.{Frees, Gets, LockMove, LockState, NoMove, Spins, call_move, lock_move, lock_moved, start_lock}
use Rattle.nt_event.specs.Numbers.{lock}
use Rattle.nt_event.specs.Script.{command_fits, has_lock}
use Rattle.nt_event.proofs.Tables.{get_or-table, length-table_from, table-self}
use Rattle.nt_states.specs.declared.locks.Move.{Move}
use Rattle.nt_states.specs.declared.locks.Move.TheVariants as move
use Rattle.nt_states.specs.LockMoves.{move_of}
use Rattle.nt_plain.specs.Locks.{AreLocks, MayMove, locks_left}

-- ---- a lock keeps its flags

-- the choice of two locks with the same number of spinner flags has that number of flags
either : (b : Bool) (x y : LockState) (n : ℕ) → length x.spinners ≡ n → length y.spinners ≡ n → length (if b then x else y).spinners ≡ n
either true x y n h k = h
either false x y n h k = k

-- a move of a lock leaves a spinner flag for each processor
flags_after : (s : Script) (k : LockNo) (p : CpuNo) (m : LockMove) (x : LockState) → length x.spinners ≡ s.cpus →
    length (lock_moved s k p m x).spinners ≡ s.cpus
flags_after s k p (Gets j) x h = either (j.0 == k.0) _ x s.cpus (length-table_from 0 s.cpus _) h
flags_after s k p (Spins j) x h = either (j.0 == k.0) _ x s.cpus (length-table_from 0 s.cpus _) h
flags_after s k p (Frees j) x h = either (j.0 == k.0) _ x s.cpus h h
flags_after s k p NoMove x h = h

-- an event leaves one state for each lock of the script, with a flag for each processor
pub still_locks : (s : Script) (p : CpuNo) (w : What) (xs : List LockState) → AreLocks s xs → AreLocks s (locks_left s p w xs)
still_locks s p w xs are =
    let size : length (locks_left s p w xs) ≡ s.locks = length-table_from 0 s.locks _ in
    record {
      count = size;
      flags = λ i d l. let low : i < s.locks = omega (arith, size, l) in
          rw (get_or-table s.locks i (λ k. lock_moved s (lock k) p (lock_move w) (get_or xs k start_lock)) d low)
          (flags_after s (lock i) p (lock_move w) (get_or xs i start_lock) (are.flags i start_lock (let count = are.count in omega (arith, count, low))));
    }

-- ---- the lock that moves is the script's

-- whether a move of a lock names a lock of the script
move_fits : Script → LockMove → Bool
move_fits s (Gets k) = has_lock s k
move_fits s (Spins k) = has_lock s k
move_fits s (Frees k) = has_lock s k
move_fits s NoMove = true

-- the lock move of a call whose command fits the script names a lock of the script
call_move_fits : (s : Script) (c : Command) (y : Reply) → command_fits s c ≡ true → move_fits s (call_move c y) ≡ true
unfolding move_fits
call_move_fits s (cmd.Acquire k) Done h = h
call_move_fits s (cmd.Acquire k) Spin h = h
call_move_fits s (cmd.Unlock k) Done h = h
call_move_fits s (cmd.Acquire k) y h = refl
call_move_fits s (cmd.Unlock k) y h = refl
call_move_fits s c y h = refl

-- the lock move of an event that fits the script names a lock of the script
lock_move_fits : (s : Script) (w : What) → what_fits s w ≡ true → move_fits s (lock_move w) ≡ true
unfolding move_fits
lock_move_fits s (what.Call f c y) h = call_move_fits s c y h
lock_move_fits s (what.Free f k) h = h
lock_move_fits s w h = refl

-- a move of a lock fits exactly if the lock is one of the script's
its_lock : (s : Script) (k : LockNo) (by : Move) → move_fits s (move_of k by) ≡ has_lock s k
unfolding move_fits
its_lock s k move.Gets = refl
its_lock s k move.Spins = refl
its_lock s k move.Frees = refl

-- the lock that an event of the script gets, spins on or frees is one of the script's
pub named_lock : (s : Script) (w : What) (k : LockNo) (by : Move) → IsTrue (what_fits s w) → move_of k by ≡ lock_move w → k.0 < s.locks
named_lock s w k by h e =
    ltb-true k.0 s.locks (sym (its_lock s k by) ∙ (ap (move_fits s) e ∙ lock_move_fits s w h))

-- ---- what is left

-- an event that moves no lock leaves all spin locks as they were
pub none_moved : (s : Script) (p : CpuNo) (w : What) (xs : List LockState) → AreLocks s xs → NoMove ≡ lock_move w → xs ≡ locks_left s p w xs
none_moved s p w xs are e =
    rw (← e) (sym (table-self start_lock s.locks xs (λ k. get_or xs k start_lock) are.count (λ i l. refl)))

-- a move of one lock leaves the other locks as they were
elsewhere : (s : Script) (i : ℕ) (k : LockNo) (by : Move) (p : CpuNo) (x : LockState) → (k.0 ≡ i → ⊥) → lock_moved s (lock i) p (move_of k by) x ≡ x
elsewhere s i k move.Gets p x apart = rw (ne_eqb k.0 i apart) refl
elsewhere s i k move.Spins p x apart = rw (ne_eqb k.0 i apart) refl
elsewhere s i k move.Frees p x apart = rw (ne_eqb k.0 i apart) refl

-- writing the moved state of the one lock that an event moves leaves all spin locks as the event does
pub one_moved : (s : Script) (p : CpuNo) (w : What) (xs : List LockState) (k : LockNo) (by : Move) (new : LockState) → AreLocks s xs →
    k.0 < s.locks → move_of k by ≡ lock_move w → new ≡ lock_moved s k p (move_of k by) (get_or xs k.0 start_lock) →
    set xs k.0 new ≡ locks_left s p w xs
one_moved s p w xs k by new are low e is =
    rw (← e) (sym (table-self start_lock s.locks (set xs k.0 new) (λ i. lock_moved s (lock i) p (move_of k by) (get_or xs i start_lock))
    (length-set xs k.0 new ∙ are.count) each))
  where
    each : (i : ℕ) → i < s.locks → lock_moved s (lock i) p (move_of k by) (get_or xs i start_lock) ≡ get_or (set xs k.0 new) i start_lock
    each i l = elim (cases_eq i k.0) [
      | inl same ↦ rw (same, get_or-set_same xs k.0 new start_lock (let count = are.count in omega (arith, count, low))) (sym is)
      | inr apart ↦ rw (get_or-set_other xs k.0 i new start_lock apart) (elsewhere s i k by p (get_or xs i start_lock) (λ h. apart (sym h)))
    ]

-- the same of the items, where the lock was read
pub moved_here : (s : Script) (p : CpuNo) (w : What) (items xs : List LockState) (n : ℕ) (k : LockNo) (by : Move) (old new : LockState) →
    items ≡ xs → n ≡ k.0 → MayMove s xs p w → move_of k by ≡ lock_move w → old ≡ get_or items n old →
    ((t : Script) → t.cpus ≡ length old.spinners → new ≡ lock_moved t k p (move_of k by) old) → set items n new ≡ locks_left s p w xs
moved_here s p w items xs n k by old new same place may e read moves =
    let low : k.0 < s.locks = named_lock s w k by may.named e in
    let count : length xs ≡ s.locks = may.locks.count in
    let here : old ≡ get_or xs k.0 start_lock = get_or_read xs k.0 old (omega (arith, count, low)) (rw (same, place) at read) start_lock in
    let flags : length (get_or xs k.0 start_lock).spinners ≡ s.cpus = may.locks.flags k.0 start_lock (omega (arith, count, low)) in
    let left : new ≡ lock_moved s k p (move_of k by) old = moves s (rw here (sym flags)) in
    rw (same, place) (one_moved s p w xs k by new may.locks low e (rw here at left))
