-- Spin locks move as the history does, and keep a flag for each processor.
use Rattle.std.proofs.Common.{ap, arith, suc, sym, zero, ◌∙◌}
use Rattle.std.proofs.lemmas.List.{length-map}
use Rattle.std.specs.Prelude.{◌==◌, Bool, IsTrue, List, [], cond, false, get_or, length, map, true, ℕ, ◌<◌, ◌∷◌, ◌≡◌, ◌≤◌}
use Rattle.std.proofs.lemmas.Grind.{common_steps}
use Rattle.nt_event.specs.declared.events.Event.{Event}
use Rattle.nt_event.specs.declared.numbers.CpuNo.{CpuNo}
use Rattle.nt_event.specs.declared.numbers.LockNo.{LockNo}
use Rattle.nt_event.specs.declared.scripts.Script.{Script}
use Rattle.nt_event.specs.Lanes.{lanes_at}
use Rattle.nt_event.specs.Lists.{table, table_from}
use Rattle.nt_event.specs.Locks.{Frees, Gets, LockMove, LockState, NoMove, Spins, lock_move, lock_moved, lock_of, start_lock}
use Rattle.nt_event.specs.Numbers.{lock}
use Rattle.nt_event.specs.Script.{fits}
use Rattle.nt_event.proofs.Moves.{lock_moves}
use Rattle.nt_event.proofs.Tables.{length-table_from}
use Rattle.nt_alike.specs.Lists.{Each}
use Rattle.nt_shade_dpcs.specs.declared.locks.ShadeLock.{ShadeLock}
use Rattle.nt_shade_dpcs.specs.declared.shade.ShadeDpcs.{ShadeDpcs}
use Rattle.nt_shade_dpcs.specs.Changed.{HaveFlags, locks_moved}
use Rattle.nt_shade_dpcs.specs.Shade.{IsShade}
use Rattle.nt_shade_dpcs.specs.Shades.{lock_said}
use Rattle.nt_shade_dpcs.proofs.Followed.{IsFollowedTo, read_said}

-- ---- flags

-- of two locks with a flag for each processor, the one chosen has one for each
either : (b : Bool) (x y : LockState) (n : ℕ) → length x.spinners ≡ n → length y.spinners ≡ n → length (cond b x y).spinners ≡ n
either true x y n h k = h
either false x y n h k = k

-- a move of a lock leaves it with a flag for each processor
flags_after : (s : Script) (k : LockNo) (p : CpuNo) (m : LockMove) (x : LockState) → length x.spinners ≡ s.cpus →
    length (lock_moved s k p m x).spinners ≡ s.cpus
flags_after s k p (Gets j) x h = either (j.0 == k.0) _ x s.cpus (length-table_from 0 s.cpus _) h
flags_after s k p (Spins j) x h = either (j.0 == k.0) _ x s.cpus (length-table_from 0 s.cpus _) h
flags_after s k p (Frees j) x h = either (j.0 == k.0) _ x s.cpus h h
flags_after s k p NoMove x h = h

-- in a history each lock has a flag for each processor
flags_of : (s : Script) (k : LockNo) (past : List Event) → length (lock_of s k past).spinners ≡ s.cpus
flags_of s k [] = length-table_from 0 s.cpus _
flags_of s k (e ∷ past) = flags_after s k e.cpu (lock_move e.what) (lock_of s k past) (flags_of s k past)

-- what a function's values all have holds of each element of its table
each_table : {A : Type 0} (P : A → Type 0) (k n : ℕ) (f : ℕ → A) → ((i : ℕ) → P (f i)) → Each P (table_from k n f)
unfolding table_from
each_table P k zero f h = tt
each_table P k (suc n) f h = (h k, each_table P (suc k) n f h)

-- after each history every spin lock has a spinner flag for each processor
pub locks_have_flags : (s : Script) (past : List Event) → HaveFlags s (lanes_at s past).locks
locks_have_flags s past =
    each_table (λ (x : LockState). length x.spinners ≡ s.cpus) 0 s.locks (λ k. lock_of s (lock k) past) (λ k. flags_of s (lock k) past)

-- what holds of all elements of a list holds of the one at a place of it
each_at : {A : Type 0} (P : A → Type 0) (xs : List A) (i : ℕ) (d : A) → Each P xs → i < length xs → P (get_or xs i d)
each_at P [] i d h l = absurd (omega arith)
each_at P (x ∷ xs) zero d h l = h.0
each_at P (x ∷ xs) (suc i) d h l = each_at P xs i d h.1 (omega arith)

-- the lock that follows next has them
pub flags_here : (s : Script) (step : ℕ → LockState → LockState) (i n : ℕ) (old new : List ShadeLock) (was : ShadeLock) →
    IsFollowedTo lock_said step start_lock i old new → HaveFlags s (map lock_said old) → n ≡ i → n < length new → was ≡ get_or new n was →
    length was.spinners.items ≡ s.cpus
flags_here s step i n old new was so flags place low read =
    let count = so.count in
    let size = length-map old lock_said in
    ap (λ (x : LockState). length x.spinners) (read_said lock_said step start_lock i n new was place low read ∙ so.rest i (omega arith))
    ∙ each_at (λ (x : LockState). length x.spinners ≡ s.cpus) (map lock_said old) i start_lock flags (omega (arith, count, size, place, low))

-- ---- all locks

-- after each history there are as many spin locks as the script declares
pub locks_count : (s : Script) (past : List Event) → length (lanes_at s past).locks ≡ s.locks
locks_count s past = length-table_from 0 s.locks (λ k. lock_of s (lock k) past)

-- the spin locks after one more event are those before it, moved as the event moves them
pub locks_follow : (s : Script) (e : Event) (past : List Event) → (lanes_at s (e ∷ past)).locks
    ≡ locks_moved s e.cpu (lock_move e.what) (lanes_at s past).locks
locks_follow s e past =
    lock_moves s e past
    ∙ ap (λ (n : ℕ). table n (λ k. lock_moved s (lock k) e.cpu (lock_move e.what) (get_or (lanes_at s past).locks k start_lock))) (sym (locks_count s past))

-- a shade has as many spin locks as the script declares
pub locks_size : (s : Script) (past : List Event) (x : ShadeDpcs) → IsShade s past x → length x.locks.items ≡ s.locks
locks_size s past x is = sym (length-map x.locks.items lock_said) ∙ ap length is.locks ∙ locks_count s past

-- a script that fits declares at most 64 spin locks
pub few_locks : (s : Script) → IsTrue (fits s) → s.locks ≤ 64
few_locks s h = grind (arith, common_steps)
