-- Levels are at most 15: of each frame, where the commands that were called and the interrupts that began are in range.
use Rattle.std.proofs.Common.{arith}
use Rattle.std.specs.List.{AllByRecursion}
use Rattle.std.specs.Option.{option_map_or, option_or}
use Rattle.std.specs.Prelude.{Bool, IfSome, List, None, Option, Some, [], false, get_or, if◌then◌else◌, length, true, ℕ, ◌==◌, ◌∷◌, ◌≤◌}
use Rattle.nt_event.specs.declared.commands.Command.{Command}
use Rattle.nt_event.specs.declared.commands.Command.TheVariants.{Delay, Lower, Raise, StartWait}
use Rattle.nt_event.specs.declared.commands.Reply.{Reply}
use Rattle.nt_event.specs.declared.commands.Reply.TheVariants.{Done}
use Rattle.nt_event.specs.declared.events.Begun.TheVariants.{Apc, Dpc, Int, Threaded}
use Rattle.nt_event.specs.declared.events.Event.{Event}
use Rattle.nt_event.specs.declared.events.What.{What}
use Rattle.nt_event.specs.declared.events.What.TheVariants.{Begin, Call, Clean, End, Expire, Fire, Flush, Free, Gone, Look, Normal, Rest, Rewait, Switch}
use Rattle.nt_event.specs.declared.frames.Held.{Held}
use Rattle.nt_event.specs.Frame.{Frame}
use Rattle.nt_event.specs.declared.numbers.ApcNo.{ApcNo}
use Rattle.nt_event.specs.declared.numbers.CpuNo.{CpuNo}
use Rattle.nt_event.specs.declared.numbers.RoutineNo.{RoutineNo}
use Rattle.nt_event.specs.declared.numbers.ThreadNo.{ThreadNo}
use Rattle.nt_event.specs.declared.scripts.Script.{Script}
use Rattle.nt_event.specs.Frames.{at_name, called, done_to, due_of, effect, end_on_thread, ended_base, flushed, frames_of, freed, freed_level, held_moved}
use Rattle.nt_event.specs.Frames.{is_base_body, kept_in, level_in, level_moved, normal_of, own_after, own_frames, resumed, rewaited, running, spin_moved}
use Rattle.nt_event.specs.Frames.{switched_to, thread_after, thread_frames, thread_if, time, without}
use Rattle.nt_event.specs.Lists.{head_of, table, tail_of}
use Rattle.nt_event.specs.Locks.{Frees, Gets, LockMove, NoMove, Spins, call_move}
use Rattle.nt_event.specs.Numbers.{is_by, is_of, thread}
use Rattle.nt_event.specs.Routines.{rundown_of}
use Rattle.nt_line.specs.Fits.{HasRange}
use Rattle.nt_print.specs.Conditions.{BegunInRange}
use Rattle.nt_ranges.proofs.Lists.{of_table}

-- an event that leaves levels in range where they were so
abbrev pub KeepsLevels : What → Type 0
KeepsLevels (Call f c y) = HasRange c
KeepsLevels (Begin b from) = BegunInRange b
KeepsLevels (Look r) = Unit {0}
KeepsLevels (Normal f) = Unit {0}
KeepsLevels (End f) = Unit {0}
KeepsLevels (Expire key from) = Unit {0}
KeepsLevels (Fire d y) = Unit {0}
KeepsLevels (Clean class) = Unit {0}
KeepsLevels (Switch t status) = Unit {0}
KeepsLevels (Rewait f y) = Unit {0}
KeepsLevels (Flush a from) = Unit {0}
KeepsLevels (Gone t) = Unit {0}
KeepsLevels (Free f k) = Unit {0}
KeepsLevels Rest = Unit {0}

-- the level that is kept with a lock
abbrev KeptLow : Held → Type 0
KeptLow h = h.kept ≤ 15

-- the level of a frame, and those that are kept with the lock on which it spins and with those that it holds
abbrev IsLow : Frame → Type 0
IsLow f = (f.level ≤ 15) × IfSome f.spin KeptLow × AllByRecursion KeptLow f.held

abbrev AreLow : List Frame → Type 0
AreLow fs = AllByRecursion IsLow fs

-- ---- what an event does to a frame

-- a command that is done leaves the level of a frame at most 15
done_low : (c : Command) (f : Frame) → HasRange c → f.level ≤ 15 → (done_to c f).level ≤ 15
done_low (Raise level) f h k = h
done_low (Lower level) f h k = h
done_low c f h k = k

-- the effect of a command with its reply leaves the level of a frame at most 15
effect_low : (due : Option ℕ) (c : Command) (y : Reply) (f : Frame) → HasRange c → f.level ≤ 15 → (effect due c y f).level ≤ 15
effect_low due (StartWait m a) y f h k = k
effect_low due (Delay m a units) y f h k = k
effect_low due c Done f h k = done_low c f h k
effect_low due c y f h k = k

-- the level that is kept in a low frame is at most 15
kept_low : (f : Frame) → IsLow f → kept_in f ≤ 15
kept_low f h = go f.spin h.1
  where
    go : (o : Option Held) → IfSome o KeptLow → option_map_or (λ h. h.kept) o f.level ≤ 15
    go None k = h.0
    go (Some x) k = k

-- the level to which freeing a lock returns a low frame is at most 15
freed_level_low : (f : Frame) → IsLow f → freed_level f ≤ 15
freed_level_low f h = go f.held h.2
  where
    go : (hs : List Held) → AllByRecursion KeptLow hs → option_map_or (λ h. h.kept) (head_of hs) f.level ≤ 15
    go [] k = h.0
    go (x ∷ hs) k = k.0

-- leaving out the first held lock leaves the kept levels at most 15
tail_low : (hs : List Held) → AllByRecursion KeptLow hs → AllByRecursion KeptLow (tail_of hs)
tail_low [] h = tt
tail_low (x ∷ hs) h = h.1

-- what a move of a lock leaves of the level, of the lock on which it spins, and of those that it holds
moved_low : (m : LockMove) (f : Frame) (level : ℕ) → IsLow f → level ≤ 15 →
    (level_moved m f level ≤ 15) × IfSome (spin_moved m f) KeptLow × AllByRecursion KeptLow (held_moved m f)
moved_low (Gets k) f level h l = (omega arith, tt, (kept_low f h, h.2))
moved_low (Spins k) f level h l = (omega arith, kept_low f h, h.2)
moved_low (Frees k) f level h l = (freed_level_low f h, tt, tail_low f.held h.2)
moved_low NoMove f level h l = (l, tt, h.2)

-- a call with a command in range leaves a low frame low
called_low : (due : Option ℕ) (c : Command) (y : Reply) (f : Frame) → HasRange c → IsLow f → IsLow (called due c y f)
called_low due c y f h k = moved_low (call_move c y) f (effect due c y f).level k (effect_low due c y f h k.0)

-- freeing a lock leaves a low frame low
freed_low : (f : Frame) → IsLow f → IsLow (freed f)
freed_low f h = (freed_level_low f h, h.1, tail_low f.held h.2)

-- resuming with a status leaves a low frame low
resumed_low : (status : Option ℕ) (f : Frame) → IsLow f → IsLow (resumed status f)
resumed_low None f h = h
resumed_low (Some x) f h = h

-- ---- and to a part

-- a change that keeps frames low, made at the frames of one name, leaves all frames low
named_low : (n : ℕ) (g : Frame → Frame) (fs : List Frame) → ((f : Frame) → IsLow f → IsLow (g f)) → AreLow fs → AreLow (at_name n g fs)
named_low n g [] i h = h
named_low n g (f ∷ fs) i h = (go (f.name == n), h.1)
  where
    go : (b : Bool) → IsLow (if b then g f else f)
    go true = i f h.0
    go false = h.0

-- taking out the frames of one name leaves the others low
without_low : (n : ℕ) (fs : List Frame) → AreLow fs → AreLow (without n fs)
without_low n [] h = h
without_low n (f ∷ fs) h = go (f.name == n)
  where
    go : (b : Bool) → AreLow (if b then fs else (f ∷ fs))
    go true = h.1
    go false = h

-- ending an activity on a thread leaves the frames low
end_low : (n : ℕ) (fs : List Frame) → AreLow fs → AreLow (end_on_thread n fs)
end_low n [] h = h
end_low n (f ∷ fs) h = go (f.name == n) (is_base_body f.body)
  where
    go : (b c : Bool) → AreLow (if b then (if c then (ended_base f ∷ fs) else fs) else (f ∷ fs))
    go true true = ((omega arith, tt, h.0.2), h.1)
    go true false = h.1
    go false c = h

-- flushing an APC, which may put a frame in, leaves the frames low
flushed_low : (n : ℕ) (a : ApcNo) (r : Option RoutineNo) (fs : List Frame) → AreLow fs → AreLow (flushed n a r fs)
flushed_low n a None fs h = h
flushed_low n a (Some r) fs h = ((omega arith, tt, tt), h)

-- switching to a thread leaves the frames low
switched_low : (n : ℕ) (t : ThreadNo) (status : Option ℕ) (fs : List Frame) → AreLow fs → AreLow (switched_to n t status fs)
switched_low n t status [] h = ((omega arith, tt, tt), tt)
switched_low n t status (f ∷ fs) h = (resumed_low status f h.0, h.1)

-- an event that keeps levels leaves a processor's own frames low
own_low : (n : ℕ) (due : Option ℕ) (w : What) (fs : List Frame) → KeepsLevels w → AreLow fs → AreLow (own_after n due w fs)
own_low n due (Begin (Int level) from) fs h k = ((h, tt, tt), k)
own_low n due (Begin (Dpc d) from) fs h k = ((omega arith, tt, tt), k)
own_low n due (Begin (Threaded d) from) fs h k = ((omega arith, tt, tt), k)
own_low n due (Begin (Apc a) from) fs h k = k
own_low n due (Call f c y) fs h k = named_low f (called due c y) fs (λ g l. called_low due c y g h l) k
own_low n due (End f) fs h k = without_low f fs k
own_low n due (Free f l) fs h k = named_low f freed fs freed_low k
own_low n due w fs h k = k

-- an event that keeps levels leaves a thread's frames low
thread_low : (s : Script) (n : ℕ) (due : Option ℕ) (w : What) (fs : List Frame) → KeepsLevels w → AreLow fs → AreLow (thread_after s n due w fs)
thread_low s n due (Switch t status) fs h k = switched_low n t status fs k
thread_low s n due (Begin (Apc a) from) fs h k = ((omega arith, tt, tt), k)
thread_low s n due (Flush a from) fs h k = flushed_low n a (rundown_of s a) fs k
thread_low s n due (Call f c y) fs h k = named_low f (called due c y) fs (λ g l. called_low due c y g h l) k
thread_low s n due (Rewait f y) fs h k = named_low f (rewaited y) fs (λ g l. l) k
thread_low s n due (Normal f) fs h k = named_low f normal_of fs (λ g l. (omega arith, tt, l.2)) k
thread_low s n due (End f) fs h k = end_low f fs k
thread_low s n due (Gone t) fs h k = tt
thread_low s n due (Free f l) fs h k = named_low f freed fs freed_low k
thread_low s n due w fs h k = k

-- ---- the frames of a history

abbrev pub AllKeepLevels : List Event → Type 0
AllKeepLevels past = AllByRecursion (λ e. KeepsLevels e.what) past

-- a processor's own frames are low, if all events of the history keep levels
own_frames_low : (p : CpuNo) (past : List Event) → AllKeepLevels past → AreLow (own_frames p past)
own_frames_low p [] h = tt
own_frames_low p (e ∷ past) h = go (is_of e p) (own_frames_low p past h.1)
  where
    go : (b : Bool) → AreLow (own_frames p past) →
        AreLow (if b then own_after (length past) (due_of e.what (time past)) e.what (own_frames p past) else own_frames p past)
    go true k = own_low (length past) (due_of e.what (time past)) e.what (own_frames p past) h.0 k
    go false k = k

-- a thread's frames are low, if all events of the history keep levels
thread_frames_low : (s : Script) (p : CpuNo) (t : ThreadNo) (past : List Event) → AllKeepLevels past → AreLow (thread_frames s p t past)
thread_frames_low s p t [] h = tt
thread_frames_low s p t (e ∷ past) h = go (is_of e p) (is_by e t) (thread_frames_low s p t past h.1)
  where
    go : (b c : Bool) → AreLow (thread_frames s p t past) →
        AreLow (if b then thread_if c s (length past) (due_of e.what (time past)) e.what (thread_frames s p t past) else thread_frames s p t past)
    go true true k = thread_low s (length past) (due_of e.what (time past)) e.what (thread_frames s p t past) h.0 k
    go true false k = k
    go false c k = k

-- the level of the innermost frame, or 0 where there is none, is at most 15, if all frames are low
head_low : (own part : List Frame) → AreLow own → AreLow part → option_map_or (λ f. f.level) (option_or (head_of own) (head_of part)) 0 ≤ 15
head_low [] [] h k = omega arith
head_low [] (f ∷ fs) h k = k.0.0
head_low (f ∷ fs) part h k = h.0.0

-- a processor's level is at most 15
pub level_low : (s : Script) (p : CpuNo) (past : List Event) → AllKeepLevels past → level_in (frames_of s p past) ≤ 15
level_low s p past h =
    head_low (own_frames p past) (part (running p past)) (own_frames_low p past h) (part_low (running p past))
  where
    parts : List (List Frame)
    parts = table (length s.threads) (λ t. thread_frames s p (thread t) past)

    part : Option ThreadNo → List Frame
    part o = option_map_or (λ t. get_or parts t.0 []) o []

    part_low : (o : Option ThreadNo) → AreLow (part o)
    part_low None = tt
    part_low (Some t) =
        of_table AreLow (length s.threads) t.0 (λ t. thread_frames s p (thread t) past) [] tt (λ k. thread_frames_low s p (thread k) past h)
