-- Frames: the routines that have begun on a processor and its threads and have not ended, and what each event leaves of
-- them. A frame is named by the number of the event that began it.
use Rattle.std.specs.Option.{option_map_or, option_or}
use Rattle.std.specs.Prelude.{Bool, List, None, Option, Some, [], false, get_or, if◌then◌else◌, length, not, true, ℕ}
use Rattle.std.specs.Prelude.{◌&&◌, ◌+◌, ◌-◌, ◌==◌, ◌∷◌}
use Rattle.nt_event.specs.declared.commands.ApcKind.TheVariants.{Normal as NormalApc, User as UserApc}
use Rattle.nt_event.specs.declared.commands.Command.{Command}
use Rattle.nt_event.specs.declared.commands.Reply.{Reply}
use Rattle.nt_event.specs.declared.commands.Reply.TheVariants.{Blocked, Done, No, Refused, Spin, Status, Yes}
use Rattle.nt_event.specs.declared.events.Begun.{Begun}
use Rattle.nt_event.specs.declared.events.Begun.TheVariants as begun
use Rattle.nt_event.specs.declared.events.Event.{Event}
use Rattle.nt_event.specs.declared.events.What.{What}
use Rattle.nt_event.specs.declared.events.What.TheVariants as what
use Rattle.nt_event.specs.declared.frames.Again.{Again}
use Rattle.nt_event.specs.declared.frames.Body.{Body}
use Rattle.nt_event.specs.declared.frames.Body.TheVariants as on
use Rattle.nt_event.specs.Frame.{Frame}
use Rattle.nt_event.specs.declared.frames.Held.{Held}
use Rattle.nt_event.specs.declared.numbers.ApcNo.{ApcNo}
use Rattle.nt_event.specs.declared.numbers.CpuNo.{CpuNo}
use Rattle.nt_event.specs.declared.numbers.RoutineNo.{RoutineNo}
use Rattle.nt_event.specs.declared.numbers.ThreadNo.{ThreadNo}
use Rattle.nt_event.specs.declared.scripts.Script.{Script}
use Rattle.nt_event.specs.Calls.{stops, wait_begun}
use Rattle.nt_event.specs.Routines.{kind_of, rundown_of}
use Rattle.nt_event.specs.Locks.{Frees, Gets, LockMove, NoMove, Spins, call_move}
use Rattle.nt_event.specs.Lists.{head_of, is_null, table, tail_of}
use Rattle.nt_event.specs.Replies.{is_blocked, is_done, is_spin, kernel_apc}
use Rattle.nt_event.specs.Numbers.{is_by, is_of, thread}
use Rattle.nt_event.specs.Families.{AdvanceTime, CritEntered, CritLeft, DelaysIn, EnterUser, GivesWay, GuardEntered}
use Rattle.nt_event.specs.Families.{GuardLeft, LevelCall, LowerTo, OwnCall, PlainCall, RaiseTo, RegionCall, RequestAt}
use Rattle.nt_event.specs.Families.{TestsAlert, WaitsIn, WriteNote, by_level_call, by_own_call, by_plain_call}
use Rattle.nt_event.specs.Families.{by_region_call, in_call}

-- a new interrupt runs at its own level, a DPC at DISPATCH_LEVEL, an APC's kernel routine at APC_LEVEL, the others at
-- PASSIVE_LEVEL (driver documentation, "Managing Hardware Priorities")
abbrev pub base_level : Body → Bool → ℕ
base_level (on.Int level) k = level
base_level (on.Dpc d) k = 2
base_level (on.Threaded d) k = 0
base_level (on.Apc a kind) k = if k then 1 else 0
base_level (on.Base t) k = 0
base_level (on.Rundown a) k = 0

-- an APC begins in its kernel routine
abbrev pub is_apc_body : Body → Bool
is_apc_body (on.Apc a kind) = true
is_apc_body (on.Int level) = false
is_apc_body (on.Dpc d) = false
is_apc_body (on.Threaded d) = false
is_apc_body (on.Base t) = false
is_apc_body (on.Rundown a) = false

abbrev pub is_base_body : Body → Bool
is_base_body (on.Base t) = true
is_base_body (on.Int level) = false
is_base_body (on.Dpc d) = false
is_base_body (on.Threaded d) = false
is_base_body (on.Apc a kind) = false
is_base_body (on.Rundown a) = false

abbrev pub is_user_apc_body : Body → Bool
is_user_apc_body (on.Apc a UserApc) = true
is_user_apc_body (on.Int level) = false
is_user_apc_body (on.Dpc d) = false
is_user_apc_body (on.Threaded d) = false
is_user_apc_body (on.Apc a kind) = false
is_user_apc_body (on.Base t) = false
is_user_apc_body (on.Rundown a) = false

-- a normal kernel APC
abbrev pub is_normal_apc_body : Body → Bool
is_normal_apc_body (on.Apc a NormalApc) = true
is_normal_apc_body (on.Int level) = false
is_normal_apc_body (on.Dpc d) = false
is_normal_apc_body (on.Threaded d) = false
is_normal_apc_body (on.Apc a kind) = false
is_normal_apc_body (on.Base t) = false
is_normal_apc_body (on.Rundown a) = false

-- the frame's base level in its present phase
abbrev pub base_of : Frame → ℕ
base_of f = base_level f.body f.kernel_phase

abbrev pub new_frame : ℕ → Body → Frame
new_frame n b =
    record {
      name = n;
      body = b;
      level = base_level b (is_apc_body b);
      place = 0;
      crit = 0;
      guard = 0;
      kernel_phase = is_apc_body b;
      leaving = false;
      again = None;
      spin = None;
      held = [];
    }

-- ---- a call

-- the wait that an accepted wait leaves to be taken up: it blocks, or a kernel APC interrupts it
abbrev pub again_after : Reply → Option Again → Option Again → Option Again
again_after (Status status) w old = if status == kernel_apc then w else None
again_after Blocked w old = w
again_after Done w old = old
again_after Yes w old = old
again_after No w old = old
again_after (Refused r) w old = old
again_after Spin w old = old

-- ---- locks

-- the level that is kept with a lock: that of just before the first try
abbrev pub kept_in : Frame → ℕ
kept_in f = option_map_or (λ h. h.kept) f.spin f.level

-- the level once the lock that it acquired last is free, or its level where it holds none
abbrev pub freed_level : Frame → ℕ
freed_level f = option_map_or (λ h. h.kept) (head_of f.held) f.level

-- what a move of a lock by the frame leaves of its level: DISPATCH_LEVEL where it gets the lock or spins (driver
-- documentation, "KeAcquireSpinLock"), the kept one where it frees it, else this one
abbrev pub level_moved : LockMove → Frame → ℕ → ℕ
level_moved (Gets k) f level = 2
level_moved (Spins k) f level = 2
level_moved (Frees k) f level = freed_level f
level_moved NoMove f level = level

-- of the lock on which it spins
abbrev pub spin_moved : LockMove → Frame → Option Held
spin_moved (Spins k) f = Some (record { lock = k; kept = kept_in f })
spin_moved (Gets k) f = None
spin_moved (Frees k) f = None
spin_moved NoMove f = None

-- and of the locks that it holds, of which it frees the one that it acquired last
abbrev pub held_moved : LockMove → Frame → List Held
held_moved (Gets k) f = record { lock = k; kept = kept_in f } ∷ f.held
held_moved (Frees k) f = tail_of f.held
held_moved (Spins k) f = f.held
held_moved NoMove f = f.held

-- the lock that the frame acquired last is free
abbrev pub freed : Frame → Frame
freed f = record f { level = freed_level f; held = tail_of f.held }

abbrev pub level_done : LevelCall → Frame → Frame
level_done (RaiseTo level) f = record f { level = level }
level_done (LowerTo level) f = record f { level = level }

abbrev pub region_done : RegionCall → Frame → Frame
region_done CritEntered f = record f { crit = f.crit + 1 }
region_done GuardEntered f = record f { guard = f.guard + 1 }
region_done CritLeft f = record f { crit = f.crit - 1 }
region_done GuardLeft f = record f { guard = f.guard - 1 }

-- what an accepted command without a reply does to its frame
abbrev pub done_to : Command → Frame → Frame
done_to c f = by_level_call (λ k. level_done k f) (by_region_call (λ k. region_done k f) f c) c

-- what a call does to its frame, beside its place and its locks: one that begins a wait may leave it to be taken up
-- again, another one has its effect where it is done
abbrev pub effect_by : Option Again → Command → Reply → Frame → Frame
effect_by (Some w) c y f = record f { again = again_after y (Some w) f.again }
effect_by None c y f = if is_done y then done_to c f else f

-- so by this due time, command and reply
abbrev pub effect : Option ℕ → Command → Reply → Frame → Frame
effect due c y f = effect_by (wait_begun due c) c y f

-- a command that spins is tried again
abbrev pub place_after : Reply → ℕ → ℕ
place_after y n = if is_spin y then n else n + 1

abbrev pub called : Option ℕ → Command → Reply → Frame → Frame
called due c y f =
    record (effect due c y f) {
      place = place_after y f.place;
      level = level_moved (call_move c y) f (effect due c y f).level;
      spin = spin_moved (call_move c y) f;
      held = held_moved (call_move c y) f;
    }

-- what taking up a wait again does to its frame
abbrev pub rewaited : Reply → Frame → Frame
rewaited y f = record f { again = again_after y f.again f.again }

-- an APC goes on to its normal routine: the phase begins anew at PASSIVE_LEVEL, and its regions are given up (profile)
abbrev pub normal_of : Frame → Frame
normal_of f =
    record f { level = 0; place = 0; crit = 0; guard = 0; kernel_phase = false; again = None; spin = None }

-- a base frame stays until its thread is gone, at PASSIVE_LEVEL and with its regions given up (profile)
abbrev pub ended_base : Frame → Frame
ended_base f = record f { level = 0; place = 0; crit = 0; guard = 0; again = None; leaving = true; spin = None }

-- the status of the wait that ended comes with the Switch; only an interrupted one is to be taken up again
abbrev pub resumed : Option ℕ → Frame → Frame
resumed None f = f
resumed (Some status) f = record f { again = again_after (Status status) f.again f.again }

-- ---- the innermost frame of a part, which is the first of its list

-- the innermost frame changed
abbrev pub at_head : (Frame → Frame) → List Frame → List Frame
at_head g [] = []
at_head g (f ∷ fs) = g f ∷ fs

-- the innermost frame changed, where it has this name
abbrev pub at_name : ℕ → (Frame → Frame) → List Frame → List Frame
at_name n g [] = []
at_name n g (f ∷ fs) = (if f.name == n then g f else f) ∷ fs

-- the innermost frame ended, where it has this name
abbrev pub without : ℕ → List Frame → List Frame
without n [] = []
without n (f ∷ fs) = if f.name == n then fs else (f ∷ fs)

-- ends the innermost frame of a thread's part: a base frame stays and its thread is leaving
abbrev pub ended_on_thread : List Frame → List Frame
ended_on_thread [] = []
ended_on_thread (f ∷ fs) = if is_base_body f.body then (ended_base f ∷ fs) else fs

abbrev pub end_on_thread : ℕ → List Frame → List Frame
end_on_thread n [] = []
end_on_thread n (f ∷ fs) = if f.name == n then ended_on_thread (f ∷ fs) else (f ∷ fs)

-- ---- the parts

-- the event begins a routine on the processor's own part
abbrev pub begin_own : ℕ → Begun → List Frame → List Frame
begin_own n (begun.Int level) fs = new_frame n (on.Int level) ∷ fs
begin_own n (begun.Dpc d) fs = new_frame n (on.Dpc d) ∷ fs
begin_own n (begun.Threaded d) fs = new_frame n (on.Threaded d) ∷ fs
begin_own n (begun.Apc a) fs = fs

-- what the event of this number leaves of the frames on its processor's own part
abbrev pub own_after : ℕ → Option ℕ → What → List Frame → List Frame
own_after n due (what.Begin b from) fs = begin_own n b fs
own_after n due (what.Call f c y) fs = at_name f (called due c y) fs
own_after n due (what.End f) fs = without f fs
own_after n due (what.Look r) fs = fs
own_after n due (what.Normal f) fs = fs
own_after n due (what.Expire key from) fs = fs
own_after n due (what.Fire d y) fs = fs
own_after n due (what.Clean class) fs = fs
own_after n due (what.Switch t status) fs = fs
own_after n due (what.Rewait f y) fs = fs
own_after n due (what.Flush a from) fs = fs
own_after n due (what.Gone t) fs = fs
own_after n due (what.Free f k) fs = at_name f freed fs
own_after n due what.Rest fs = fs

-- the first Switch to a thread begins its base frame
abbrev pub switched_to : ℕ → ThreadNo → Option ℕ → List Frame → List Frame
switched_to n t status [] = new_frame n (on.Base t) ∷ []
switched_to n t status (f ∷ fs) = resumed status f ∷ fs

-- a flushed APC begins a frame only where it has a rundown routine
abbrev pub flushed : ℕ → ApcNo → Option RoutineNo → List Frame → List Frame
flushed n a None fs = fs
flushed n a (Some r) fs = new_frame n (on.Rundown a) ∷ fs

-- what the event of this number leaves of the frames of the thread that it names
abbrev pub thread_after : Script → ℕ → Option ℕ → What → List Frame → List Frame
thread_after s n due (what.Switch t status) fs = switched_to n t status fs
thread_after s n due (what.Begin (begun.Apc a) from) fs = new_frame n (on.Apc a (kind_of s a)) ∷ fs
thread_after s n due (what.Flush a from) fs = flushed n a (rundown_of s a) fs
thread_after s n due (what.Call f c y) fs = at_name f (called due c y) fs
thread_after s n due (what.Rewait f y) fs = at_name f (rewaited y) fs
thread_after s n due (what.Normal f) fs = at_name f normal_of fs
thread_after s n due (what.End f) fs = end_on_thread f fs
thread_after s n due (what.Gone t) fs = []
thread_after s n due (what.Look r) fs = fs
thread_after s n due (what.Begin (begun.Int level) from) fs = fs
thread_after s n due (what.Begin (begun.Dpc d) from) fs = fs
thread_after s n due (what.Begin (begun.Threaded d) from) fs = fs
thread_after s n due (what.Expire key from) fs = fs
thread_after s n due (what.Fire d y) fs = fs
thread_after s n due (what.Clean class) fs = fs
thread_after s n due (what.Free f k) fs = at_name f freed fs
thread_after s n due what.Rest fs = fs

-- of a thread that the event names, or of another one
abbrev pub thread_if : Bool → Script → ℕ → Option ℕ → What → List Frame → List Frame
thread_if true s n due w fs = thread_after s n due w fs
thread_if false s n due w fs = fs

-- the running thread is the one of the last Switch, until it is gone, blocks or yields
abbrev pub running_after : What → Option ThreadNo → Option ThreadNo
running_after (what.Switch t status) r = Some t
running_after (what.Gone t) r = None
running_after (what.Call f c y) r = if stops c y then None else r
running_after (what.Rewait f y) r = if is_blocked y then None else r
running_after (what.Look why) r = r
running_after (what.Begin b from) r = r
running_after (what.Normal f) r = r
running_after (what.End f) r = r
running_after (what.Expire key from) r = r
running_after (what.Fire d y) r = r
running_after (what.Clean class) r = r
running_after (what.Flush a from) r = r
running_after (what.Free f k) r = r
running_after what.Rest r = r

-- ---- the history's questions

abbrev pub time_by : PlainCall → Reply → ℕ → ℕ
time_by (AdvanceTime units) y now = if is_done y then now + units else now
time_by (RequestAt q level) y now = now
time_by EnterUser y now = now
time_by (WriteNote n) y now = now

-- the time is the sum of what `clock` advanced it by
abbrev pub time_after : What → ℕ → ℕ
time_after w now = in_call (λ f c y. by_plain_call (λ k. time_by k y now) now c) now w

abbrev pub time : List Event → ℕ
time [] = 0
time (e ∷ past) = time_after e.what (time past)

abbrev pub due_by : OwnCall → ℕ → Option ℕ
due_by (DelaysIn m a units) now = Some (now + units)
due_by (WaitsIn m a) now = None
due_by (TestsAlert m) now = None
due_by GivesWay now = None

-- the due time of the delay that the event calls
abbrev pub due_of : What → ℕ → Option ℕ
due_of w now = in_call (λ f c y. by_own_call (λ k. due_by k now) None c) None w

-- the frames on the own part of the processor, the innermost first
abbrev pub own_frames : CpuNo → List Event → List Frame
own_frames p [] = []
own_frames p (e ∷ past) =
    if is_of e p then own_after (length past) (due_of e.what (time past)) e.what (own_frames p past)
    else own_frames p past

-- the frames of a thread, the innermost first, by the events of its processor
abbrev pub thread_frames : Script → CpuNo → ThreadNo → List Event → List Frame
thread_frames s p t [] = []
thread_frames s p t (e ∷ past) =
    if is_of e p then thread_if (is_by e t) s (length past) (due_of e.what (time past)) e.what
    (thread_frames s p t past) else thread_frames s p t past

-- the thread that runs on the processor
abbrev pub running : CpuNo → List Event → Option ThreadNo
running p [] = None
running p (e ∷ past) = if is_of e p then running_after e.what (running p past) else running p past

-- ---- the frames of one processor

-- those on its own part, the running thread, and those of each thread by its number; the innermost ones first
pub record Frames : Type 0 where
  pub own : List Frame
  pub running : Option ThreadNo
  pub threads : List (List Frame)

abbrev pub frames_in : List (List Frame) → ThreadNo → List Frame
frames_in parts t = get_or parts t.0 []

abbrev pub frames_of : Script → CpuNo → List Event → Frames
frames_of s p past =
    record {
      own = own_frames p past;
      running = running p past;
      threads = table (length s.threads) (λ t. thread_frames s p (thread t) past);
    }

-- what an event of the processor with this number and due time leaves of them
abbrev pub frames_after : Script → ℕ → Option ℕ → Event → Frames → Frames
frames_after s n due e x =
    record {
      own = own_after n due e.what x.own;
      running = running_after e.what x.running;
      threads = table (length s.threads)
          (λ t. thread_if (is_by e (thread t)) s n due e.what (frames_in x.threads (thread t)));
    }

-- the part of the running thread
abbrev pub thread_part : Frames → List Frame
thread_part x = option_map_or (frames_in x.threads) x.running []

-- the innermost frame: the newest one of the own part, else of the running thread's
abbrev pub innermost : Frames → Option Frame
innermost x = option_or (head_of x.own) (head_of (thread_part x))

-- the level of a processor is that of its innermost frame, or PASSIVE_LEVEL where there is none
abbrev pub level_in : Frames → ℕ
level_in x = option_map_or (λ f. f.level) (innermost x) 0

-- the innermost frame stands on the running thread's part
abbrev pub is_on_thread : Frames → Bool
is_on_thread x = is_null x.own && not (is_null (thread_part x))
