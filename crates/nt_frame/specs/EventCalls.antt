-- The calls that a processor makes for an event of its own.
use Rattle.std.specs.Option.{option_map_or}
use Rattle.std.specs.Prelude.{List, None, Option, Some, [], false, if◌then◌else◌, length, true, ℕ, ◌++◌, ◌<◌, ◌==◌, ◌∷◌}
use Rattle.std.specs.Prelude.{◌≡◌}
use Rattle.nt_event.specs.declared.commands.Command.{Command}
use Rattle.nt_event.specs.declared.commands.Command.TheVariants.{Acquire}
use Rattle.nt_event.specs.declared.commands.Reply.{Reply}
use Rattle.nt_event.specs.declared.commands.Reply.TheVariants.{Blocked, Done, No, Refused, Spin, Status, Yes}
use Rattle.nt_event.specs.declared.events.Begun.{Begun}
use Rattle.nt_event.specs.declared.events.Begun.TheVariants.{Apc as BeginApc, Dpc as BeginDpc, Int as BeginInt}
use Rattle.nt_event.specs.declared.events.Begun.TheVariants.{Threaded as BeginThreaded}
use Rattle.nt_event.specs.declared.events.Event.{Event}
use Rattle.nt_event.specs.declared.events.What.{What}
use Rattle.nt_event.specs.declared.events.What.TheVariants.{Begin as BeginEvent, Call as CallEvent, Clean as CleanEvent}
use Rattle.nt_event.specs.declared.events.What.TheVariants.{End as EndEvent}
use Rattle.nt_event.specs.declared.events.What.TheVariants.{Expire as ExpireEvent, Fire as FireEvent}
use Rattle.nt_event.specs.declared.events.What.TheVariants.{Flush as FlushEvent, Free as FreeEvent, Gone as GoneEvent}
use Rattle.nt_event.specs.declared.events.What.TheVariants.{Look as LookEvent, Normal as NormalEvent, Rest as RestEvent}
use Rattle.nt_event.specs.declared.events.What.TheVariants.{Rewait as RewaitEvent, Switch as SwitchEvent}
use Rattle.nt_event.specs.declared.frames.Again.{Again}
use Rattle.nt_event.specs.declared.frames.Body.{Body}
use Rattle.nt_event.specs.declared.frames.Body.TheVariants.{Apc, Base, Dpc, Int, Rundown, Threaded}
use Rattle.nt_event.specs.Frame.{Frame}
use Rattle.nt_event.specs.declared.frames.Region.TheVariants.{Crit, Guard}
use Rattle.nt_event.specs.declared.numbers.CpuNo.{CpuNo}
use Rattle.nt_event.specs.declared.numbers.LockNo.{LockNo}
use Rattle.nt_event.specs.declared.numbers.ThreadNo.{ThreadNo}
use Rattle.nt_event.specs.declared.scripts.Script.{Script}
use Rattle.nt_event.specs.Frames.{Frames, again_after, due_of, frames_after, frames_in, frames_of, innermost, time}
use Rattle.nt_event.specs.Routines.{kind_of, rundown_of}
use Rattle.nt_event.specs.Numbers.{is_of}
use Rattle.nt_event.specs.Replies.{is_done, is_spin, kernel_apc}
use Rattle.nt_frame.specs.declared.calls.FrameCall.{FrameCall}
use Rattle.nt_frame.specs.declared.calls.FrameCall.TheVariants.{Acquired, AdvancePlace, Begin, EndBase, Enter, Finish}
use Rattle.nt_frame.specs.declared.calls.FrameCall.TheVariants.{Free, Gone}
use Rattle.nt_frame.specs.declared.calls.FrameCall.TheVariants.{Leave, Lower, Normal, Raise, SetAgain, SwitchAway}
use Rattle.nt_frame.specs.declared.calls.FrameCall.TheVariants.{SwitchTo, Unlock}
use Rattle.nt_frame.specs.Calls.{left_by_all}
use Rattle.nt_frame.specs.Changes.{no_frames}
use Rattle.nt_frame.specs.Nesting.{AreNested}
use Rattle.nt_frame.specs.Rules.{is_at_base, may_go_on, refusal_in}
use Rattle.nt_event.specs.Families.{AcquireLock, CritEntered, CritLeft, DelaysIn, GivesWay, GuardEntered, GuardLeft}
use Rattle.nt_event.specs.Families.{LevelCall, LockCall, LowerTo, OwnCall, RaiseTo, RegionCall, TestsAlert, UnlockLock}
use Rattle.nt_event.specs.Families.{WaitsIn, by_level_call, by_lock_call, by_own_call, by_region_call}
use Rattle.nt_event.specs.Step.{thread_field}

-- what begins
abbrev pub body_of : Script → Begun → Body
body_of s (BeginInt level) = Int level
body_of s (BeginDpc d) = Dpc d
body_of s (BeginThreaded d) = Threaded d
body_of s (BeginApc a) = Apc a (kind_of s a)

-- a wait that ended with this status is taken up again only where a kernel APC interrupted it
abbrev pub status_calls : Option ℕ → List FrameCall
status_calls None = []
status_calls (Some status) = if status == kernel_apc then [] else (SetAgain None ∷ [])

abbrev pub wait_calls : Again → Reply → List FrameCall
wait_calls w Blocked = SetAgain (Some w) ∷ AdvancePlace ∷ SwitchAway ∷ []
wait_calls w (Status status) = SetAgain (again_after (Status status) (Some w) None) ∷ AdvancePlace ∷ []
wait_calls w Done = AdvancePlace ∷ []
wait_calls w Yes = AdvancePlace ∷ []
wait_calls w No = AdvancePlace ∷ []
wait_calls w (Refused why) = AdvancePlace ∷ []
wait_calls w Spin = AdvancePlace ∷ []

-- a try of a lock gets it, or spins on it at the same place; a refused one changes the place alone
abbrev pub acquire_calls : LockNo → Reply → List FrameCall
acquire_calls k Done = Acquired k true ∷ AdvancePlace ∷ []
acquire_calls k Spin = Acquired k false ∷ []
acquire_calls k Yes = AdvancePlace ∷ []
acquire_calls k No = AdvancePlace ∷ []
acquire_calls k (Status status) = AdvancePlace ∷ []
acquire_calls k Blocked = AdvancePlace ∷ []
acquire_calls k (Refused why) = AdvancePlace ∷ []

-- the calls of a command that is done; of one that isn't, the place alone
abbrev pub where_done : Reply → List FrameCall → List FrameCall
where_done y calls = if is_done y then calls else (AdvancePlace ∷ [])

abbrev pub level_calls : LevelCall → List FrameCall
level_calls (RaiseTo level) = Raise level ∷ AdvancePlace ∷ []
level_calls (LowerTo level) = Lower level ∷ AdvancePlace ∷ []

abbrev pub region_calls : RegionCall → List FrameCall
region_calls CritEntered = Enter Crit ∷ AdvancePlace ∷ []
region_calls GuardEntered = Enter Guard ∷ AdvancePlace ∷ []
region_calls CritLeft = Leave Crit ∷ AdvancePlace ∷ []
region_calls GuardLeft = Leave Guard ∷ AdvancePlace ∷ []

abbrev pub own_calls : Option ℕ → OwnCall → Reply → List FrameCall
own_calls due (WaitsIn m a) y = wait_calls (record { mode = m; alertable = a; due = None }) y
own_calls due (DelaysIn m a units) y = wait_calls (record { mode = m; alertable = a; due = due }) y
own_calls due (TestsAlert m) y = AdvancePlace ∷ []
own_calls due GivesWay y = where_done y (AdvancePlace ∷ SwitchAway ∷ [])

abbrev pub lock_calls : LockCall → Reply → List FrameCall
lock_calls (AcquireLock k) y = acquire_calls k y
lock_calls (UnlockLock k) y = where_done y (Unlock k ∷ AdvancePlace ∷ [])

-- a called command with this reply, whose due time this is; a refused one changes the place alone
abbrev pub command_calls : Option ℕ → Command → Reply → List FrameCall
command_calls due c y =
    by_level_call (λ k. where_done y (level_calls k)) (by_region_call (λ k. where_done y (region_calls k))
    (by_own_call (λ k. own_calls due k y) (by_lock_call (λ k. lock_calls k y) (AdvancePlace ∷ []) c) c) c) c

abbrev pub rewait_calls : Reply → List FrameCall
rewait_calls Blocked = SwitchAway ∷ []
rewait_calls (Status status) = status_calls (Some status)
rewait_calls Done = []
rewait_calls Yes = []
rewait_calls No = []
rewait_calls (Refused why) = []
rewait_calls Spin = []

-- the first Switch to a thread begins its base frame
abbrev pub switch_calls : ℕ → ThreadNo → Option ℕ → List Frame → List FrameCall
switch_calls n t status [] = SwitchTo t ∷ Begin (Base t) n ∷ []
switch_calls n t status (f ∷ fs) = SwitchTo t ∷ status_calls status

-- the calls for the event of this number and due time, where the frames are these
abbrev pub calls_of : Script → ℕ → Option ℕ → What → Frames → List FrameCall
calls_of s n due (BeginEvent b from) x = Begin (body_of s b) n ∷ []
calls_of s n due (CallEvent f c y) x = command_calls due c y
calls_of s n due (NormalEvent f) x = Normal ∷ []
calls_of s n due (EndEvent f) x = if is_at_base x then (EndBase ∷ []) else (Finish ∷ [])
calls_of s n due (SwitchEvent t status) x = switch_calls n t status (frames_in x.threads t)
calls_of s n due (RewaitEvent f y) x = rewait_calls y
calls_of s n due (FlushEvent a from) x = option_map_or (λ r. Begin (Rundown a) n ∷ []) (rundown_of s a) []
calls_of s n due (GoneEvent t) x = Gone ∷ []
calls_of s n due (FreeEvent f k) x = Free ∷ []
calls_of s n due (LookEvent r) x = []
calls_of s n due (ExpireEvent k from) x = []
calls_of s n due (FireEvent d y) x = []
calls_of s n due (CleanEvent c) x = []
calls_of s n due RestEvent x = []

-- ---- the events that a processor makes where its frames are these

-- the routine that runs is the one that the event names
abbrev pub IsInnermost : ℕ → Frames → Type 0
IsInnermost name x = option_map_or (λ f. f.name == name) (innermost x) false ≡ true

-- a command that is done isn't refused, and this one neither blocks nor spins
abbrev pub IsNoWait : Command → Reply → Frames → Type 0
IsNoWait c Blocked x = ⊥
IsNoWait c Done x = refusal_in c x ≡ None
IsNoWait c Yes x = Unit {0}
IsNoWait c No x = Unit {0}
IsNoWait c (Status status) x = Unit {0}
IsNoWait c (Refused why) x = Unit {0}
IsNoWait c Spin x = ⊥

-- a try of a lock isn't refused where it gets the lock or spins on it
abbrev pub IsTry : LockNo → Reply → Frames → Type 0
IsTry k Blocked x = ⊥
IsTry k Done x = refusal_in (Acquire k) x ≡ None
IsTry k Spin x = refusal_in (Acquire k) x ≡ None
IsTry k Yes x = Unit {0}
IsTry k No x = Unit {0}
IsTry k (Status status) x = Unit {0}
IsTry k (Refused why) x = Unit {0}

abbrev pub OwnReplies : Command → OwnCall → Reply → Frames → Type 0
OwnReplies c (WaitsIn m a) y x = is_spin y ≡ false
OwnReplies c (DelaysIn m a units) y x = is_spin y ≡ false
OwnReplies c (TestsAlert m) y x = IsNoWait c y x
OwnReplies c GivesWay y x = IsNoWait c y x

abbrev pub LockReplies : Command → LockCall → Reply → Frames → Type 0
LockReplies c (AcquireLock k) y x = IsTry k y x
LockReplies c (UnlockLock k) y x = IsNoWait c y x

-- only waits and delays block, and only a try of a lock spins
abbrev pub Replies : Command → Reply → Frames → Type 0
Replies c y x =
    by_own_call (λ k. OwnReplies c k y x) (by_lock_call (λ k. LockReplies c k y x) (IsNoWait c y x) c) c

abbrev pub thread_of : What → Option ThreadNo → Option ThreadNo
thread_of w r = thread_field w r

-- what the event says of the frames is so: the routine that it names is the innermost one, its reply may come there, an
-- APC has a normal routine left, a thread that is taken up is one of the processor's and runs over no frame of its own
-- part
abbrev pub EventSays : What → Frames → Type 0
EventSays (CallEvent f c y) x = IsInnermost f x × Replies c y x
EventSays (RewaitEvent f y) x = IsInnermost f x × (x.own ≡ [])
EventSays (NormalEvent f) x = IsInnermost f x × (may_go_on x ≡ true)
EventSays (EndEvent f) x = IsInnermost f x
EventSays (FreeEvent f k) x = IsInnermost f x
EventSays (SwitchEvent t status) x = (t.0 < length x.threads) × (x.own ≡ [])
EventSays (LookEvent r) x = Unit {0}
EventSays (BeginEvent b from) x = Unit {0}
EventSays (ExpireEvent k from) x = Unit {0}
EventSays (FireEvent d y) x = Unit {0}
EventSays (CleanEvent c) x = Unit {0}
EventSays (FlushEvent a from) x = Unit {0}
EventSays (GoneEvent t) x = Unit {0}
EventSays RestEvent x = Unit {0}

-- the event is one that a processor may make where its frames are these
pub record IsMade (s : Script) (e : Event) (x : Frames) : Type 0 where
  pub nested : AreNested x
  pub threads : length x.threads ≡ length s.threads
  pub thread : e.thread ≡ thread_of e.what x.running
  pub says : EventSays e.what x

-- what each event leaves of the frames is what its calls leave
abbrev pub EventsAreCalls : Type 0
EventsAreCalls =
    (s : Script) (n : ℕ) (due : Option ℕ) (e : Event) (x : Frames) → IsMade s e x →
    frames_after s n due e x ≡ left_by_all (calls_of s n due e.what x) x

-- ---- whole histories

-- the calls that a processor makes for its events in a history, in their order
abbrev pub calls_in : Script → CpuNo → List Event → List FrameCall
calls_in s p [] = []
calls_in s p (e ∷ past) =
    if is_of e p
    then calls_in s p past ++ calls_of s (length past) (due_of e.what (time past)) e.what (frames_of s p past)
    else calls_in s p past

-- each event of the processor is one that it may make where its frames are those of the history before
abbrev pub EachIsMade : Script → CpuNo → List Event → Type 0
EachIsMade s p [] = Unit {0}
EachIsMade s p (e ∷ past) = (is_of e p ≡ true → IsMade s e (frames_of s p past)) × EachIsMade s p past

-- the frames of a history are what its calls leave, beginning with none
abbrev pub HistoriesAreCalls : Type 0
HistoriesAreCalls =
    (s : Script) (p : CpuNo) (past : List Event) → EachIsMade s p past →
    frames_of s p past ≡ left_by_all (calls_in s p past) (no_frames (length s.threads))
