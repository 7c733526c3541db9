-- Open frames and the innermost one, by positions in the history. A frame is named by the event that began it.
use Rattle.std.specs.Prelude.{Bool, List, None, Option, Some, [], false, length, option_map, true, ℕ, ◌==◌, ◌∷◌, ◌↔◌}
use Rattle.std.specs.Prelude.{◌≡◌, ◌≤◌, ◌⊎◌}
use Rattle.nt_event.specs.declared.events.Begun.TheVariants.{Apc, Dpc, Int, Threaded}
use Rattle.nt_event.specs.declared.events.Event.{Event}
use Rattle.nt_event.specs.declared.events.What.{What}
use Rattle.nt_event.specs.declared.events.What.TheVariants.{Begin, Call, Clean, End, Expire, Fire, Flush, Free, Gone}
use Rattle.nt_event.specs.declared.events.What.TheVariants.{Look, Normal, Rest, Rewait, Switch}
use Rattle.nt_event.specs.declared.frames.Body.{Body}
use Rattle.nt_event.specs.declared.frames.Body.TheVariants.{Apc as OnApc, Base as OnBase, Dpc as OnDpc, Int as OnInt}
use Rattle.nt_event.specs.declared.frames.Body.TheVariants.{Rundown as OnRundown, Threaded as OnThreaded}
use Rattle.nt_event.specs.Frame.{Frame}
use Rattle.nt_event.specs.declared.numbers.CpuNo.{CpuNo}
use Rattle.nt_event.specs.declared.numbers.ThreadNo.{ThreadNo}
use Rattle.nt_event.specs.declared.scripts.Script.{Script}
use Rattle.nt_event.specs.Calls.{stops}
use Rattle.nt_event.specs.Frames.{frames_of, innermost, own_frames, running, thread_frames}
use Rattle.nt_event.specs.Replies.{is_blocked}
use Rattle.nt_event.specs.Routines.{cpu_of, kind_of, rundown_of}
use Rattle.nt_event.specs.Step.{IsRun}
use Rattle.nt_event.specs.Numbers.{is_by, is_of}
use Rattle.nt_readings.specs.Positions.{At, EachAfter, Everywhere}
use Rattle.nt_runs.specs.Falling.{Falls}

-- ---- what begins and ends a frame

-- what the event begins on its processor's own part, if anything
abbrev pub begun_own : What → Option Body
begun_own (Begin (Int level) from) = Some (OnInt level)
begun_own (Begin (Dpc d) from) = Some (OnDpc d)
begun_own (Begin (Threaded d) from) = Some (OnThreaded d)
begun_own w = None

-- what it begins on its thread's part, but a base frame
abbrev pub begun_inner : Script → What → Option Body
begun_inner s (Begin (Apc a) from) = Some (OnApc a (kind_of s a))
begun_inner s (Flush a from) = option_map (λ r. OnRundown a) (rundown_of s a)
begun_inner s w = None

-- it is a Switch to the thread
abbrev pub switches_to : ThreadNo → What → Bool
switches_to t (Switch u status) = u.0 == t.0
switches_to t w = false

-- it is the thread's Gone
abbrev pub ends_thread : ThreadNo → What → Bool
ends_thread t (Gone u) = u.0 == t.0
ends_thread t w = false

-- it is the End of the frame of this name
abbrev pub ends_frame : ℕ → What → Bool
ends_frame n (End f) = f == n
ends_frame n w = false

abbrev pub IsNotEnded : ℕ → List Event → Type 0
IsNotEnded n past = EachAfter (λ e before. ends_frame n e.what ≡ false) n past

-- ---- open frames

-- event n began this on p's own part, and it has not ended
abbrev pub IsOpenOwn : CpuNo → List Event → ℕ → Body → Type 0
IsOpenOwn p past n b = At (λ e before. (is_of e p ≡ true) × (begun_own e.what ≡ Some b)) n past × IsNotEnded n past

abbrev pub IsFirstSwitch : ThreadNo → Event → List Event → Type 0
IsFirstSwitch t e before = (switches_to t e.what ≡ true) × Everywhere (λ f rest. switches_to t f.what ≡ false) before

-- event n is the first Switch to t, which isn't gone: it began the thread's base frame
abbrev pub IsOpenBase : ThreadNo → List Event → ℕ → Body → Type 0
IsOpenBase t past n b = (b ≡ OnBase t) × At (IsFirstSwitch t) n past ×
    EachAfter (λ e before. ends_thread t e.what ≡ false) n past

-- event n began this on the part of t, and it has not ended
abbrev pub IsOpenInner : Script → ThreadNo → List Event → ℕ → Body → Type 0
IsOpenInner s t past n b = At (λ e before. (is_by e t ≡ true) × (begun_inner s e.what ≡ Some b)) n past ×
    IsNotEnded n past

-- event n began this on the part of t, and it is open
abbrev pub IsOpenOn : Script → ThreadNo → List Event → ℕ → Body → Type 0
IsOpenOn s t past n b = IsOpenBase t past n b ⊎ IsOpenInner s t past n b

-- ---- lists of frames

-- P holds of the name and body of each frame
abbrev pub EachNamed : (ℕ → Body → Type 0) → List Frame → Type 0
EachNamed P [] = Unit {0}
EachNamed P (f ∷ fs) = P f.name f.body × EachNamed P fs

-- a frame of the list has this name and body
abbrev pub HasFrame : ℕ → Body → List Frame → Type 0
HasFrame n b [] = ⊥
HasFrame n b (f ∷ fs) = ((f.name ≡ n) × (f.body ≡ b)) ⊎ HasFrame n b fs

-- the names fall, from below the bound
abbrev pub NamesFall : ℕ → List Frame → Type 0
NamesFall n fs = Falls (λ (f : Frame). f.name) n fs

-- the frames are exactly those of which P holds, the greatest number first; all are below the bound
pub record Lists (P : ℕ → Body → Type 0) (n : ℕ) (fs : List Frame) : Type 0 where
  pub each : EachNamed P fs
  pub all : (m : ℕ) (b : Body) → P m b → HasFrame m b fs
  pub falls : NamesFall n fs

-- in a run the frames on a processor's own part are exactly the open ones there, the greatest number first
abbrev pub OwnFramesAreOpen : Type 0
OwnFramesAreOpen = (s : Script) (limit : ℕ) (p : CpuNo) (past : List Event) → IsRun s limit past →
    Lists (IsOpenOwn p past) (length past) (own_frames p past)

-- in a run the frames on a thread's part are exactly the open ones there, the greatest number first
abbrev pub ThreadFramesAreOpen : Type 0
ThreadFramesAreOpen = (s : Script) (limit : ℕ) (t : ThreadNo) (past : List Event) → IsRun s limit past →
    Lists (IsOpenOn s t past) (length past) (thread_frames s (cpu_of s t) t past)

-- ---- the running thread and the innermost frame

-- by the event no thread runs any longer: a Gone, a wait that blocked, a `yield` that was done
abbrev pub stops_thread : What → Bool
stops_thread (Gone t) = true
stops_thread (Call f c y) = stops c y
stops_thread (Rewait f y) = is_blocked y
stops_thread (Switch t status) = false
stops_thread (Look why) = false
stops_thread (Begin b from) = false
stops_thread (Normal f) = false
stops_thread (End f) = false
stops_thread (Expire key from) = false
stops_thread (Fire d y) = false
stops_thread (Clean class) = false
stops_thread (Flush a from) = false
stops_thread (Free f k) = false
stops_thread Rest = false

abbrev pub is_switch_event : What → Bool
is_switch_event (Switch t status) = true
is_switch_event w = false

-- the last Switch of p is one to t, and no later event of p stops it
abbrev pub IsLastSwitched : CpuNo → ThreadNo → List Event → Type 0
IsLastSwitched p t past = (n : ℕ) × At (λ e before. (is_of e p ≡ true) × (switches_to t e.what ≡ true)) n past ×
    EachAfter (λ e before. is_of e p ≡ true → (is_switch_event e.what ≡ false) × (stops_thread e.what ≡ false)) n past

-- the running thread is the one of the processor's last Switch, where no later event of it stops it
abbrev pub RunningIsLastSwitched : Type 0
RunningIsLastSwitched = (p : CpuNo) (t : ThreadNo) (past : List Event) →
    (running p past ≡ Some t) ↔ IsLastSwitched p t past

-- the frame is the one of greatest number of which P holds
abbrev pub IsGreatest : (ℕ → Body → Type 0) → Frame → Type 0
IsGreatest P f = P f.name f.body × ((n : ℕ) (b : Body) → P n b → n ≤ f.name)

abbrev pub HasNone : (ℕ → Body → Type 0) → Type 0
HasNone P = (n : ℕ) (b : Body) → P n b → ⊥

-- what is answered as the innermost frame of p: the open one of greatest number on its own part, else the one of
-- greatest number on the part of the thread that runs there, else none
abbrev pub IsInnermost : Script → CpuNo → List Event → Option Frame → Type 0
IsInnermost s p past None = HasNone (IsOpenOwn p past) ×
    ((t : ThreadNo) → running p past ≡ Some t → HasNone (IsOpenOn s t past))
IsInnermost s p past (Some f) = IsGreatest (IsOpenOwn p past) f ⊎
    (HasNone (IsOpenOwn p past) × ((t : ThreadNo) × (running p past ≡ Some t) × IsGreatest (IsOpenOn s t past) f))

abbrev pub InnermostIsGreatest : Type 0
InnermostIsGreatest = (s : Script) (limit : ℕ) (p : CpuNo) (past : List Event) → IsRun s limit past →
    IsInnermost s p past (innermost (frames_of s p past))
