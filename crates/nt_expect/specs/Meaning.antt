-- What shows in a history that an expectation fails. Histories are lists of events, the newest first; the events before
-- an event are its past.
use Rattle.std.specs.Prelude.{◌≡◌, ℕ, ◌<◌, ◌==◌, Bool, true, false, List, [], ◌∷◌, ◌++◌, length, Some}
use Rattle.std.specs.Prelude.{is_some, ◌⊎◌}
use Rattle.std.specs.List.{list_any}
use Rattle.nt_event.specs.declared.commands.Command.TheVariants as cmd
use Rattle.nt_event.specs.declared.commands.TimerKey.TheVariants as keys
use Rattle.nt_event.specs.declared.events.Begun.TheVariants as begun
use Rattle.nt_event.specs.declared.events.Event.{Event}
use Rattle.nt_event.specs.declared.events.What.TheVariants as what
use Rattle.nt_event.specs.declared.frames.Body.{Body}
use Rattle.nt_event.specs.declared.frames.Body.TheVariants as on
use Rattle.nt_event.specs.declared.numbers.ApcNo.{ApcNo}
use Rattle.nt_event.specs.declared.numbers.CpuNo.{CpuNo}
use Rattle.nt_event.specs.declared.numbers.DpcNo.{DpcNo}
use Rattle.nt_event.specs.declared.numbers.LockNo.{LockNo}
use Rattle.nt_event.specs.declared.numbers.ThreadNo.{ThreadNo}
use Rattle.nt_event.specs.declared.scripts.Script.{Script}
use Rattle.nt_event.specs.Apcs.{is_inserted}
use Rattle.nt_event.specs.Families.{in_begin, in_call, in_expiry, in_switch}
use Rattle.nt_event.specs.Fate.{apc_begun}
use Rattle.nt_event.specs.Frame.{Frame}
use Rattle.nt_event.specs.Frames.{frames_of, running, thread_part}
use Rattle.nt_event.specs.Lanes.{facts_at, lanes_at}
use Rattle.nt_event.specs.Locks.{lock_of, spins_at}
use Rattle.nt_event.specs.Numbers.{is_thread}
use Rattle.nt_event.specs.Objects.{dpc_begun, is_queued, object_of}
use Rattle.nt_event.specs.Own.{own_of}
use Rattle.nt_event.specs.Replies.{is_refused}
use Rattle.nt_event.specs.Robin.{is_settled}
use Rattle.nt_event.specs.Routines.{owner_of}
use Rattle.nt_event.specs.Script.{has_cpu}
use Rattle.nt_event.specs.Step.{is_cut}
use Rattle.nt_event.specs.Threads.{waiting}
use Rattle.nt_expect.specs.declared.expectations.Activity.{Activity}
use Rattle.nt_expect.specs.declared.expectations.Activity.TheVariants as act
use Rattle.nt_expect.specs.declared.expectations.Expectation.{Expectation}
use Rattle.nt_expect.specs.declared.expectations.Expectation.TheVariants.{Never, NeverAfter, NeverBefore, NeverTwice}
use Rattle.nt_expect.specs.declared.expectations.Expectation.TheVariants.{NeverAbove, NeverOn, NeverWith, NeverWaitsDpc}
use Rattle.nt_expect.specs.declared.expectations.Expectation.TheVariants.{NeverWaitsApc, NeverBlocked, NeverSpins}
use Rattle.nt_expect.specs.declared.expectations.Expectation.TheVariants.{Always, AlwaysEnds}
use Rattle.nt_expect.specs.declared.expectations.Watched.{Watched}
use Rattle.nt_expect.specs.declared.expectations.Watched.TheVariants.{Note, Refused, Begin, Expire, Gone, Call}
use Rattle.nt_expect.specs.Replies.{name_of}

-- ---- events

abbrev pub takes_thread : ThreadNo → Event → Bool
takes_thread t e = in_switch (λ u status. u.0 == t.0) false e.what

-- the event begins it: of an APC object its kernel routine, of a thread its first switch
abbrev pub Begins : Activity → Event → List Event → Type 0
Begins (act.Int level) e past = in_begin (λ b from. b ≡ begun.Int level) ⊥ e.what
Begins (act.Dpc d) e past = in_begin (λ b from. dpc_begun b ≡ Some d) ⊥ e.what
Begins (act.Apc a) e past = in_begin (λ b from. apc_begun b ≡ Some a) ⊥ e.what
Begins (act.Thread t) e past = (takes_thread t e ≡ true) × (list_any (takes_thread t) past ≡ false)

-- the event is one that is watched for, behind these
abbrev pub Matches : Watched → Event → List Event → Type 0
Matches (Note n) e past = in_call (λ f c y. c ≡ cmd.Note n) ⊥ e.what
Matches Refused e past = in_call (λ f c y. is_refused y ≡ true) ⊥ e.what
Matches (Begin b) e past = Begins b e past
Matches (Expire t) e past = in_expiry (λ key from. key ≡ keys.Timer t) ⊥ e.what
Matches (Gone t) e past = e.what ≡ what.Gone t
Matches (Call c y) e past = in_call (λ f d reply. (d ≡ c) × (name_of reply ≡ y)) ⊥ e.what

-- such an event came
abbrev pub Came : Watched → List Event → Type 0
Came x [] = ⊥
Came x (e ∷ past) = Matches x e past ⊎ Came x past

-- ---- what stands on a processor

abbrev pub int_in : ℕ → Body → Bool
int_in level (on.Int l) = l == level
int_in level (on.Dpc d) = false
int_in level (on.Threaded d) = false
int_in level (on.Apc a kind) = false
int_in level (on.Base t) = false
int_in level (on.Rundown a) = false

abbrev pub dpc_in : DpcNo → Body → Bool
dpc_in d (on.Int l) = false
dpc_in d (on.Dpc x) = x.0 == d.0
dpc_in d (on.Threaded x) = x.0 == d.0
dpc_in d (on.Apc a kind) = false
dpc_in d (on.Base t) = false
dpc_in d (on.Rundown a) = false

-- the rundown routine of an APC object is not one of its own
abbrev pub apc_in : ApcNo → Body → Bool
apc_in a (on.Int l) = false
apc_in a (on.Dpc x) = false
apc_in a (on.Threaded x) = false
apc_in a (on.Apc x kind) = x.0 == a.0
apc_in a (on.Base t) = false
apc_in a (on.Rundown x) = false

-- the frames that are open on a processor: on its own part, and on that of its running thread
abbrev pub open_frames : Script → CpuNo → List Event → List Frame
open_frames s p h = (frames_of s p h).own ++ thread_part (frames_of s p h)

-- it stands on the processor after these events: a frame of it is open there, or the thread runs
abbrev pub stands_on : Script → Activity → CpuNo → List Event → Bool
stands_on s (act.Int level) p h = list_any (λ f. int_in level f.body) (open_frames s p h)
stands_on s (act.Dpc d) p h = list_any (λ f. dpc_in d f.body) (open_frames s p h)
stands_on s (act.Apc a) p h = list_any (λ f. apc_in a f.body) (open_frames s p h)
stands_on s (act.Thread t) p h = is_thread (running p h) t

-- both stand there at one time, on two processors
pub record StandTogether (s : Script) (b c : Activity) (h : List Event) : Type 0 where
  pub p : CpuNo
  pub q : CpuNo
  pub apart : (p.0 == q.0) ≡ false
  pub here : stands_on s b p h ≡ true
  pub there : stands_on s c q h ≡ true

-- ---- the end

-- all is quiet: the history is settled, and no processor is cut
pub record IsQuiet (s : Script) (limit : ℕ) (h : List Event) : Type 0 where
  pub settled : is_settled s limit h ≡ true
  pub uncut : (p : CpuNo) → has_cpu s p ≡ true → is_cut limit (own_of s p h) ≡ false

abbrev pub dpc_waits : DpcNo → List Event → Bool
dpc_waits d h = is_queued (object_of d h)

abbrev pub apc_waits : Script → ApcNo → List Event → Bool
apc_waits s a h = is_inserted a (facts_at (lanes_at s h) (owner_of s a)).apcs

abbrev pub is_blocked : Script → ThreadNo → List Event → Bool
is_blocked s t h = is_some (waiting (facts_at (lanes_at s h) t))

-- a processor spins on the lock
abbrev pub SpinsOn : Script → LockNo → List Event → Type 0
SpinsOn s k h = (p : CpuNo) × (spins_at (lock_of s k h) p ≡ true)

-- ---- what shows that an expectation fails

-- the event shows it, behind these
abbrev pub ShowsAt : Script → Expectation → Event → List Event → Type 0
ShowsAt s (Never x) e past = Matches x e past
ShowsAt s (NeverAfter x y) e past = Matches x e past × Came y past
ShowsAt s (NeverBefore x y) e past = Matches x e past × (Came y past → ⊥)
ShowsAt s (NeverTwice x) e past = Matches x e past × Came x past
ShowsAt s (NeverAbove x level) e past = Matches x e past × (level < e.level)
ShowsAt s (NeverOn x p) e past = Matches x e past × (e.cpu ≡ p)
ShowsAt s (NeverWith b c) e past = StandTogether s b c (e ∷ past)
ShowsAt s (NeverWaitsDpc d) e past = ⊥
ShowsAt s (NeverWaitsApc a) e past = ⊥
ShowsAt s (NeverBlocked t) e past = ⊥
ShowsAt s (NeverSpins k) e past = ⊥
ShowsAt s (Always x) e past = ⊥
ShowsAt s AlwaysEnds e past = ⊥

-- the history shows it where all is quiet behind it
abbrev pub ShowsAtEnd : Script → Expectation → List Event → Type 0
ShowsAtEnd s (Never x) h = ⊥
ShowsAtEnd s (NeverAfter x y) h = ⊥
ShowsAtEnd s (NeverBefore x y) h = ⊥
ShowsAtEnd s (NeverTwice x) h = ⊥
ShowsAtEnd s (NeverAbove x level) h = ⊥
ShowsAtEnd s (NeverOn x p) h = ⊥
ShowsAtEnd s (NeverWith b c) h = ⊥
ShowsAtEnd s (NeverWaitsDpc d) h = dpc_waits d h ≡ true
ShowsAtEnd s (NeverWaitsApc a) h = apc_waits s a h ≡ true
ShowsAtEnd s (NeverBlocked t) h = is_blocked s t h ≡ true
ShowsAtEnd s (NeverSpins k) h = SpinsOn s k h
ShowsAtEnd s (Always x) h = Came x h → ⊥
ShowsAtEnd s AlwaysEnds h = ⊥

-- an event of this number in the history, with the events before it
pub record IsEvent (h : List Event) (k : ℕ) (e : Event) (past : List Event) : Type 0 where
  pub newer : List Event
  pub is : h ≡ newer ++ e ∷ past
  pub number : length past ≡ k

-- the event of number k shows in the history that the expectation fails; at a quiet end, k is the number of all events.
-- No history shows that runs don't end.
abbrev pub IsShownAt : Script → ℕ → Expectation → List Event → ℕ → Type 0
IsShownAt s limit x h k =
    ((e : Event) × (past : List Event) × IsEvent h k e past × ShowsAt s x e past)
    ⊎ (IsQuiet s limit h × ShowsAtEnd s x h × (length h ≡ k))
