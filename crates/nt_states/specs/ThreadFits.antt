-- Which events a processor may make in these states of the threads: what a job gives there.
use Rattle.std.specs.Prelude.{Bool, IfSome, IsSome, IsSomeAnd, IsTrue, None, Option, Some, false, if◌then◌else◌}
use Rattle.std.specs.Prelude.{is_some, length, not, ℕ, ◌&&◌, ◌<◌, ◌==◌, ◌≡◌, ◌≤◌, ◌⊎◌}
use Rattle.nt_event.specs.declared.commands.ApcKind.TheVariants.{Normal as NormalApc, Special as SpecialApc}
use Rattle.nt_event.specs.declared.commands.ApcKind.TheVariants.{User as UserApc}
use Rattle.nt_event.specs.declared.commands.Mode.{Mode}
use Rattle.nt_event.specs.declared.commands.Reply.{Reply}
use Rattle.nt_event.specs.declared.commands.Reply.TheVariants.{Blocked, Done, No, Refused, Spin, Status, Yes}
use Rattle.nt_event.specs.declared.commands.TimerKey.TheVariants as keys
use Rattle.nt_event.specs.declared.events.Begun.TheVariants as begun
use Rattle.nt_event.specs.declared.events.Event.{Event}
use Rattle.nt_event.specs.declared.events.What.{What}
use Rattle.nt_event.specs.declared.events.What.TheVariants as what
use Rattle.nt_event.specs.declared.frames.Again.{Again}
use Rattle.nt_event.specs.declared.frames.Body.{Body}
use Rattle.nt_event.specs.declared.frames.Body.TheVariants.{Apc as OnApc, Base as OnBase, Dpc as OnDpc, Int as OnInt}
use Rattle.nt_event.specs.declared.frames.Body.TheVariants.{Rundown as OnRundown, Threaded as OnThreaded}
use Rattle.nt_event.specs.declared.inserts.Pick.{Pick}
use Rattle.nt_event.specs.declared.jobs.Stand.{Stand}
use Rattle.nt_event.specs.declared.numbers.ApcNo.{ApcNo}
use Rattle.nt_event.specs.declared.numbers.ThreadNo.{ThreadNo}
use Rattle.nt_event.specs.declared.scripts.Script.{Script}
use Rattle.nt_event.specs.declared.threads.Doing.TheVariants.{Running as IsRunning}
use Rattle.nt_event.specs.Apcs.{deliverable, first_user, is_inserted, takes, without_apc}
use Rattle.nt_event.specs.Jobs.{user_due}
use Rattle.nt_event.specs.Routines.{cpu_of, owner_of}
use Rattle.nt_event.specs.Script.{has_apc, has_thread}
use Rattle.nt_event.specs.Step.{thread_field}
use Rattle.nt_event.specs.Threads.{ThreadFacts, ended_status, ends_by_release, is_alerted, is_gone, is_ready}
use Rattle.nt_event.specs.Waits.{alert_facts, expiry_facts, insert_facts, new_pick, release_facts, wait_reply}
use Rattle.nt_event.specs.Replies.{satisfied, yes_if, is_yes}
use Rattle.nt_states.specs.ThreadLanes.{ThreadLanes, facts_in}
use Rattle.nt_event.specs.Families.{AddApc, AlertThread, ApcCall, DelaysIn, GivesWay, OwnCall, ReleaseThread, TakeApc}
use Rattle.nt_event.specs.Families.{TestsAlert, ThreadCall, WaitsIn, apc_named, by_apc_call, by_own_call}
use Rattle.nt_event.specs.Families.{by_thread_call, in_call, in_expiry, thread_named}
use Rattle.nt_event.specs.declared.commands.TimerKey.{TimerKey}
use Rattle.nt_event.specs.declared.commands.Command.{Command}

-- ---- of a thread that makes the event, by its facts

-- a wait at this level answers so
pub record Waits (st : Stand) (m : Mode) (alertable : Bool) (y : Reply) (facts : ThreadFacts) : Type 0 where
  pub level : st.level ≤ 1
  pub reply : y ≡ wait_reply facts st.regions st.level m alertable None

-- a delay does so, its due time being reached or not
pub record Delays (st : Stand) (m : Mode) (alertable : Bool) (y : Reply) (facts : ThreadFacts) : Type 0 where
  pub level : st.level ≤ 1
  pub reached : Bool
  pub reply : y ≡ wait_reply facts st.regions st.level m alertable (Some reached)

-- a wait that is taken up again does so: of a delay, its due time being reached or not
pub record TakesUp (st : Stand) (y : Reply) (facts : ThreadFacts) : Type 0 where
  pub level : st.level ≤ 1
  pub wait : Again
  pub kept : st.again ≡ Some wait
  pub reached : Option Bool
  pub kind : is_some reached ≡ is_some wait.due
  pub reply : y ≡ wait_reply facts st.regions st.level wait.mode wait.alertable reached

-- the insert of the APC object, of this number, is the one that is due
pub record Begins (st : Stand) (a : ApcNo) (from : ℕ) (facts : ThreadFacts) : Type 0 where
  pub pick : Pick
  pub due : (deliverable facts.apcs st.regions st.level ≡ Some pick) ⊎ (user_due facts ≡ Some pick)
  pub apc : pick.apc ≡ a
  pub number : pick.number ≡ from

-- it is the first user APC
pub record Flushes (a : ApcNo) (from : ℕ) (facts : ThreadFacts) : Type 0 where
  pub pick : Pick
  pub first : first_user facts.apcs ≡ Some pick
  pub apc : pick.apc ≡ a
  pub number : pick.number ≡ from

-- a call about the thread itself replies so
abbrev pub OwnFits : Stand → OwnCall → Reply → ThreadFacts → Type 0
OwnFits st (WaitsIn m a) y facts = Waits st m a y facts
OwnFits st (DelaysIn m a units) y facts = Delays st m a y facts
OwnFits st (TestsAlert m) y facts = y ≡ yes_if (is_alerted m facts)
OwnFits st GivesWay y facts = y ≡ Done

-- the thread whose facts these are may make the event
abbrev pub CanMake : Stand → What → ThreadFacts → Type 0
CanMake st (what.Call f c y) facts = by_own_call (λ k. OwnFits st k y facts) (Unit {0}) c
CanMake st (what.Switch t status) facts = IsTrue (is_ready facts) × (status ≡ ended_status facts)
CanMake st (what.Rewait f y) facts = TakesUp st y facts
CanMake st (what.Begin (begun.Apc a) from) facts = Begins st a from facts
CanMake st (what.Flush a from) facts = Flushes a from facts
CanMake st (what.Gone t) facts = first_user facts.apcs ≡ None
CanMake st (what.Look r) facts = Unit {0}
CanMake st (what.Begin (begun.Int level) from) facts = Unit {0}
CanMake st (what.Begin (begun.Dpc d) from) facts = Unit {0}
CanMake st (what.Begin (begun.Threaded d) from) facts = Unit {0}
CanMake st (what.Normal f) facts = Unit {0}
CanMake st (what.End f) facts = Unit {0}
CanMake st (what.Expire key from) facts = Unit {0}
CanMake st (what.Fire d y) facts = Unit {0}
CanMake st (what.Clean class) facts = Unit {0}
CanMake st (what.Free f k) facts = Unit {0}
CanMake st what.Rest facts = Unit {0}

-- ---- of a thread that the event names, whoever makes it

abbrev pub delay_named : TimerKey → Option ThreadNo
delay_named (keys.Delay u) = Some u
delay_named (keys.Timer t) = None

-- the thread that it names: the one that is released or alerted, the APC object's, or the one whose delay expires
abbrev pub named_thread : Script → What → Option ThreadNo
named_thread s w =
    in_call (λ f c y. by_thread_call (λ k. Some (thread_named k))
    (by_apc_call (λ k. Some (owner_of s (apc_named k))) None c) c)
    (in_expiry (λ key from. delay_named key) None w) w

-- the object is one of the script's, and the reply is this answer
pub record Tells (s : Script) (a : ApcNo) (yes : Bool) (y : Reply) : Type 0 where
  pub apc : IsTrue (has_apc s a)
  pub reply : y ≡ yes_if yes

abbrev pub ThreadTells : ThreadCall → Reply → ThreadFacts → Type 0
ThreadTells (ReleaseThread u) y facts = y ≡ yes_if (ends_by_release facts)
ThreadTells (AlertThread u m) y facts = y ≡ yes_if (not (is_gone facts) && is_alerted m facts)

abbrev pub ApcTells : Script → ApcCall → Reply → ThreadFacts → Type 0
ApcTells s (AddApc a) y facts = Tells s a (takes a facts.apcs) y
ApcTells s (TakeApc a) y facts = Tells s a (is_inserted a facts.apcs) y

-- the reply is the one that the facts of the named thread give
abbrev pub CanTell : Script → What → ThreadFacts → Type 0
CanTell s w facts =
    in_call (λ f c y. by_thread_call (λ k. ThreadTells k y facts)
    (by_apc_call (λ k. ApcTells s k y facts) (Unit {0}) c) c) (Unit {0}) w

abbrev pub thread_told : ThreadCall → ThreadFacts → ThreadFacts
thread_told (ReleaseThread u) facts = release_facts facts
thread_told (AlertThread u m) facts = alert_facts m facts

abbrev pub apc_told : Script → ℕ → ApcCall → Reply → ThreadFacts → ThreadFacts
apc_told s n (AddApc a) y facts = if is_yes y then insert_facts (new_pick s a n) facts else facts
apc_told s n (TakeApc a) y facts = if is_yes y then record facts { apcs = without_apc a facts.apcs } else facts

abbrev pub key_told : TimerKey → ℕ → ThreadFacts → ThreadFacts
key_told (keys.Delay u) from facts = expiry_facts from facts
key_told (keys.Timer t) from facts = facts

-- what the event of this number leaves of the facts of the thread that it names
abbrev pub told_facts : Script → ℕ → What → ThreadFacts → ThreadFacts
told_facts s n w facts =
    in_call (λ f c y. by_thread_call (λ k. thread_told k facts) (by_apc_call (λ k. apc_told s n k y facts) facts c) c)
    (in_expiry (λ key from. key_told key from facts) facts w) w

-- ---- a reply tells whether a delay's due time was reached

-- it was where the reply is that the delay is over
abbrev pub is_over : Reply → Bool
is_over (Status status) = status == satisfied
is_over Done = false
is_over Yes = false
is_over No = false
is_over Blocked = false
is_over Spin = false
is_over (Refused r) = false

-- of a delay
abbrev pub over_if : Bool → Reply → Option Bool
over_if delay y = if delay then Some (is_over y) else None

-- ---- of all threads

-- a thread runs on the processor, and this holds of its facts
abbrev pub InThread : ThreadLanes → Stand → (ThreadFacts → Type 0) → Type 0
InThread x st P = IsSomeAnd st.thread (λ t. P (facts_in x t))

-- the thread is one of the script's, and this holds of its facts
pub record OfThread (x : ThreadLanes) (t : ThreadNo) (P : ThreadFacts → Type 0) : Type 0 where
  pub named : IsTrue (has_thread x.script t)
  pub facts : P (facts_in x t)

-- the base routine of a thread, or a user APC, ends in a thread
abbrev pub EndFits : Stand → Option Body → Type 0
EndFits st (Some (OnBase t)) = IsSome st.thread
EndFits st (Some (OnApc a UserApc)) = IsSome st.thread
EndFits st (Some (OnApc a SpecialApc)) = Unit {0}
EndFits st (Some (OnApc a NormalApc)) = Unit {0}
EndFits st (Some (OnInt level)) = Unit {0}
EndFits st (Some (OnDpc d)) = Unit {0}
EndFits st (Some (OnThreaded d)) = Unit {0}
EndFits st (Some (OnRundown a)) = Unit {0}
EndFits st None = Unit {0}

-- a ready thread of the processor, with its status
pub record Takes (x : ThreadLanes) (st : Stand) (t : ThreadNo) (status : Option ℕ) : Type 0 where
  pub named : IsTrue (has_thread x.script t)
  pub own : cpu_of x.script t ≡ st.cpu
  pub ready : IsTrue (is_ready (facts_in x t))
  pub ended : status ≡ ended_status (facts_in x t)

-- the running thread, which has no user APC
pub record Goes (x : ThreadLanes) (st : Stand) (t : ThreadNo) : Type 0 where
  pub runs : st.thread ≡ Some t
  pub flushed : first_user (facts_in x t).apcs ≡ None

-- a call replies so: one about the thread itself, about a thread that it names, or about an APC object
abbrev pub CallFits : ThreadLanes → Stand → Command → Reply → Type 0
CallFits x st c y =
    by_own_call (λ k. InThread x st (OwnFits st k y))
    (by_thread_call (λ k. OfThread x (thread_named k) (ThreadTells k y))
    (by_apc_call (λ k. ApcTells x.script k y (facts_in x (owner_of x.script (apc_named k)))) (Unit {0}) c) c) c

-- the event is one that a job gives in these states
abbrev pub WhatFits : ThreadLanes → Stand → What → Type 0
WhatFits x st (what.Call f c y) = CallFits x st c y
WhatFits x st (what.Switch t status) = Takes x st t status
WhatFits x st (what.Rewait f y) = InThread x st (TakesUp st y)
WhatFits x st (what.Begin (begun.Apc a) from) = InThread x st (Begins st a from)
WhatFits x st (what.Flush a from) = InThread x st (Flushes a from)
WhatFits x st (what.Gone t) = Goes x st t
WhatFits x st (what.End f) = EndFits st st.body
WhatFits x st (what.Expire (keys.Delay u) from) = IsTrue (has_thread x.script u)
WhatFits x st (what.Look rises) = Unit {0}
WhatFits x st (what.Begin (begun.Int level) from) = Unit {0}
WhatFits x st (what.Begin (begun.Dpc d) from) = Unit {0}
WhatFits x st (what.Begin (begun.Threaded d) from) = Unit {0}
WhatFits x st (what.Normal f) = Unit {0}
WhatFits x st (what.Expire (keys.Timer k) from) = Unit {0}
WhatFits x st (what.Fire d y) = Unit {0}
WhatFits x st (what.Clean class) = Unit {0}
WhatFits x st (what.Free f k) = Unit {0}
WhatFits x st what.Rest = Unit {0}

-- the running thread is one of the script's and of the processor, and its facts say that it runs
pub record RunsHere (x : ThreadLanes) (st : Stand) (t : ThreadNo) : Type 0 where
  pub named : t.0 < length x.script.threads
  pub own : cpu_of x.script t ≡ st.cpu
  pub runs : (facts_in x t).doing ≡ IsRunning

-- the event may be made by a processor that stands so, in these states
pub record MayLeave (x : ThreadLanes) (st : Stand) (e : Event) : Type 0 where
  pub cpu : e.cpu ≡ st.cpu
  pub thread : e.thread ≡ thread_field e.what st.thread
  pub stands : IfSome st.thread (RunsHere x st)
  pub what : WhatFits x st e.what
