-- What each reason says of a thing after the first events of a history, and when the reasons are complete.
use Rattle.std.specs.List.{list_any}
use Rattle.std.specs.Option.{option_map_or}
use Rattle.std.specs.Prelude.{Bool, Err, List, None, Ok, Option, Result, Some, false, if◌then◌else◌, nat_lt, not}
use Rattle.std.specs.Prelude.{option_map, reverse, slice_get, true, ℕ, ◌&&◌, ◌+◌, ◌<◌, ◌==◌, ◌≡◌, ◌≤◌}
use Rattle.nt_event.specs.declared.commands.ApcKind.{ApcKind}
use Rattle.nt_event.specs.declared.commands.ApcKind.TheVariants.{Normal as NormalApc, Special as SpecialApc}
use Rattle.nt_event.specs.declared.commands.ApcKind.TheVariants.{User as UserApc}
use Rattle.nt_event.specs.declared.commands.Regions.{Regions}
use Rattle.nt_event.specs.declared.events.Event.{Event}
use Rattle.nt_event.specs.declared.events.ScheduleKind.{ScheduleKind}
use Rattle.nt_event.specs.declared.events.Turn.TheVariants.{Next as NextTurn}
use Rattle.nt_event.specs.declared.events.What.{What}
use Rattle.nt_event.specs.declared.inserts.Part.{Part}
use Rattle.nt_event.specs.declared.inserts.Part.TheVariants.{Ordinary as OrdinaryPart, Threaded as ThreadedPart}
use Rattle.nt_event.specs.declared.inserts.Pick.{Pick}
use Rattle.nt_event.specs.declared.numbers.CpuNo.{CpuNo}
use Rattle.nt_event.specs.declared.numbers.ThreadNo.{ThreadNo}
use Rattle.nt_event.specs.declared.scripts.Script.{Script}
use Rattle.nt_event.specs.declared.threads.Doing.{Doing}
use Rattle.nt_event.specs.declared.threads.Doing.TheVariants.{Blocked, Gone, Ready, Running}
use Rattle.nt_event.specs.Apcs.{ApcQueues, first_kernel, first_user, lets_through}
use Rattle.nt_event.specs.Classes.{apc_class, dispatch_class, threaded_class}
use Rattle.nt_event.specs.Fate.{StillWaits, Thing, fate_of, still_waits}
use Rattle.nt_event.specs.Frames.{Frames, innermost, thread_part}
use Rattle.nt_event.specs.Jobs.{is_due, level_at}
use Rattle.nt_event.specs.Lanes.{Lanes, facts_at, lanes_at, queue_at}
use Rattle.nt_event.specs.Lists.{head_of, is_null, value_at}
use Rattle.nt_event.specs.Numbers.{cpu, is_thread}
use Rattle.nt_event.specs.Objects.{importance_of, queue_for, target_of}
use Rattle.nt_event.specs.Own.{Own, own_of}
use Rattle.nt_event.specs.Queues.{first_dpc}
use Rattle.nt_event.specs.Regions.{regions_of}
use Rattle.nt_event.specs.Requests.{asked}
use Rattle.nt_event.specs.Routines.{cpu_of, kind_of, owner_of, part_of}
use Rattle.nt_event.specs.Step.{is_cut, step}
use Rattle.nt_event.specs.Threads.{ThreadFacts, waiting}
use Rattle.nt_cpu.specs.Runs.{asks_at}
use Rattle.nt_why.specs.Past.{past_at}
use Rattle.nt_why.specs.declared.reasons.Away.{Away}
use Rattle.nt_why.specs.declared.reasons.Does.{Does}
use Rattle.nt_why.specs.declared.reasons.Does.TheVariants as does
use Rattle.nt_why.specs.declared.reasons.Pending.{Pending}
use Rattle.nt_why.specs.declared.reasons.Reason.{Reason}
use Rattle.nt_why.specs.declared.reasons.Reason.TheVariants.{AskedNothing, Behind, Cut, Ended, First, InRegions}
use Rattle.nt_why.specs.declared.reasons.Reason.TheVariants.{NeverInserted, Next, NoNext, NotAsked, NotRunning, Noticed}
use Rattle.nt_why.specs.declared.reasons.Reason.TheVariants.{Runs, Stands, Then, TooHigh, Unnoticed, Waits}
use Rattle.nt_why.specs.declared.reasons.Reason.TheVariants.{MustFirst, NotTaken, OnOwn, Ready as IsReady, TakenFirst}
use Rattle.nt_why.specs.declared.reasons.Reason.TheVariants.{ExpiresFirst, IsDue, IsSet, NoSweep, NotDue, NotSet}
use Rattle.nt_why.specs.declared.reasons.Reason.TheVariants.{OwesSweep}
use Rattle.nt_why.specs.declared.reasons.Request.{Request}
use Rattle.nt_why.specs.declared.reasons.Sort.{Sort}
use Rattle.nt_why.specs.declared.reasons.Sort.TheVariants as sort
use Rattle.nt_why.specs.declared.reasons.Stood.{Stood}
use Rattle.nt_why.specs.declared.reasons.Top.{Top}
use Rattle.nt_why.specs.declared.fates.Fate.{Fate}
use Rattle.nt_why.specs.declared.fates.Object.{Object}
use Rattle.nt_why.specs.declared.fates.Object.TheVariants.{Apc, Dpc}
use Rattle.nt_why.specs.declared.watch.Watch.TheVariants as watch
use Rattle.nt_why.specs.Fates.{delivers, fate_as, is_it, last_insert, thing_of}
use Rattle.nt_why.specs.Watches.{since}

-- it says what holds the thing back
abbrev pub holds_back : Reason → Bool
holds_back (Behind p o n) = true
holds_back (NotRunning a) = true
holds_back (InRegions t r) = true
holds_back (TooHigh st) = true
holds_back (Unnoticed r n) = true
holds_back (NotAsked r) = true
holds_back (Cut p) = true
holds_back (Next p w) = true
holds_back (NoNext p k) = true
holds_back (OnOwn st) = true
holds_back (MustFirst p) = true
holds_back (NotTaken p k) = true
holds_back (NotDue due now) = true
holds_back (ExpiresFirst key n) = true
holds_back NoSweep = true
holds_back NeverInserted = false
holds_back (Ended n f) = false
holds_back (Waits i) = false
holds_back (Runs t) = false
holds_back (First p) = false
holds_back (Stands st) = false
holds_back (Noticed r n k) = false
holds_back (AskedNothing r n) = false
holds_back (Then f) = false
holds_back (IsReady a) = false
holds_back (TakenFirst p t) = false
holds_back (NotSet t n) = false
holds_back (IsSet t x) = false
holds_back (IsDue due now) = false
holds_back (OwesSweep p) = false

-- ---- the tests

-- the class of request by which a processor begins DPCs of the part
abbrev pub dpc_class : Part → ℕ
dpc_class OrdinaryPart = dispatch_class
dpc_class ThreadedPart = threaded_class

abbrev pub class_of : Script → Object → ℕ
class_of s (Dpc d) = dpc_class (part_of s d)
class_of s (Apc a) = apc_class

-- an ordinary DPC begins below DISPATCH_LEVEL, a threaded one at PASSIVE_LEVEL with no frame on the own part
abbrev pub lets_dpc : Part → Own → Bool
lets_dpc OrdinaryPart x = nat_lt (level_at x) 2
lets_dpc ThreadedPart x = (level_at x == 0) && is_null x.frames.own

-- the processor's level lets the insert of the object through
abbrev pub lets : Script → Object → Own → Bool
lets s (Dpc d) x = lets_dpc (part_of s d) x
lets s (Apc a) x = level_at x == 0

abbrev pub top_of : Frames → Option Top
top_of x = option_map (λ f. record { body = f.body; number = f.name }) (innermost x)

-- the processor stands so after this past
pub record IsStood (s : Script) (past : List Event) (st : Stood) : Type 0 where
  pub level : level_at (own_of s st.cpu past) ≡ st.level
  pub top : top_of (own_of s st.cpu past).frames ≡ st.top
  pub since : since s (watch.Stand st.cpu) past ≡ st.since

-- the first APC among those of the kind: kernel ones are taken from one row, user ones from another
abbrev pub first_apc : ApcKind → ApcQueues → Option Pick
first_apc SpecialApc q = first_kernel q
first_apc NormalApc q = first_kernel q
first_apc UserApc q = first_user q

-- the insert that is taken next where the object waits, of its part of the processor's queue or of its thread's APCs
abbrev pub first_of : Script → Lanes → CpuNo → Object → Option (Object × ℕ)
first_of s l p (Dpc d) =
    option_map (λ i. (Dpc i.dpc, i.number)) (first_dpc (part_of s d) (queue_at l p).pending)
first_of s l p (Apc a) =
    option_map (λ i. (Apc i.apc, i.number)) (first_apc (kind_of s a) (facts_at l (owner_of s a)).apcs)

-- the thread of the object is this one, an APC's
abbrev pub IsOwner : Script → Object → ThreadNo → Type 0
IsOwner s (Dpc d) t = ⊥
IsOwner s (Apc a) t = owner_of s a ≡ t

-- the regions of the thread, where it runs on the processor, or is blocked
abbrev pub regions_known : Own → ThreadFacts → ThreadNo → Option Regions
regions_known x f t =
    if is_thread x.frames.running t then Some (regions_of (thread_part x.frames))
    else option_map (λ w. w.regions) (waiting f)

-- they let the object through, of the APC's kind
abbrev pub passes : Script → Regions → Object → Bool
passes s r (Dpc d) = true
passes s r (Apc a) = lets_through r (kind_of s a)

-- the request was noticed and not served, and this event noticed the last one
pub record IsNoticed (s : Script) (past : List Event) (r : Request) (at : ℕ) (k : Option ℕ) : Type 0 where
  pub asked : asked s r.cpu r.class past ≡ at + 1
  pub seen : at + 1 ≤ value_at (own_of s r.cpu past).seen r.class
  pub due : is_due (own_of s r.cpu past) r.class ≡ true
  pub since : since s (watch.Seen r.cpu r.class) past ≡ k

pub record IsUnnoticed (s : Script) (past : List Event) (r : Request) (at : ℕ) : Type 0 where
  pub asked : asked s r.cpu r.class past ≡ at + 1
  pub seen : value_at (own_of s r.cpu past).seen r.class < at + 1

pub record IsNotAsked (s : Script) (past : List Event) (r : Request) : Type 0 where
  pub asked : asked s r.cpu r.class past ≤ value_at (own_of s r.cpu past).seen r.class
  pub due : is_due (own_of s r.cpu past) r.class ≡ false

-- the processor that made event n of these
abbrev pub maker_of : List Event → ℕ → CpuNo
maker_of events n = option_map_or (λ e. e.cpu) (slice_get events n) (cpu 0)

-- where the object goes by event n, which inserts it: a DPC object to the target's queue, else to that of the inserting
-- processor; an APC object to its thread, which is bound to a processor
abbrev pub place_of : Script → List Event → ℕ → Object → CpuNo
place_of s events n (Dpc d) = queue_for (target_of d (past_at n events)) (maker_of events n)
place_of s events n (Apc a) = cpu_of s (owner_of s a)

-- the last insert of the object goes to this processor
abbrev pub WaitsAt : Script → List Event → ℕ → Object → CpuNo → Type 0
WaitsAt s events end x p = (n : ℕ) × ((last_insert (thing_of x) (past_at end events) ≡ Some n)
    × (place_of s events n x ≡ p))

-- what the insert was, by event n: a DPC object's importance then, or an APC object's kind
abbrev pub sort_of : Script → List Event → ℕ → Object → Sort
sort_of s events n (Dpc d) = sort.Dpc (importance_of d (past_at n events))
sort_of s events n (Apc a) = sort.Apc (owner_of s a) (kind_of s a)

-- the last insert of the object is this one, and waits
pub record IsPending (s : Script) (events : List Event) (end : ℕ) (x : Object) (i : Pending) : Type 0 where
  pub last : last_insert (thing_of x) (past_at end events) ≡ Some i.at
  pub waits : fate_of (thing_of x) i.at (past_at end events) ≡ StillWaits
  pub cpu : place_of s events i.at x ≡ i.cpu
  pub by : maker_of events i.at ≡ i.by
  pub sort : sort_of s events i.at x ≡ i.sort

abbrev pub does_of : Doing → Does
does_of (Ready level status) = does.IsReady
does_of Running = does.IsRunning
does_of (Blocked w) = does.IsBlocked w.event w.delay w.mode w.alertable w.level
does_of Gone = does.IsGone

-- the thread does this since, and doesn't run
pub record IsAway (s : Script) (past : List Event) (a : Away) : Type 0 where
  pub does : does_of (facts_at (lanes_at s past) a.thread).doing ≡ a.does
  pub runs : (own_of s a.cpu past).frames.running ≡ a.runs
  pub other : is_thread a.runs a.thread ≡ false
  pub since : since s (watch.Doing a.thread) past ≡ a.since

-- what a reason says of the object after the first `end` of these events, which are those of a run with this limit
abbrev pub Says : Script → ℕ → List Event → ℕ → Object → Reason → Type 0
Says s limit events end x NeverInserted = last_insert (thing_of x) (past_at end events) ≡ None
Says s limit events end x (Ended n f) =
    (last_insert (thing_of x) (past_at end events) ≡ Some n)
    × ((fate_of (thing_of x) n (past_at end events) ≡ fate_as f) × (still_waits (fate_as f) ≡ false))
Says s limit events end x (Waits i) = IsPending s events end x i
Says s limit events end x (First p) = WaitsAt s events end x p ×
    (is_it (thing_of x) (option_map (λ o. thing_of o.0) (first_of s (lanes_at s (past_at end events)) p x)) ≡ true)
Says s limit events end x (Behind p o n) = WaitsAt s events end x p ×
    ((first_of s (lanes_at s (past_at end events)) p x ≡ Some (o, n))
    × (is_it (thing_of x) (Some (thing_of o)) ≡ false))
Says s limit events end x (Runs t) =
    IsOwner s x t × (is_thread (own_of s (cpu_of s t) (past_at end events)).frames.running t ≡ true)
Says s limit events end x (NotRunning a) = IsOwner s x a.thread × (IsAway s (past_at end events) a
    × (cpu_of s a.thread ≡ a.cpu))
Says s limit events end x (InRegions t r) =
    IsOwner s x t × ((regions_known (own_of s (cpu_of s t) (past_at end events))
    (facts_at (lanes_at s (past_at end events)) t) t ≡ Some r) × (passes s r x ≡ false))
Says s limit events end x (Stands st) = WaitsAt s events end x st.cpu ×
    (IsStood s (past_at end events) st × (lets s x (own_of s st.cpu (past_at end events)) ≡ true))
Says s limit events end x (TooHigh st) = WaitsAt s events end x st.cpu ×
    (IsStood s (past_at end events) st × (lets s x (own_of s st.cpu (past_at end events)) ≡ false))
Says s limit events end x (Noticed r n k) = WaitsAt s events end x r.cpu ×
    (IsNoticed s (past_at end events) r n k × (r.class ≡ class_of s x))
Says s limit events end x (Unnoticed r n) = WaitsAt s events end x r.cpu ×
    (IsUnnoticed s (past_at end events) r n × (r.class ≡ class_of s x))
Says s limit events end x (NotAsked r) = WaitsAt s events end x r.cpu ×
    (IsNotAsked s (past_at end events) r × (r.class ≡ class_of s x))
Says s limit events end x (AskedNothing r n) = WaitsAt s events end x r.cpu ×
    ((asks_at s n r.cpu r.class (past_at end events) ≡ false)
    × ((last_insert (thing_of x) (past_at end events) ≡ Some n) × (r.class ≡ class_of s x)))
Says s limit events end x (Cut p) = WaitsAt s events end x p × (is_cut limit (own_of s p (past_at end events)) ≡ true)
Says s limit events end x (Next p w) = WaitsAt s events end x p ×
    ((e : Event) × ((step s limit (NextTurn p) (past_at end events) ≡ Ok e) × (e.what ≡ w)))
Says s limit events end x (NoNext p k) = WaitsAt s events end x p ×
    (step s limit (NextTurn p) (past_at end events) ≡ Err k)
Says s limit events end x (Then f) =
    (n : ℕ) × ((last_insert (thing_of x) (past_at end events) ≡ Some n)
    × (fate_of (thing_of x) n (reverse events) ≡ fate_as f))
Says s limit events end x (IsReady a) = ⊥
Says s limit events end x (TakenFirst q u) = ⊥
Says s limit events end x (OnOwn st) = ⊥
Says s limit events end x (MustFirst q) = ⊥
Says s limit events end x (NotTaken q k) = ⊥
Says s limit events end x (NotSet u k) = ⊥
Says s limit events end x (IsSet u y) = ⊥
Says s limit events end x (IsDue due now) = ⊥
Says s limit events end x (NotDue due now) = ⊥
Says s limit events end x (ExpiresFirst key k) = ⊥
Says s limit events end x (OwesSweep q) = ⊥
Says s limit events end x NoSweep = ⊥

-- ---- complete

-- the event that a turn gave delivers the insert of this number
abbrev pub gives : Thing → ℕ → Result Event ScheduleKind → Bool
gives x n (Ok e) = delivers x n e.what
gives x n (Err k) = false

-- the next event of the processor where the insert of this number stands delivers it
abbrev pub is_free : Script → ℕ → List Event → ℕ → ℕ → Object → Bool
is_free s limit events end n x =
    gives (thing_of x) n (step s limit (NextTurn (place_of s events n x)) (past_at end events))

-- an object without a pending insert: the first reason says why; one with it: some reason says what holds it back,
-- exactly where the next event of its processor doesn't deliver it
pub record AreComplete (s : Script) (limit : ℕ) (events : List Event) (end : ℕ) (x : Object) (rs : List Reason) : Type 0
  where
    pub never : last_insert (thing_of x) (past_at end events) ≡ None → head_of rs ≡ Some NeverInserted
    pub ended : (n : ℕ) (f : Fate) → last_insert (thing_of x) (past_at end events) ≡ Some n →
        fate_of (thing_of x) n (past_at end events) ≡ fate_as f → still_waits (fate_as f) ≡ false → head_of rs
        ≡ Some (Ended n f)
    pub waits : (n : ℕ) → last_insert (thing_of x) (past_at end events) ≡ Some n →
        fate_of (thing_of x) n (past_at end events) ≡ StillWaits → list_any holds_back rs
        ≡ not (is_free s limit events end n x)

abbrev pub gives_what : Thing → ℕ → Result What ScheduleKind → Bool
gives_what x n (Ok w) = delivers x n w
gives_what x n (Err k) = false
