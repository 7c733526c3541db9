-- Requests: which values an event asks for, and what a processor has noticed and served of them.
use Rattle.std.specs.List.{list_any}
use Rattle.std.specs.Prelude.{Bool, List, None, Option, Some, [], false, if◌then◌else◌, length, max, nat_lt, not, suc}
use Rattle.std.specs.Prelude.{true, ℕ, ◌&&◌, ◌++◌, ◌+◌, ◌==◌, ◌||◌, ◌∷◌}
use Rattle.nt_event.specs.declared.commands.ApcKind.TheVariants.{Normal as NormalApc}
use Rattle.nt_event.specs.declared.commands.Command.{Command}
use Rattle.nt_event.specs.declared.commands.Reply.{Reply}
use Rattle.nt_event.specs.declared.commands.Reply.TheVariants.{Yes}
use Rattle.nt_event.specs.declared.commands.TimerKey.TheVariants as keys
use Rattle.nt_event.specs.declared.events.Begun.TheVariants as begun
use Rattle.nt_event.specs.declared.events.Event.{Event}
use Rattle.nt_event.specs.declared.events.What.{What}
use Rattle.nt_event.specs.declared.events.What.TheVariants as what
use Rattle.nt_event.specs.declared.frames.Body.{Body}
use Rattle.nt_event.specs.declared.frames.Body.TheVariants as on
use Rattle.nt_event.specs.declared.inserts.Part.{Part}
use Rattle.nt_event.specs.declared.inserts.Part.TheVariants.{Ordinary as OrdinaryPart, Threaded as ThreadedPart}
use Rattle.nt_event.specs.declared.jobs.Lane.{Lane}
use Rattle.nt_event.specs.declared.jobs.Stand.{Stand}
use Rattle.nt_event.specs.declared.numbers.ApcNo.{ApcNo}
use Rattle.nt_event.specs.declared.numbers.CpuNo.{CpuNo}
use Rattle.nt_event.specs.declared.numbers.DpcNo.{DpcNo}
use Rattle.nt_event.specs.declared.numbers.LockNo.{LockNo}
use Rattle.nt_event.specs.declared.numbers.ThreadNo.{ThreadNo}
use Rattle.nt_event.specs.declared.scripts.Script.{Script}
use Rattle.nt_event.specs.Classes.{apc_class, clock_class, dispatch_class, lock_class, threaded_class}
use Rattle.nt_event.specs.Apcs.{has_kernel}
use Rattle.nt_event.specs.Lanes.{Lanes, facts_at, facts_of, lanes_at, lanes_of, lock_at, object_at, queue_at, touches}
use Rattle.nt_event.specs.Objects.{ObjectState, queue_for}
use Rattle.nt_event.specs.Queues.{QueueState, depth_of, insert_asks}
use Rattle.nt_event.specs.Regions.{some_came_to_0, stand_at}
use Rattle.nt_event.specs.Routines.{cpu_of, depth_limit, is_kernel_kind, kind_of, owner_of, part_of}
use Rattle.nt_event.specs.Threads.{ends_by_alert, ends_by_apc, ends_by_expiry, is_gone}
use Rattle.nt_event.specs.Waits.{new_pick}
use Rattle.nt_event.specs.Numbers.{cpu, is_of}
use Rattle.nt_event.specs.Replies.{is_done, is_no, is_spin, is_yes}
use Rattle.nt_event.specs.Lists.{value_at}
use Rattle.nt_event.specs.Families.{AdvanceTime, AddApc, AlertThread, AcquireLock, ApcCall, CritEntered, CritLeft}
use Rattle.nt_event.specs.Families.{DpcCall, EnterUser, Family, ForApc, ForDpc, ForLevel, ForLock, ForOwn, ForPlain}
use Rattle.nt_event.specs.Families.{ForRegion, ForThread, ForTimer, GiveImportance, GiveTarget, GuardEntered, GuardLeft}
use Rattle.nt_event.specs.Families.{InsertDpc, LockCall, PlainCall, RegionCall, ReleaseThread, RemoveDpc, RequestAt}
use Rattle.nt_event.specs.Families.{TakeApc, ThreadCall, UnlockLock, WriteNote, family, in_begin, in_call, in_clean}
use Rattle.nt_event.specs.Families.{in_look}
use Rattle.nt_event.specs.declared.events.Begun.{Begun}

pub record Ask : Type 0 where
  pub cpu : CpuNo
  pub class : ℕ

abbrev pub ask : CpuNo → ℕ → List Ask
ask p c = record { cpu = p; class = c } ∷ []

abbrev pub ask_if : Bool → CpuNo → ℕ → List Ask
ask_if true p c = ask p c
ask_if false p c = []

-- an insert of a threaded DPC always asks its queue's processor for that class, one of an ordinary DPC for dispatch by
-- the table of importance, depth after the insert and idle target (profile)
abbrev pub dpc_asks : Script → Part → ObjectState → CpuNo → CpuNo → QueueState → List Ask
dpc_asks s ThreadedPart o by q x = ask q threaded_class
dpc_asks s OrdinaryPart o by q x =
    ask_if (insert_asks o.importance (q.0 == by.0)
    (nat_lt (depth_limit s) (depth_of x.pending + 1)) x.idle) q dispatch_class

abbrev pub queue_asks : Script → DpcNo → CpuNo → Lanes → List Ask
queue_asks s d by l =
    let q : CpuNo = queue_for (object_at l d).target by in dpc_asks s (part_of s d) (object_at l d) by q (queue_at l q)

-- an insert of a kernel APC asks its thread's processor for kernel APCs, one that ends a wait for dispatch
abbrev pub apc_asks : Script → ApcNo → Lanes → List Ask
apc_asks s a l =
    let t : ThreadNo = owner_of s a in
    ask_if (is_kernel_kind (kind_of s a)) (cpu_of s t) apc_class
    ++ ask_if (ends_by_apc (new_pick s a 0) (facts_at l t)) (cpu_of s t) dispatch_class

-- a release asks each processor that spins on the lock to try again
abbrev pub spinner_asks : ℕ → List Bool → List Ask
spinner_asks n [] = []
spinner_asks n (b ∷ more) = ask_if b (cpu n) lock_class ++ spinner_asks (suc n) more

abbrev pub release_asks : LockNo → Lanes → List Ask
release_asks k l = spinner_asks 0 (lock_at l k).spinners

-- by family, of a command with this reply

abbrev pub asks_if : Bool → List Ask → List Ask
asks_if true xs = xs
asks_if false xs = []

abbrev pub dpc_call_asks : Script → Stand → DpcCall → Reply → Lanes → List Ask
dpc_call_asks s st (InsertDpc d) y l = asks_if (is_yes y) (queue_asks s d st.cpu l)
dpc_call_asks s st (RemoveDpc d) y l = []
dpc_call_asks s st (GiveImportance d i) y l = []
dpc_call_asks s st (GiveTarget d q) y l = []

abbrev pub apc_call_asks : Script → ApcCall → Reply → Lanes → List Ask
apc_call_asks s (AddApc a) y l = asks_if (is_yes y) (apc_asks s a l)
apc_call_asks s (TakeApc a) y l = []

abbrev pub region_asks : Stand → RegionCall → Reply → List Ask
region_asks st CritLeft y = asks_if (is_done y) (ask_if (st.regions.crit == 1) st.cpu apc_class)
region_asks st GuardLeft y = asks_if (is_done y) (ask_if (st.regions.guard == 1) st.cpu apc_class)
region_asks st CritEntered y = []
region_asks st GuardEntered y = []

abbrev pub thread_asks : Script → ThreadCall → Reply → Lanes → List Ask
thread_asks s (ReleaseThread t) y l = asks_if (is_yes y) (ask (cpu_of s t) dispatch_class)
thread_asks s (AlertThread t m) y l =
    asks_if (is_no y)
    (ask_if (not (is_gone (facts_at l t)) && ends_by_alert m (facts_at l t)) (cpu_of s t) dispatch_class)

abbrev pub lock_asks : LockCall → Reply → Lanes → List Ask
lock_asks (UnlockLock k) y l = asks_if (is_done y) (release_asks k l)
lock_asks (AcquireLock k) y l = []

abbrev pub plain_asks : Stand → PlainCall → Reply → List Ask
plain_asks st (RequestAt q level) y = asks_if (is_done y) (ask q level)
plain_asks st (AdvanceTime units) y = asks_if (is_done y) (ask st.cpu clock_class)
plain_asks st EnterUser y = []
plain_asks st (WriteNote n) y = []

abbrev pub family_asks : Script → Stand → Family → Reply → Lanes → List Ask
family_asks s st (ForDpc k) y l = dpc_call_asks s st k y l
family_asks s st (ForApc k) y l = apc_call_asks s k y l
family_asks s st (ForRegion k) y l = region_asks st k y
family_asks s st (ForThread k) y l = thread_asks s k y l
family_asks s st (ForLock k) y l = lock_asks k y l
family_asks s st (ForPlain k) y l = plain_asks st k y
family_asks s st (ForLevel k) y l = []
family_asks s st (ForTimer k) y l = []
family_asks s st (ForOwn k) y l = []

-- what a call asks for, by the states before it
abbrev pub command_asks : Script → Stand → Command → Reply → Lanes → List Ask
command_asks s st c y l = family_asks s st (family c) y l

-- what the end of a frame asks for
abbrev pub end_asks : Stand → Option Body → Lanes → List Ask
end_asks st (Some (on.Apc a NormalApc)) l = ask st.cpu apc_class
end_asks st (Some (on.Base t)) l =
    ask_if (some_came_to_0 st.regions st.below || has_kernel (facts_of l st.thread).apcs) st.cpu apc_class
end_asks st (Some (on.Int level)) l = ask_if (some_came_to_0 st.regions st.below) st.cpu apc_class
end_asks st (Some (on.Dpc d)) l = ask_if (some_came_to_0 st.regions st.below) st.cpu apc_class
end_asks st (Some (on.Threaded d)) l = ask_if (some_came_to_0 st.regions st.below) st.cpu apc_class
end_asks st (Some (on.Apc a kind)) l = ask_if (some_came_to_0 st.regions st.below) st.cpu apc_class
end_asks st (Some (on.Rundown a)) l = ask_if (some_came_to_0 st.regions st.below) st.cpu apc_class
end_asks st None l = ask_if (some_came_to_0 st.regions st.below) st.cpu apc_class

-- what an event of a processor that stands so asks for, by the states before it
abbrev pub what_asks : Script → Stand → What → Lanes → List Ask
what_asks s st (what.Call f c y) l = command_asks s st c y l
what_asks s st (what.Fire d Yes) l = queue_asks s d st.cpu l
what_asks s st (what.Expire (keys.Delay t) from) l = ask_if (ends_by_expiry from (facts_at l t))
    (cpu_of s t) dispatch_class
what_asks s st (what.Switch t status) l = ask_if (has_kernel (facts_at l t).apcs) st.cpu apc_class
what_asks s st (what.Normal f) l = ask_if (some_came_to_0 st.regions st.below) st.cpu apc_class
what_asks s st (what.End f) l = end_asks st st.body l
what_asks s st (what.Look r) l = []
what_asks s st (what.Begin b from) l = []
what_asks s st (what.Expire (keys.Timer t) from) l = []
what_asks s st (what.Fire d y) l = []
what_asks s st (what.Clean class) l = []
what_asks s st (what.Rewait f y) l = []
what_asks s st (what.Flush a from) l = []
what_asks s st (what.Gone t) l = []
what_asks s st (what.Free f k) l = release_asks k l
what_asks s st what.Rest l = []

abbrev pub is_ask : CpuNo → ℕ → Ask → Bool
is_ask p c a = (a.cpu.0 == p.0) && (a.class == c)

-- the event asks for the class on the processor
abbrev pub asks_in : Script → Stand → What → Lanes → CpuNo → ℕ → Bool
asks_in s st w l p c = list_any (is_ask p c) (what_asks s st w l)

abbrev pub asks : Script → CpuNo → ℕ → Event → List Event → Bool
asks s p c e past = asks_in s (stand_at s e.cpu past) e.what (lanes_at s past) p c

-- ---- values asked, seen and served

-- one more than the number of the event, where the test holds
abbrev pub raised : Bool → ℕ → ℕ → ℕ
raised true n old = n + 1
raised false n old = old

-- the greatest value asked for the class on the processor
abbrev pub asked : Script → CpuNo → ℕ → List Event → ℕ
asked s p c [] = 0
asked s p c (e ∷ past) = raised (asks s p c e past) (length past) (asked s p c past)

-- the greatest value asked for it by the events that touch the lane
abbrev pub told_by : Script → Lane → CpuNo → ℕ → List Event → ℕ
told_by s x p c [] = 0
told_by s x p c (e ∷ past) =
    raised (touches s x e past && asks s p c e past) (length past) (told_by s x p c past)

-- the greatest one of several lanes
abbrev pub told_by_all : Script → List Lane → CpuNo → ℕ → List Event → ℕ
told_by_all s [] p c past = 0
told_by_all s (x ∷ xs) p c past = max (told_by s x p c past) (told_by_all s xs p c past)

-- what the lanes that an event touches tell of the requests before it
abbrev pub told : Script → CpuNo → ℕ → Event → List Event → ℕ
told s p c e past = told_by_all s (lanes_of s e past) p c past

abbrev pub looked : What → ℕ → ℕ
looked w c = in_look (λ r. value_at r.value c) 0 w

-- what is noticed after the event of this number, which asks or doesn't, and touches lanes that tell this value
abbrev pub seen_after : ℕ → What → ℕ → Bool → ℕ → ℕ → ℕ
seen_after n w c asked told old = raised asked n (max (max old (looked w c)) told)

-- the greatest value that the processor noticed of the class
abbrev pub seen : Script → CpuNo → ℕ → List Event → ℕ
seen s p c [] = 0
seen s p c (e ∷ past) =
    if is_of e p then seen_after (length past) e.what c (asks s p c e past) (told s p c e past) (seen s p c past)
    else seen s p c past

abbrev pub begins_class : ℕ → Begun → Bool
begins_class c (begun.Int level) = level == c
begins_class c (begun.Dpc d) = false
begins_class c (begun.Threaded d) = false
begins_class c (begun.Apc a) = false

-- the event serves the class
abbrev pub serves : ℕ → What → Bool
serves c w =
    in_clean (λ k. k == c)
    (in_begin (λ b from. begins_class c b) (in_call (λ f command y. (c == lock_class) && is_spin y) false w) w) w

-- what is served after an event, by what is seen after it
abbrev pub served_after : What → ℕ → ℕ → ℕ → ℕ
served_after w c seen old = if serves c w then seen else old

-- what was seen just after the last event that served the class
abbrev pub served : Script → CpuNo → ℕ → List Event → ℕ
served s p c [] = 0
served s p c (e ∷ past) =
    if is_of e p then served_after e.what c (seen s p c (e ∷ past)) (served s p c past) else served s p c past
