-- What a job gives and what an event asks for, but for numbers, depends on no number but those of the timers.
use Rattle.std.proofs.Common.{ap, arith, sym, ◌∙◌}
use Rattle.std.specs.Option.{option_or}
use Rattle.std.specs.Prelude.{Bool, List, None, Option, Some, [], false, find, map, not, option_map, refl, reverse, suc, true, unwrap_or, ℕ, ◌++◌, ◌+◌, ◌==◌}
use Rattle.std.specs.Prelude.{◌∷◌, ◌≡◌}
use Rattle.nt_event.specs.declared.commands.ApcKind.TheVariants.{Normal as NormalApc}
use Rattle.nt_event.specs.declared.commands.Command.{Command}
use Rattle.nt_event.specs.declared.commands.Command.TheVariants.{Alert, Clock, Delay, InsertApc, Interrupt, LeaveCrit, LeaveGuard, Queue, Release, RemoveApc}
use Rattle.nt_event.specs.declared.commands.Command.TheVariants.{StartWait, TestAlert, ToUser, Unlock, Unqueue}
use Rattle.nt_event.specs.declared.commands.Mode.{Mode}
use Rattle.nt_event.specs.declared.commands.Regions.{Regions}
use Rattle.nt_event.specs.declared.commands.Reply.{Reply}
use Rattle.nt_event.specs.declared.commands.Reply.TheVariants.{Done, No, Yes}
use Rattle.nt_event.specs.declared.commands.TimerKey.TheVariants.{Delay as DelayKey}
use Rattle.nt_event.specs.declared.events.What.{What}
use Rattle.nt_event.specs.declared.events.What.TheVariants.{Call, Clean, End, Expire, Fire, Flush, Gone, Rest, Rewait, Switch}
use Rattle.nt_event.specs.declared.frames.Again.{Again}
use Rattle.nt_event.specs.declared.frames.Body.{Body}
use Rattle.nt_event.specs.declared.frames.Body.TheVariants.{Apc as OnApc, Base as OnBase}
use Rattle.nt_event.specs.declared.inserts.Insert.{Insert}
use Rattle.nt_event.specs.declared.inserts.Part.{Part}
use Rattle.nt_event.specs.declared.inserts.Part.TheVariants.{Ordinary as OrdinaryPart, Threaded as ThreadedPart}
use Rattle.nt_event.specs.declared.inserts.Pick.{Pick}
use Rattle.nt_event.specs.declared.jobs.Job.{Job}
use Rattle.nt_event.specs.declared.jobs.Job.TheVariants.{Apcs as ApcsJob, Call as CallJob, Drain as DrainJob, Fire as FireJob, Free as FreeJob, Idle as IdleJob}
use Rattle.nt_event.specs.declared.jobs.Job.TheVariants.{Leave as LeaveJob, Pick as PickJob, Rewait as RewaitJob, Rundown as RundownJob, Switch as SwitchJob}
use Rattle.nt_event.specs.declared.jobs.Job.TheVariants.{Threaded as ThreadedJob, ToUser as ToUserJob, UserEnd as UserEndJob}
use Rattle.nt_event.specs.declared.jobs.Stand.{Stand}
use Rattle.nt_event.specs.declared.numbers.CpuNo.{CpuNo}
use Rattle.nt_event.specs.declared.numbers.DpcNo.{DpcNo}
use Rattle.nt_event.specs.declared.numbers.ThreadNo.{ThreadNo}
use Rattle.nt_event.specs.declared.scripts.Script.{Script}
use Rattle.nt_event.specs.declared.scripts.ThreadDecl.{ThreadDecl}
use Rattle.nt_event.specs.declared.threads.Doing.{Doing}
use Rattle.nt_event.specs.declared.threads.Doing.TheVariants.{Blocked as IsBlocked}
use Rattle.nt_event.specs.Apcs.{deliverable, first_user}
use Rattle.nt_event.specs.Commands.{is_reached, reply}
use Rattle.nt_event.specs.Jobs.{apcs_event, begin_apc, begin_dpc, begin_first, drain_event, expire_key, idle_event, job_event, next_ready, ready, ready_from}
use Rattle.nt_event.specs.Jobs.{rewait_reply, rundown_event, switch_event, threaded_event, touser_event, user_due}
use Rattle.nt_event.specs.Lanes.{Lanes, facts_at, facts_of, object_at, queue_at}
use Rattle.nt_event.specs.Lists.{is_null, when}
use Rattle.nt_event.specs.Numbers.{thread}
use Rattle.nt_event.specs.Objects.{ObjectState, is_queued, queue_for}
use Rattle.nt_event.specs.Queues.{QueueState, depth_of, first_dpc, is_high_in, is_in, start_queue}
use Rattle.nt_event.specs.Replies.{yes_if}
use Rattle.nt_event.specs.Requests.{ask_if, dpc_asks, end_asks, queue_asks, what_asks}
use Rattle.nt_event.specs.Routines.{cpu_of, is_kernel_kind, kind_of, owner_of, part_of}
use Rattle.nt_event.specs.Threads.{ThreadFacts, ended_status, ends_by_expiry, is_ready, ready_doing, start_facts, status_of, waits_as}
use Rattle.nt_event.specs.Timers.{first_due}
use Rattle.nt_event.specs.Waits.{new_pick, wait_reply}
use Rattle.nt_event.proofs.Written.{read_map}
use Rattle.nt_alike.specs.Bare.{bare_doing, bare_facts, bare_insert, bare_but_timers, bare_object, bare_pick, bare_queue, bare_stand, bare_standing, bare_what}
use Rattle.nt_alike.specs.Parts.{IsTimely}
use Rattle.nt_alike.proofs.Facts.{alerted_bare, by_alert_bare, by_apc_bare, by_release_bare, deliverable_bare, gone_bare, has_kernel_bare, has_user_bare}
use Rattle.nt_alike.proofs.Facts.{is_deliverable_bare, is_inserted_bare, is_some_map, user_bare, zero_expiry}
use Rattle.nt_alike.proofs.Mapped.{count_map, find_map, find_reverse_map, map_or}
use Rattle.nt_alike.proofs.Parts.{object_read}

-- a thread's facts read from lanes without numbers are its facts without numbers
pub facts_read : (l : Lanes) (t : ThreadNo) → facts_at (bare_but_timers l) t ≡ bare_facts (facts_at l t)
facts_read l t = read_map bare_facts l.threads t.0 start_facts

-- facts of an optional thread in states without numbers but the timers' are its facts without numbers
facts_of_read : (l : Lanes) (t : Option ThreadNo) → facts_of (bare_but_timers l) t ≡ bare_facts (facts_of l t)
facts_of_read l None = refl
facts_of_read l (Some t) = facts_read l t

-- a processor's DPC queue read from lanes without numbers is its queue without numbers
pub queue_read : (l : Lanes) (p : CpuNo) → queue_at (bare_but_timers l) p ≡ bare_queue (queue_at l p)
queue_read l p = read_map bare_queue l.queues p.0 start_queue

-- whether a thread is ready does not depend on the numbers in what it does
ready_bare : (d : Doing) → ready_doing (bare_doing d) ≡ ready_doing d
ready_bare (IsBlocked w) = refl
ready_bare d = refl

-- the status that a thread's doing gives does not depend on its numbers
status_bare : (d : Doing) → status_of (bare_doing d) ≡ status_of d
status_bare (IsBlocked w) = refl
status_bare d = refl

-- ---- replies

-- a wait's reply does not depend on the numbers in the thread's facts
wait_bare : (x : ThreadFacts) (r : Regions) (level : ℕ) (m : Mode) (alertable : Bool) (reached : Option Bool) →
    wait_reply (bare_facts x) r level m alertable reached ≡ wait_reply x r level m alertable reached
wait_bare x r level m alertable None =
    rw (is_deliverable_bare x.apcs r level, alerted_bare m x, has_user_bare x.apcs) refl
wait_bare x r level m alertable (Some reached) =
    rw (is_deliverable_bare x.apcs r level, alerted_bare m x, has_user_bare x.apcs) refl

-- whether a DPC object is queued does not depend on the numbers in the lanes
pub queued_bare : (l : Lanes) (d : DpcNo) → is_queued (object_at (bare_but_timers l) d) ≡ is_queued (object_at l d)
queued_bare l d = ap is_queued (object_read l.objects d) ∙ is_some_map bare_standing (object_at l d).standing

-- a command's reply does not depend on numbers other than those of timers
reply_bare : (s : Script) (st : Stand) (l : Lanes) (c : Command) → reply s (bare_stand st) (bare_but_timers l) c ≡ reply s st l c
reply_bare s st l (Queue d) = ap (λ (b : Bool). yes_if (not b)) (queued_bare l d)
reply_bare s st l (Unqueue d) = ap yes_if (queued_bare l d)
reply_bare s st l (InsertApc a) = rw (facts_read l (owner_of s a), is_inserted_bare a (facts_at l (owner_of s a)).apcs) refl
reply_bare s st l (RemoveApc a) = rw (facts_read l (owner_of s a), is_inserted_bare a (facts_at l (owner_of s a)).apcs) refl
reply_bare s st l (StartWait m a) = rw (facts_of_read l st.thread) (wait_bare (facts_of l st.thread) st.regions st.level m a None)
reply_bare s st l (Delay m a units) =
    rw (facts_of_read l st.thread) (wait_bare (facts_of l st.thread) st.regions st.level m a (Some (is_reached l.timers.now (l.timers.now + units))))
reply_bare s st l (Release t) = rw (facts_read l t) (ap yes_if (by_release_bare (facts_at l t)))
reply_bare s st l (Alert t m) = rw (facts_read l t, gone_bare (facts_at l t).doing, alerted_bare m (facts_at l t)) refl
reply_bare s st l (TestAlert m) = rw (facts_of_read l st.thread) (ap yes_if (alerted_bare m (facts_of l st.thread)))
reply_bare s st l c = refl

-- ---- the first of a queue

-- the first insert of a part in a queue without numbers is that of the queue, without its number
first_bare : (part : Part) (xs : List Insert) → first_dpc part (map bare_insert xs) ≡ option_map bare_insert (first_dpc part xs)
first_bare part xs =
    rw (find_map bare_insert (is_high_in part) (is_high_in part) (λ x. refl) xs, find_reverse_map bare_insert (is_in part) (is_in part) (λ x. refl) xs)
    (map_or bare_insert (find (is_high_in part) xs) (find (is_in part) (reverse xs)))

-- the begin of an optional insert's DPC is, but for its number, the same with or without the insert's number
begun_bare : (part : Part) (o : Option Insert) →
    option_map bare_what (option_map (begin_dpc part) (option_map bare_insert o)) ≡ option_map bare_what (option_map (begin_dpc part) o)
begun_bare part None = refl
begun_bare OrdinaryPart (Some x) = refl
begun_bare ThreadedPart (Some x) = refl

-- the begin of a queue's first DPC is, but for its number, the same in states without numbers
begin_bare : (part : Part) (l : Lanes) (p : CpuNo) →
    option_map bare_what (begin_first part (queue_at (bare_but_timers l) p)) ≡ option_map bare_what (begin_first part (queue_at l p))
begin_bare part l p = rw (queue_read l p, first_bare part (queue_at l p).pending) (begun_bare part (first_dpc part (queue_at l p).pending))

-- the depth of a queue does not depend on its inserts' numbers
depth_bare : (xs : List Insert) → depth_of (map bare_insert xs) ≡ depth_of xs
depth_bare xs = count_map bare_insert (is_in OrdinaryPart) (is_in OrdinaryPart) (λ x. refl) xs

-- ---- ready threads

-- whether a thread of a list is ready to run on a processor does not depend on numbers
ready_from_bare : (p : CpuNo) (n : ℕ) (xs : List ThreadDecl) (l : Lanes) → ready_from p n xs (bare_but_timers l) ≡ ready_from p n xs l
ready_from_bare p n [] l = refl
ready_from_bare p n (x ∷ xs) l =
    let r : is_ready (facts_at (bare_but_timers l) (thread n)) ≡ is_ready (facts_at l (thread n)) =
    ap is_ready (facts_read l (thread n)) ∙ ready_bare (facts_at l (thread n)).doing in
    rw (r, ready_from_bare p (suc n) xs l) refl

-- ---- jobs

-- leaving out numbers of an optional event, or of the one that stands in for none, may be done after
unwrap_bare : (o : Option What) (w : What) → bare_what (unwrap_or o w) ≡ unwrap_or (option_map bare_what o) (bare_what w)
unwrap_bare None w = refl
unwrap_bare (Some x) w = refl

-- the first of two optional events, without numbers, is the first of the two without numbers
or_bare : (a b : Option What) → option_map bare_what (option_or a b) ≡ option_or (option_map bare_what a) (option_map bare_what b)
or_bare a b = sym (map_or bare_what a b)

-- the event of a drain job does not depend on numbers, but for the event's own
drain_bare : (st : Stand) (l : Lanes) → bare_what (drain_event (bare_stand st) (bare_but_timers l)) ≡ bare_what (drain_event st l)
drain_bare st l =
    let k : Option What = option_map expire_key (when st.sweep (first_due l.timers)) in
    unwrap_bare (option_or k (begin_first OrdinaryPart (queue_at (bare_but_timers l) st.cpu))) (Clean 2)
    ∙ ap (λ (o : Option What). unwrap_or o (Clean 2)) (or_bare k (begin_first OrdinaryPart (queue_at (bare_but_timers l) st.cpu))
    ∙ ap (λ (o : Option What). option_or (option_map bare_what k) o) (begin_bare OrdinaryPart l st.cpu)
    ∙ sym (or_bare k (begin_first OrdinaryPart (queue_at l st.cpu))))
    ∙ sym (unwrap_bare (option_or k (begin_first OrdinaryPart (queue_at l st.cpu))) (Clean 2))

-- the begin of an optional picked APC is, but for its number, the same with or without the pick's
picked_bare : (o : Option Pick) → option_map bare_what (option_map begin_apc (option_map bare_pick o)) ≡ option_map bare_what (option_map begin_apc o)
picked_bare None = refl
picked_bare (Some x) = refl

-- the event of an APC job does not depend on numbers, but for the event's own
apcs_job_bare : (st : Stand) (l : Lanes) → bare_what (apcs_event (bare_stand st) (bare_but_timers l)) ≡ bare_what (apcs_event st l)
apcs_job_bare st l =
    let o = deliverable (facts_of l st.thread).apcs st.regions st.level in
    rw (facts_of_read l st.thread, deliverable_bare (facts_of l st.thread).apcs st.regions st.level)
    (unwrap_bare (option_map begin_apc (option_map bare_pick o)) (Clean 1)
    ∙ ap (λ (x : Option What). unwrap_or x (Clean 1)) (picked_bare o)
    ∙ sym (unwrap_bare (option_map begin_apc o) (Clean 1)))

-- the event of a threaded DPC job does not depend on numbers, but for the event's own
threaded_bare : (st : Stand) (l : Lanes) → bare_what (threaded_event (bare_stand st) (bare_but_timers l)) ≡ bare_what (threaded_event st l)
threaded_bare st l =
    unwrap_bare (begin_first ThreadedPart (queue_at (bare_but_timers l) st.cpu)) (Clean 0)
    ∙ ap (λ (x : Option What). unwrap_or x (Clean 0)) (begin_bare ThreadedPart l st.cpu)
    ∙ sym (unwrap_bare (begin_first ThreadedPart (queue_at l st.cpu)) (Clean 0))

-- the event of an idle job does not depend on numbers, but for the event's own
idle_job_bare : (s : Script) (st : Stand) (l : Lanes) →
    option_map bare_what (idle_event s (bare_stand st) (bare_but_timers l)) ≡ option_map bare_what (idle_event s st l)
idle_job_bare s st l =
    let r : Option What = when (is_null (ready s st.cpu l)) (Some Rest) in
    rw (ready_from_bare st.cpu 0 s.threads l)
    (or_bare (begin_first OrdinaryPart (queue_at (bare_but_timers l) st.cpu)) r
    ∙ ap (λ (o : Option What). option_or o (option_map bare_what r)) (begin_bare OrdinaryPart l st.cpu)
    ∙ sym (or_bare (begin_first OrdinaryPart (queue_at l st.cpu)) r))

-- the switch to a given thread does not depend on numbers other than those of timers
switch_bare : (l : Lanes) (t : ThreadNo) → switch_event t (bare_but_timers l) ≡ switch_event t l
switch_bare l t = ap (Switch t) (ap ended_status (facts_read l t) ∙ status_bare (facts_at l t).doing)

-- the switch to an optional thread does not depend on numbers other than those of timers
switched_bare : (l : Lanes) (o : Option ThreadNo) →
    option_map (λ (t : ThreadNo). switch_event t (bare_but_timers l)) o ≡ option_map (λ (t : ThreadNo). switch_event t l) o
switched_bare l None = refl
switched_bare l (Some t) = ap Some (switch_bare l t)

-- the next ready thread after the last one does not depend on numbers other than those of timers
next_bare : (s : Script) (p : CpuNo) (last : Option ThreadNo) (l : Lanes) → next_ready s p last (bare_but_timers l) ≡ next_ready s p last l
next_bare s p last l = rw (ready_from_bare p 0 s.threads l) refl

-- the event of a pick job does not depend on numbers, but for the event's own
pick_bare : (s : Script) (st : Stand) (l : Lanes) (last : Option ThreadNo) →
    option_map bare_what (job_event s (bare_stand st) (bare_but_timers l) (PickJob last)) ≡ option_map bare_what (job_event s st l (PickJob last))
pick_bare s st l last =
    let n = option_map (λ (t : ThreadNo). switch_event t l) (next_ready s st.cpu last l) in
    let m = option_map (λ (t : ThreadNo). switch_event t (bare_but_timers l)) (next_ready s st.cpu last (bare_but_timers l)) in
    let same : m ≡ n =
    ap (option_map (λ (t : ThreadNo). switch_event t (bare_but_timers l))) (next_bare s st.cpu last l) ∙ switched_bare l (next_ready s st.cpu last l) in
    or_bare m (idle_event s (bare_stand st) (bare_but_timers l))
    ∙ ap (λ (o : Option What). option_or (option_map bare_what o) (option_map bare_what (idle_event s (bare_stand st) (bare_but_timers l)))) same
    ∙ ap (λ (o : Option What). option_or (option_map bare_what n) o) (idle_job_bare s st l)
    ∙ sym (or_bare n (idle_event s st l))

-- the event of a job of switching to a thread is the same in states without numbers
take_bare : (s : Script) (st : Stand) (l : Lanes) (t : ThreadNo) →
    job_event s (bare_stand st) (bare_but_timers l) (SwitchJob t) ≡ job_event s st l (SwitchJob t)
take_bare s st l t =
    let r : is_ready (facts_at (bare_but_timers l) t) ≡ is_ready (facts_at l t) = ap is_ready (facts_read l t) ∙ ready_bare (facts_at l t).doing in
    rw (r, switch_bare l t) refl

-- taking up an optional wait again does not depend on numbers, but for the name of the frame
rewait_bare : (s : Script) (st : Stand) (l : Lanes) (o : Option Again) →
    option_map bare_what (option_map (λ (w : Again). Rewait 0 (rewait_reply (bare_stand st) (bare_but_timers l) w)) o)
    ≡ option_map bare_what (option_map (λ (w : Again). Rewait st.frame (rewait_reply st l w)) o)
rewait_bare s st l None = refl
rewait_bare s st l (Some w) =
    rw (facts_of_read l st.thread) (ap (λ (y : Reply). Some (Rewait 0 y))
    (wait_bare (facts_of l st.thread) st.regions st.level w.mode w.alertable (option_map (is_reached l.timers.now) w.due)))

-- the user APC that is due in facts without numbers is the one that is due, without its number
user_due_bare : (x : ThreadFacts) → user_due (bare_facts x) ≡ option_map bare_pick (user_due x)
user_due_bare x = rw (user_bare x.apcs) (go x.user_pending (first_user x.apcs))
  where
    go : (b : Bool) (o : Option Pick) → when b (option_map bare_pick o) ≡ option_map bare_pick (when b o)
    go true o = refl
    go false o = refl

-- the event of a job of returning to user mode does not depend on numbers, but for its own
touser_bare : (st : Stand) (l : Lanes) → bare_what (touser_event (bare_stand st) (bare_but_timers l)) ≡ bare_what (touser_event st l)
touser_bare st l =
    let o = user_due (facts_of l st.thread) in
    rw (facts_of_read l st.thread, user_due_bare (facts_of l st.thread))
    (unwrap_bare (option_map begin_apc (option_map bare_pick o)) (Call 0 ToUser Done)
    ∙ ap (λ (x : Option What). unwrap_or x (Call 0 ToUser Done)) (picked_bare o)
    ∙ sym (unwrap_bare (option_map begin_apc o) (Call st.frame ToUser Done)))

-- the flush of an optional picked APC is, but for its number, the same with or without the pick's
flushed_bare : (o : Option Pick) →
    option_map bare_what (option_map (λ (x : Pick). Flush x.apc x.number) (option_map bare_pick o))
    ≡ option_map bare_what (option_map (λ (x : Pick). Flush x.apc x.number) o)
flushed_bare None = refl
flushed_bare (Some x) = refl

-- the rundown event of an optional thread does not depend on numbers, but for the event's own
rundown_bare : (l : Lanes) (o : Option ThreadNo) →
    option_map bare_what (option_map (rundown_event (bare_but_timers l)) o) ≡ option_map bare_what (option_map (rundown_event l) o)
rundown_bare l None = refl
rundown_bare l (Some t) =
    let o = first_user (facts_at l t).apcs in
    let f : Pick → What = λ x. Flush x.apc x.number in
    rw (facts_read l t, user_bare (facts_at l t).apcs) (ap Some
    (unwrap_bare (option_map f (option_map bare_pick o)) (Gone t)
    ∙ ap (λ (x : Option What). unwrap_or x (Gone t)) (flushed_bare o)
    ∙ sym (unwrap_bare (option_map f o) (Gone t))))

-- the event that a job gives, but for numbers, depends on no numbers but those of the timers
pub job_bare : (s : Script) (st : Stand) (l : Lanes) (j : Job) →
    option_map bare_what (job_event s st l j) ≡ option_map bare_what (job_event s (bare_stand st) (bare_but_timers l) j)
job_bare s st l (CallJob c) = ap (λ (y : Reply). Some (Call 0 c y)) (sym (reply_bare s st l c))
job_bare s st l (FireJob d) = ap (λ (y : Reply). Some (Fire d y)) (sym (reply_bare s st l (Queue d)))
job_bare s st l (FreeJob k) = refl
job_bare s st l DrainJob = ap Some (sym (drain_bare st l))
job_bare s st l ApcsJob = ap Some (sym (apcs_job_bare st l))
job_bare s st l ThreadedJob = ap Some (sym (threaded_bare st l))
job_bare s st l IdleJob = sym (idle_job_bare s st l)
job_bare s st l (PickJob last) = sym (pick_bare s st l last)
job_bare s st l (SwitchJob t) = ap (option_map bare_what) (sym (take_bare s st l t))
job_bare s st l RewaitJob = sym (rewait_bare s st l st.again)
job_bare s st l ToUserJob = ap Some (sym (touser_bare st l))
job_bare s st l UserEndJob = refl
job_bare s st l LeaveJob = refl
job_bare s st l RundownJob = sym (rundown_bare l st.thread)

-- ---- asks

-- what an insert asks of the processors by a queue and an object does not depend on their numbers
dpc_asks_bare : (s : Script) (part : Part) (o : ObjectState) (by q : CpuNo) (x : QueueState) →
    dpc_asks s part (bare_object o) by q (bare_queue x) ≡ dpc_asks s part o by q x
dpc_asks_bare s ThreadedPart o by q x = refl
dpc_asks_bare s OrdinaryPart o by q x = rw (depth_bare x.pending) refl

-- what an insert of a DPC asks for does not depend on the numbers in the lane states
queue_asks_bare : (s : Script) (d : DpcNo) (by : CpuNo) (l : Lanes) → queue_asks s d by (bare_but_timers l) ≡ queue_asks s d by l
queue_asks_bare s d by l =
    let u : CpuNo = queue_for (object_at l d).target by in
    rw (object_read l.objects d, queue_read l u) (dpc_asks_bare s (part_of s d) (object_at l d) by u (queue_at l u))

-- what the end of a body asks for does not depend on numbers other than those of timers
end_asks_bare : (st : Stand) (b : Option Body) (l : Lanes) → end_asks (bare_stand st) b (bare_but_timers l) ≡ end_asks st b l
end_asks_bare st (Some (OnApc a NormalApc)) l = refl
end_asks_bare st (Some (OnBase t)) l = rw (facts_of_read l st.thread, has_kernel_bare (facts_of l st.thread).apcs) refl
end_asks_bare st b l = refl

-- a timely expiry of a thread's delay ends its wait just if the thread waits in a delay
timely_here : (u : ThreadNo) (from : ℕ) (x : ThreadFacts) → IsTimely u (Expire (DelayKey u) from) x → ends_by_expiry from x ≡ waits_as (λ w. w.delay) x
timely_here u from x h = h (same u.0)
  where
    same : (n : ℕ) → (n == n) ≡ true
    same n = grind arith

-- what a timely event asks for depends on no numbers but those of the timers
pub asks_bare : (s : Script) (st : Stand) (w : What) (l : Lanes) → ((t : ThreadNo) → IsTimely t w (facts_at l t)) →
    what_asks s st w l ≡ what_asks s (bare_stand st) (bare_what w) (bare_but_timers l)
asks_bare s st (Call f (Queue d) Yes) l h = sym (queue_asks_bare s d st.cpu l)
asks_bare s st (Call f (InsertApc a) Yes) l h =
    rw (facts_read l (owner_of s a))
    (ap (λ (b : Bool). ask_if (is_kernel_kind (kind_of s a)) (cpu_of s (owner_of s a)) 1 ++ ask_if b (cpu_of s (owner_of s a)) 2)
    (sym (by_apc_bare (new_pick s a 0) (facts_at l (owner_of s a)))))
asks_bare s st (Call f (Alert t m) No) l h = rw (facts_read l t, gone_bare (facts_at l t).doing, by_alert_bare m (facts_at l t)) refl
asks_bare s st (Call f LeaveCrit Done) l h = refl
asks_bare s st (Call f LeaveGuard Done) l h = refl
asks_bare s st (Call f (Release t) Yes) l h = refl
asks_bare s st (Call f (Interrupt p level) Done) l h = refl
asks_bare s st (Call f (Clock units) Done) l h = refl
asks_bare s st (Call f (Unlock k) Done) l h = refl
asks_bare s st (Call f c y) l h = refl
asks_bare s st (Fire d Yes) l h = sym (queue_asks_bare s d st.cpu l)
asks_bare s st (Expire (DelayKey t) from) l h =
    rw (facts_read l t, timely_here t from (facts_at l t) (h t), zero_expiry (facts_at l t).doing) refl
asks_bare s st (Switch t status) l h = rw (facts_read l t, has_kernel_bare (facts_at l t).apcs) refl
asks_bare s st (End f) l h = sym (end_asks_bare st st.body l)
asks_bare s st w l h = refl
