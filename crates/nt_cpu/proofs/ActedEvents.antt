-- The event of a job that is due is one that the frames allow.
use Rattle.std.proofs.Common.{arith, sym, ◌∙◌}
use Rattle.std.proofs.lemmas.Bool.Decides.{nat_tests}
use Rattle.std.proofs.lemmas.List.{get_or_past, reverse-append}
use Rattle.std.proofs.lemmas.List.Elements.{All-head, All-nil, All-push, All-tail}
use Rattle.std.specs.Option.{option_or}
use Rattle.std.specs.Prelude.{All, Bool, cond, List, None, Option, Some, [], false, find, if◌then◌else◌, is_none, is_some, length, nat_lt, not, option_map}
use Rattle.std.specs.Prelude.{refl, reverse, true, ℕ, ◌&&◌, ◌+◌, ◌<◌, ◌==◌, ◌∷◌, ◌≡◌, ◌≤◌}
use Rattle.nt_event.specs.declared.commands.ApcKind.{ApcKind}
use Rattle.nt_event.specs.declared.commands.ApcKind.TheVariants.{Normal as NormalApc, Special as SpecialApc, User as UserApc}
use Rattle.nt_event.specs.declared.commands.Command.{Command}
use Rattle.nt_event.specs.declared.commands.Command.TheVariants.{Acquire, Alert, CancelTimer, Delay, InsertApc, Queue, Release, RemoveApc, SetTimer, StartWait}
use Rattle.nt_event.specs.declared.commands.Command.TheVariants.{TestAlert, ToUser, Unqueue}
use Rattle.nt_event.specs.declared.commands.Mode.{Mode}
use Rattle.nt_event.specs.declared.commands.Regions.{Regions}
use Rattle.nt_event.specs.declared.commands.Reply.TheVariants.{Blocked, Done, Spin, Status}
use Rattle.nt_event.specs.declared.events.What.{What}
use Rattle.nt_event.specs.declared.events.What.TheVariants.{Call, Clean, End, Flush, Gone, Look, Rest, Rewait}
use Rattle.nt_event.specs.declared.frames.Body.TheVariants.{Dpc as OnDpc, Threaded as OnThreaded}
use Rattle.nt_event.specs.Frame.{Frame}
use Rattle.nt_event.specs.declared.inserts.Part.TheVariants.{Ordinary as OrdinaryPart, Threaded as ThreadedPart}
use Rattle.nt_event.specs.declared.inserts.Pick.{Pick}
use Rattle.nt_event.specs.declared.jobs.Job.{Job}
use Rattle.nt_event.specs.declared.jobs.Job.TheVariants.{Apcs as ApcsJob, Call as CallJob, Drain as DrainJob, Fire as FireJob, Free as FreeJob, Idle as IdleJob}
use Rattle.nt_event.specs.declared.jobs.Job.TheVariants.{Leave as LeaveJob, Pick as PickJob, Rewait as RewaitJob, Rundown as RundownJob, Switch as SwitchJob}
use Rattle.nt_event.specs.declared.jobs.Job.TheVariants.{Threaded as ThreadedJob, ToUser as ToUserJob, UserEnd as UserEndJob}
use Rattle.nt_event.specs.declared.jobs.Stand.{Stand}
use Rattle.nt_event.specs.declared.numbers.DpcNo.{DpcNo}
use Rattle.nt_event.specs.declared.numbers.ThreadNo.{ThreadNo}
use Rattle.nt_event.specs.declared.scripts.Script.{Script}
use Rattle.nt_event.specs.Apcs.{ApcQueues, deliverable, first_kernel, first_of_kind, first_user, has_user, is_inserted, is_of_kind, lets_through, same_kind}
use Rattle.nt_event.specs.Apcs.{takes}
use Rattle.nt_event.specs.Commands.{is_reached, reply}
use Rattle.nt_event.specs.Frames.{Frames, innermost}
use Rattle.nt_event.specs.Jobs.{apcs_event, begin_apc, begin_dpc, begin_first, drain_event, expire_key, idle_event, job_event, may_apcs, may_drain, may_switch}
use Rattle.nt_event.specs.Jobs.{may_take, must, next_ready, ready, rewait_reply, rundown_event, switch_event, user_due}
use Rattle.nt_event.specs.Lanes.{Lanes, facts_at, facts_of, lock_at, object_at, queue_at}
use Rattle.nt_event.specs.Objects.{is_queued}
use Rattle.nt_event.specs.Own.{Own, stand_in}
use Rattle.nt_event.specs.Queues.{QueueState, first_dpc}
use Rattle.nt_event.specs.Routines.{cpu_of, is_kernel_kind, kind_of, owner_of}
use Rattle.nt_event.specs.Script.{has_thread}
use Rattle.nt_event.specs.Threads.{ThreadFacts, ends_by_release, is_alerted, is_gone, is_ready, start_facts}
use Rattle.nt_event.specs.Timers.{first_due, is_set_timer}
use Rattle.nt_event.specs.Waits.{is_satisfied, wait_reply}
use Rattle.nt_event.specs.Replies.{alerted, is_user, kernel_apc, satisfied, user_apc, yes_if}
use Rattle.nt_event.specs.Lists.{is_null, when}
use Rattle.nt_event.proofs.Options.{Holds, both, holds_else, holds_map, holds_more, holds_or, holds_then, holds_at, holds_when, when_gives}
use Rattle.nt_event.proofs.Ready.{next_ready_taken}
use Rattle.nt_event.specs.Acts.{KindsFit}
use Rattle.nt_frame.specs.Rules.{is_leaving, may_begin, refusal_in}
use Rattle.nt_frame.proofs.Below.{awaiting_is_on_thread}
use Rattle.nt_frame.proofs.Tasks.{apc_may_begin, dpc_may_begin, idle_dpc_may_begin, leaving_here, threaded_may_begin, user_may_begin}
use Rattle.nt_cpu.specs.Fits.{Allow, IsAt, goes_on, is_try_reply, is_wait_reply, may_reply}
use Rattle.nt_cpu.specs.Sound.{IsSound}
use Rattle.nt_cpu.specs.States.{CpuState}
use Rattle.nt_cpu.specs.GoodTasks.{Awaits, GoodJob, Runs}
use Rattle.nt_cpu.proofs.DueTasks.{accepted_call, own_lock}

-- a job's event is no Look
abbrev pub is_look : What → Bool
is_look (Look r) = true
is_look _ = false

pub record GoodEvent (c : CpuState) (w : What) : Type 0 where
  pub allow : Allow c.script w c.own.frames
  pub look : is_look w ≡ false

-- ---- replies

-- a wait replies a status or blocks
wait_chain : (a b c d e f : Bool) → is_wait_reply (if a then Status kernel_apc else if b then Status satisfied else if c then Status alerted else if d
    then Status user_apc else if e then Status alerted else if f then Status user_apc else Blocked) ≡ true
wait_chain true b c d e f = refl
wait_chain false true c d e f = refl
wait_chain false false true d e f = refl
wait_chain false false false true e f = refl
wait_chain false false false false true f = refl
wait_chain false false false false false true = refl
wait_chain false false false false false false = refl

-- the reply that a wait gets is one that a wait may get
wait_replies : (x : ThreadFacts) (r : Regions) (level : ℕ) (m : Mode) (a : Bool) (reached : Option Bool) → is_wait_reply (wait_reply x r level m a reached)
    ≡ true
wait_replies x r level m a reached =
    wait_chain (is_some (deliverable x.apcs r level)) (is_satisfied x reached) (a && is_alerted m x) (a && (is_user m && has_user x.apcs))
    (a && x.alerted_kernel) (not a && (is_user m && x.user_pending))

-- a yes-or-no reply lets the frame go on
yes_unblocked : (b : Bool) → goes_on (yes_if b) ≡ true
yes_unblocked true = refl
yes_unblocked false = refl

-- the reply that a call gets in the states is one that its command may get
replies : (s : Script) (st : Stand) (l : Lanes) (k : Command) → may_reply k (reply s st l k) ≡ true
replies s st l (StartWait m a) = wait_replies (facts_of l st.thread) st.regions st.level m a None
replies s st l (Delay m a u) =
    wait_replies (facts_of l st.thread) st.regions st.level m a (Some (is_reached l.timers.now (l.timers.now + u)))
replies s st l (Queue d) = yes_unblocked (not (is_queued (object_at l d)))
replies s st l (Unqueue d) = yes_unblocked (is_queued (object_at l d))
replies s st l (SetTimer t due period) = yes_unblocked (is_set_timer l.timers t)
replies s st l (CancelTimer t) = yes_unblocked (is_set_timer l.timers t)
replies s st l (InsertApc a) = yes_unblocked (takes a (facts_at l (owner_of s a)).apcs)
replies s st l (RemoveApc a) = yes_unblocked (is_inserted a (facts_at l (owner_of s a)).apcs)
replies s st l (Release t) = yes_unblocked (ends_by_release (facts_at l t))
replies s st l (Alert t m) = yes_unblocked (not (is_gone (facts_at l t)) && is_alerted m (facts_at l t))
replies s st l (TestAlert m) = yes_unblocked (is_alerted m (facts_of l st.thread))
replies s st l (Acquire k) = tried (is_none (lock_at l k).holder)
  where
    tried : (b : Bool) → is_try_reply (if b then Done else Spin) ≡ true
    tried true = refl
    tried false = refl
replies s st l _ = refl

-- ---- the innermost frame

-- the frame that a processor stands at is there, if it has an innermost frame
at_innermost_frame : (c : CpuState) (f : Frame) → innermost c.own.frames ≡ Some f → IsAt (stand_in c.cpu c.own).frame c.own.frames
at_innermost_frame c f k = record { frame = f; is = k; name = rw k refl }

-- ---- pending APCs

abbrev pub PicksFit : Script → ApcQueues → Type 0
PicksFit s q = All (λ pick. pick.kind ≡ kind_of s pick.apc) q.pending

-- the pending APCs of a thread fit the script if the kinds in the states do
facts_fit : (s : Script) (l : Lanes) (t : ThreadNo) → KindsFit s l → PicksFit s (facts_at l t).apcs
facts_fit s l t h = go (nat_lt t.0 (length l.threads)) refl
  where
    go : (b : Bool) → nat_lt t.0 (length l.threads) ≡ b → PicksFit s (facts_at l t).apcs
    go true e = h t.0 start_facts (grind (arith, nat_tests))
    go false e =
        let q : length l.threads ≤ t.0 = grind (arith, nat_tests) in
        rw (get_or_past l.threads t.0 start_facts q) (All-nil (λ (pick : Pick). pick.kind ≡ kind_of s pick.apc))

-- the pending APCs of an optional thread fit the script if the kinds in the states do
thread_fits : (s : Script) (l : Lanes) (t : Option ThreadNo) → KindsFit s l → PicksFit s (facts_of l t).apcs
thread_fits s l None h = All-nil (λ (pick : Pick). pick.kind ≡ kind_of s pick.apc)
thread_fits s l (Some t) h = facts_fit s l t h

-- what holds of all entries of a list holds of all entries of the reversed list
all_reverse : {A : Type 0} (P : A → Type 0) (xs : List A) → All P xs → All P (reverse xs)
all_reverse P [] h = All-nil P
all_reverse P (x ∷ xs) h =
    rw (reverse-append (x ∷ []) xs) (All-push P (reverse xs) x (all_reverse P xs (All-tail P x xs h)) (All-head P x xs h))

-- case: the entry in hand is the one found, or else the one found in the rest
found_all : {A : Type 0} (P : A → Type 0) (test : A → Bool) (x : A) (o : Option A) (b : Bool) → test x ≡ b → P x → Holds (λ x. P x × (test x ≡ true)) o →
    Holds (λ x. P x × (test x ≡ true)) (cond b (Some x) o)
found_all P test x o true e p h = (p, e)
found_all P test x o false e p h = h

-- an entry found in a list passes the test and has what all entries have
find_all : {A : Type 0} (P : A → Type 0) (test : A → Bool) (xs : List A) → All P xs → Holds (λ x. P x × (test x ≡ true)) (find test xs)
find_all P test [] h = tt
find_all P test (x ∷ xs) h =
    found_all P test x (find test xs) (test x) refl (All-head P x xs h) (find_all P test xs (All-tail P x xs h))

-- APC kinds that test equal are the same
same_kind_is : (k m : ApcKind) → same_kind k m ≡ true → m ≡ k
same_kind_is SpecialApc SpecialApc h = refl
same_kind_is NormalApc NormalApc h = refl
same_kind_is UserApc UserApc h = refl
same_kind_is _ _ h = absurd cc

-- the pick of a kind has the kind, which is that of its object
kind_here : (s : Script) (kind : ApcKind) (q : ApcQueues) → PicksFit s q →
    Holds (λ pick. (pick.kind ≡ kind) × (kind_of s pick.apc ≡ kind)) (first_of_kind kind q)
kind_here s kind q h =
    holds_more (λ x. (x.kind ≡ kind_of s x.apc) × (is_of_kind kind x ≡ true)) (λ pick. (pick.kind ≡ kind) × (kind_of s pick.apc ≡ kind))
    (find (is_of_kind kind) (reverse q.pending)) (find_all (λ x. x.kind ≡ kind_of s x.apc) (is_of_kind kind) (reverse q.pending)
    (all_reverse (λ x. x.kind ≡ kind_of s x.apc) q.pending h)) (λ x e k. let i : x.kind ≡ kind = same_kind_is kind x.kind k.1 in (i, sym k.0 ∙ i))

abbrev pub IsKernelPick : Script → Regions → Pick → Type 0
IsKernelPick s r pick =
    (is_kernel_kind (kind_of s pick.apc) ≡ true) × (lets_through r (kind_of s pick.apc) ≡ true)

-- the kind of the first kernel APC is that of its object
first_here : (s : Script) (q : ApcQueues) → PicksFit s q →
    Holds (λ pick. (pick.kind ≡ kind_of s pick.apc) × (is_kernel_kind (kind_of s pick.apc) ≡ true)) (first_kernel q)
first_here s q h =
    holds_or (λ pick. (pick.kind ≡ kind_of s pick.apc) × (is_kernel_kind (kind_of s pick.apc) ≡ true)) (first_of_kind SpecialApc q) (first_of_kind NormalApc q)
    (holds_more _ _ (first_of_kind SpecialApc q) (kind_here s SpecialApc q h) (λ x e k. (k.0 ∙ sym k.1, rw k.1 refl)))
    (λ _. holds_more _ _ (first_of_kind NormalApc q) (kind_here s NormalApc q h) (λ x e k. (k.0 ∙ sym k.1, rw k.1 refl)))

-- a deliverable APC is of a kernel kind that the thread's regions let through
kernel_here : (s : Script) (q : ApcQueues) (r : Regions) (level : ℕ) → PicksFit s q → Holds (IsKernelPick s r) (deliverable q r level)
kernel_here s q r level h =
    holds_then (IsKernelPick s r) (λ x. when ((level == 0) && lets_through r x.kind) (Some x)) (first_kernel q)
    (λ x e. holds_when (IsKernelPick s r) ((level == 0) && lets_through r x.kind) (Some x)
    (λ a. let k = holds_at (λ pick. (pick.kind ≡ kind_of s pick.apc) × (is_kernel_kind (kind_of s pick.apc) ≡ true)) (first_kernel q) x
    (first_here s q h) e in (k.1, rw k.0 at (both (level == 0) (lets_through r x.kind) a).1)))

-- ---- the events

-- the begin of the first ordinary DPC of a queue is allowed if the frames allow each ordinary DPC
begun_dpc : (c : CpuState) (q : QueueState) → ((d : DpcNo) → may_begin (OnDpc d) c.own.frames ≡ true) → Holds (GoodEvent c) (begin_first OrdinaryPart q)
begun_dpc c q h =
    holds_map (GoodEvent c) (begin_dpc OrdinaryPart) (first_dpc OrdinaryPart q.pending) (λ x e. record { allow = h x.dpc; look = refl })

-- the begin of the first threaded DPC of a queue is allowed if the frames allow each threaded DPC
begun_threaded : (c : CpuState) (q : QueueState) → ((d : DpcNo) → may_begin (OnThreaded d) c.own.frames ≡ true) →
    Holds (GoodEvent c) (begin_first ThreadedPart q)
begun_threaded c q h =
    holds_map (GoodEvent c) (begin_dpc ThreadedPart) (first_dpc ThreadedPart q.pending) (λ x e. record { allow = h x.dpc; look = refl })

-- what a processor does next to drain its DPCs and timers is allowed by the frames if it may drain
drain_good : (c : CpuState) (l : Lanes) → may_drain c.own ≡ true → GoodEvent c (drain_event (stand_in c.cpu c.own) l)
drain_good c l k =
    holds_else (GoodEvent c) (option_or (option_map expire_key (when (stand_in c.cpu c.own).sweep (first_due l.timers)))
    (begin_first OrdinaryPart (queue_at l c.cpu))) (Clean 2)
    (holds_or (GoodEvent c) (option_map expire_key (when (stand_in c.cpu c.own).sweep (first_due l.timers))) (begin_first OrdinaryPart (queue_at l c.cpu))
    (holds_map (GoodEvent c) expire_key (when (stand_in c.cpu c.own).sweep (first_due l.timers)) (λ x e. record { allow = tt; look = refl }))
    (λ _. begun_dpc c (queue_at l c.cpu) (λ d. dpc_may_begin c.own d k))) (λ _. record { allow = tt; look = refl })

-- what a processor does next to deliver kernel APCs is allowed by the frames if it may deliver them
apcs_good : (c : CpuState) (l : Lanes) → may_apcs c.own ≡ true → KindsFit c.script l → GoodEvent c (apcs_event (stand_in c.cpu c.own) l)
apcs_good c l k f =
    let st : Stand = stand_in c.cpu c.own in
    let q : ApcQueues = (facts_of l st.thread).apcs in
    holds_else (GoodEvent c) (option_map begin_apc (deliverable q st.regions st.level)) (Clean 1)
    (holds_map (GoodEvent c) begin_apc (deliverable q st.regions st.level)
    (λ x e. let i = holds_at (IsKernelPick c.script st.regions) (deliverable q st.regions st.level) x
    (kernel_here c.script q st.regions st.level (thread_fits c.script l st.thread f)) e in
    record { allow = apc_may_begin c.own x.apc (kind_of c.script x.apc) k i.0 i.1; look = refl })) (λ _. record { allow = tt; look = refl })

-- the event of an idle processor is allowed if it has no frame
idle_good : (c : CpuState) (l : Lanes) → innermost c.own.frames ≡ None → Holds (GoodEvent c) (idle_event c.script (stand_in c.cpu c.own) l)
idle_good c l k =
    holds_or (GoodEvent c) (begin_first OrdinaryPart (queue_at l c.cpu)) (when (is_null (ready c.script c.cpu l)) (Some Rest))
    (begun_dpc c (queue_at l c.cpu) (λ d. idle_dpc_may_begin c.own.frames d k))
    (λ _. holds_when (GoodEvent c) (is_null (ready c.script c.cpu l)) (Some Rest) (λ _. record { allow = tt; look = refl }))

-- where a thread may be taken up, no frame stands
pub record IsFree (x : Frames) : Type 0 where
  pub own : x.own ≡ []
  pub running : x.running ≡ None
  pub innermost : innermost x ≡ None

-- a processor that may switch has no frame, neither of its own nor of a running thread
pub free : (x : Own) → may_switch x ≡ true → IsFree x.frames
free x h =
    let a = both (is_none x.frames.running) (is_null x.frames.own && not (must x)) h in
    let b = both (is_null x.frames.own) (not (must x)) a.1 in
    let o : x.frames.own ≡ [] = null_is x.frames.own b.0 in
    let r : x.frames.running ≡ None = none_is x.frames.running a.0 in
    record { own = o; running = r; innermost = rw (o, r) refl }
  where
    null_is : {A : Type 0} (xs : List A) → is_null xs ≡ true → xs ≡ []
    null_is [] e = refl
    null_is (y ∷ ys) e = absurd cc

    none_is : {A : Type 0} (o : Option A) → is_none o ≡ true → o ≡ None
    none_is None e = refl
    none_is (Some y) e = absurd cc

-- the switch to a thread that the processor may take is allowed by the frames
taken_good : (c : CpuState) (l : Lanes) (t : ThreadNo) → IsSound c → may_switch c.own ≡ true → may_take c.script c.cpu t l ≡ true →
    GoodEvent c (switch_event t l)
taken_good c l t h k m =
    let f = free c.own k in
    let a = (both (has_thread c.script t) (((cpu_of c.script t).0 == c.cpu.0) && is_ready (facts_at l t)) m).0 in
    let b : t.0 < length c.script.threads = grind (arith, nat_tests) in
    record { allow = (f.own, f.running, rw h.threads b); look = refl }

-- the begin of the due user APC is allowed if a return to user mode is not refused
user_here : (c : CpuState) (l : Lanes) → refusal_in ToUser c.own.frames ≡ None → KindsFit c.script l →
    Holds (GoodEvent c) (option_map begin_apc (user_due (facts_of l c.own.frames.running)))
user_here c l a f =
    let x : ThreadFacts = facts_of l c.own.frames.running in
    holds_map (GoodEvent c) begin_apc (user_due x) (λ pick e. let g = when_gives x.user_pending (first_user x.apcs) pick e in
    let k = holds_at (λ p. (p.kind ≡ UserApc) × (kind_of c.script p.apc ≡ UserApc)) (first_user x.apcs) pick
    (kind_here c.script UserApc x.apcs (thread_fits c.script l c.own.frames.running f)) g.1 in
    record { allow = rw k.1 (user_may_begin c.own.frames pick.apc a); look = refl })

-- the rundown of a leaving thread is allowed by its frames
rundown_good : (c : CpuState) (l : Lanes) (t : ThreadNo) → is_leaving c.own.frames ≡ true → GoodEvent c (rundown_event l t)
rundown_good c l t k =
    holds_else (GoodEvent c) (option_map (λ x. Flush x.apc x.number) (first_user (facts_at l t).apcs)) (Gone t)
    (holds_map (GoodEvent c) (λ x. Flush x.apc x.number) (first_user (facts_at l t).apcs) (λ x e. record { allow = k; look = refl }))
    (λ _. record { allow = k; look = refl })

-- the end of the innermost frame is allowed if that frame runs and is not of a leaving thread
ended_good : (c : CpuState) → Runs c → GoodEvent c (End (stand_in c.cpu c.own).frame)
ended_good c g = record {
  allow = (at_innermost_frame c g.frame g.is, leaving_here g.frame c.own.frames g.is ∙ g.leaving);
  look = refl;
}

-- taking up a wait again is allowed if the innermost frame has a wait to take up
rewait_good : (c : CpuState) (l : Lanes) → IsSound c → Awaits c → Holds (GoodEvent c) (job_event c.script (stand_in c.cpu c.own) l RewaitJob)
rewait_good c l h g =
    let st : Stand = stand_in c.cpu c.own in
    holds_map (GoodEvent c) (λ w. Rewait st.frame (rewait_reply st l w)) st.again
    (λ w e. record {
      allow = (
        at_innermost_frame c g.frame g.is,
        awaiting_is_on_thread g.frame w c.own.frames h.waits g.is (rw g.is at e),
        wait_replies (facts_of l st.thread) st.regions st.level w.mode w.alertable (option_map (is_reached l.timers.now) w.due),
      );
      look = refl;
    })

-- the event of a job that may be done is one that the frames allow, and no Look
pub acted_good : (c : CpuState) (l : Lanes) (job : Job) → IsSound c → GoodJob c job → KindsFit c.script l →
    Holds (GoodEvent c) (job_event c.script (stand_in c.cpu c.own) l job)
acted_good c l (CallJob k) h g f = record {
  allow = (
    at_innermost_frame c g.frame g.is,
    accepted_call k (reply c.script (stand_in c.cpu c.own) l k) c.own.frames g.accepted
        (replies c.script (stand_in c.cpu c.own) l k),
    own_lock c.script k g.fits,
  );
  look = refl;
}
acted_good c l (FireJob d) h g f = record { allow = tt; look = refl }
acted_good c l (FreeJob k) h g f = record { allow = at_innermost_frame c g.frame g.is; look = refl }
acted_good c l DrainJob h g f = drain_good c l g
acted_good c l ApcsJob h g f = apcs_good c l g f
acted_good c l ThreadedJob h g f =
    holds_else (GoodEvent c) (begin_first ThreadedPart (queue_at l c.cpu)) (Clean 0) (begun_threaded c (queue_at l c.cpu) (λ d. threaded_may_begin c.own d g))
    (λ _. record { allow = tt; look = refl })
acted_good c l IdleJob h g f = idle_good c l g
acted_good c l (PickJob last) h g f =
    holds_or (GoodEvent c) (option_map (λ t. switch_event t l) (next_ready c.script c.cpu last l)) (idle_event c.script (stand_in c.cpu c.own) l)
    (holds_map (GoodEvent c) (λ t. switch_event t l) (next_ready c.script c.cpu last l)
    (λ t e. taken_good c l t h g (holds_at (λ t. may_take c.script c.cpu t l ≡ true) (next_ready c.script c.cpu last l) t
    (next_ready_taken c.script c.cpu last l) e))) (λ _. idle_good c l (free c.own g).innermost)
acted_good c l (SwitchJob t) h g f =
    holds_when (GoodEvent c) (may_take c.script c.cpu t l) (Some (switch_event t l)) (λ m. taken_good c l t h g.0 m)
acted_good c l RewaitJob h g f = rewait_good c l h g
acted_good c l ToUserJob h g f =
    holds_else (GoodEvent c) (option_map begin_apc (user_due (facts_of l c.own.frames.running))) (Call (stand_in c.cpu c.own).frame ToUser Done)
    (user_here c l g.accepted f) (λ _. record {
      allow = (at_innermost_frame c g.frame g.is, accepted_call ToUser Done c.own.frames g.accepted refl, refl);
      look = refl;
    })
acted_good c l UserEndJob h g f = ended_good c g
acted_good c l LeaveJob h g f = ended_good c g
acted_good c l RundownJob h g f =
    holds_map (GoodEvent c) (rundown_event l) c.own.frames.running (λ t e. rundown_good c l t g)
