-- What is known of the next event of a processor: the tests that its case of the list of next events made.
use Rattle.std.proofs.Common.{ap, arith, inl, inr, subst, sym, ◌∙◌}
use Rattle.std.proofs.lemmas.Bool.{eq-eqb, ltb-true}
use Rattle.std.specs.List.{list_any}
use Rattle.std.specs.Option.{option_map_or, option_or}
use Rattle.std.specs.Prelude.{Bool, List, None, Option, Some, [], cond, false, find, if◌then◌else◌, is_none, is_some, nat_lt, not, option_and_then, option_map}
use Rattle.std.specs.Prelude.{refl, true, ℕ, ◌&&◌, ◌-◌, ◌<◌, ◌==◌, ◌||◌, ◌∷◌, ◌≡◌, ◌⊎◌}
use Rattle.nt_event.specs.declared.commands.ApcKind.TheVariants.{User as UserApc}
use Rattle.nt_event.specs.declared.commands.Command.{Command}
use Rattle.nt_event.specs.declared.commands.Command.TheVariants.{Acquire, Alert, CancelTimer, Delay, InsertApc, Lower, Queue, Raise, Release, RemoveApc}
use Rattle.nt_event.specs.declared.commands.Command.TheVariants.{SetTimer, StartWait, TestAlert, ToUser, Unlock, Unqueue}
use Rattle.nt_event.specs.declared.commands.Refusal.{Refusal}
use Rattle.nt_event.specs.declared.commands.Reply.{Reply}
use Rattle.nt_event.specs.declared.commands.Reply.TheVariants.{Done, Refused}
use Rattle.nt_event.specs.declared.commands.TimerKey.{TimerKey}
use Rattle.nt_event.specs.declared.events.Begun.{Begun}
use Rattle.nt_event.specs.declared.events.Begun.TheVariants.{Apc, Dpc, Int, Threaded}
use Rattle.nt_event.specs.declared.events.Event.{Event}
use Rattle.nt_event.specs.declared.events.Turn.{Turn}
use Rattle.nt_event.specs.declared.events.Turn.TheVariants.{Next}
use Rattle.nt_event.specs.declared.events.What.{What}
use Rattle.nt_event.specs.declared.events.What.TheVariants.{Begin, Call, Clean, End, Expire, Fire, Flush, Free, Gone, Look, Normal, Rest, Rewait, Switch}
use Rattle.nt_event.specs.declared.frames.Again.{Again}
use Rattle.nt_event.specs.declared.frames.Body.{Body}
use Rattle.nt_event.specs.declared.frames.Body.TheVariants.{Apc as OnApc, Base as OnBase}
use Rattle.nt_event.specs.Frame.{Frame}
use Rattle.nt_event.specs.declared.inserts.Insert.{Insert}
use Rattle.nt_event.specs.declared.inserts.Part.{Part}
use Rattle.nt_event.specs.declared.inserts.Part.TheVariants.{Ordinary as OrdinaryPart, Threaded as ThreadedPart}
use Rattle.nt_event.specs.declared.inserts.Pick.{Pick}
use Rattle.nt_event.specs.declared.jobs.Job.TheVariants.{Apcs as ApcsJob, Call as CallJob, Drain as DrainJob, Fire as FireJob, Free as FreeJob, Idle as IdleJob}
use Rattle.nt_event.specs.declared.jobs.Job.TheVariants.{Rewait as RewaitJob, Rundown as RundownJob, Threaded as ThreadedJob, ToUser as ToUserJob}
use Rattle.nt_event.specs.declared.jobs.Stand.{Stand}
use Rattle.nt_event.specs.declared.jobs.Task.{Task}
use Rattle.nt_event.specs.declared.jobs.Task.TheVariants.{Alone, Shared}
use Rattle.nt_event.specs.declared.numbers.ApcNo.{ApcNo}
use Rattle.nt_event.specs.declared.numbers.CpuNo.{CpuNo}
use Rattle.nt_event.specs.declared.numbers.DpcNo.{DpcNo}
use Rattle.nt_event.specs.declared.numbers.ThreadNo.{ThreadNo}
use Rattle.nt_event.specs.declared.scripts.Script.{Script}
use Rattle.nt_event.specs.Apcs.{deliverable, first_user}
use Rattle.nt_event.specs.Commands.{needs_lane, refusal, reply}
use Rattle.nt_event.specs.Frames.{innermost, thread_part}
use Rattle.nt_event.specs.Jobs.{apcs_event, begin_apc, begin_dpc, begin_first, call_task, command_task, drain_event, end_task, expire_key, fire_task}
use Rattle.nt_event.specs.Jobs.{frame_task, free_task, go_on_task, has_normal, idle_event, idle_task, interrupt_task, level_at, may_apcs, may_drain}
use Rattle.nt_event.specs.Jobs.{may_interrupt, may_threaded, must_task, next_what, normal_task, ready, rewait_reply, rewait_task, rundown_event, rundown_task}
use Rattle.nt_event.specs.Jobs.{task, task_event, threaded_event, user_due, waits_for_lock}
use Rattle.nt_event.specs.Classes.{interrupt_classes}
use Rattle.nt_event.specs.Lanes.{Lanes, facts_at, facts_of, lanes_at, queue_at}
use Rattle.nt_event.specs.Own.{Own, own_of, stand_in}
use Rattle.nt_event.specs.Queues.{QueueState, first_dpc}
use Rattle.nt_event.specs.Regions.{regions_of}
use Rattle.nt_event.specs.Routines.{next_command}
use Rattle.nt_event.specs.Step.{IsLegal, step, turn_at}
use Rattle.nt_event.specs.Timers.{SetKey, first_due}
use Rattle.nt_event.specs.Lists.{head_of, is_null, value_at, when}
use Rattle.nt_event.proofs.Options.{Holds, both, holds_at, holds_else, holds_find, holds_map, holds_or, holds_then, holds_when, not_true, when_gives}
use Rattle.nt_runs.proofs.Robin.{Comes, again_stands, frame_has, or_yes}
use Rattle.nt_runs.proofs.Steps.{Gives, next_gives}
use Rattle.nt_runs.proofs.Turns.{is_next}
use Rattle.nt_event.specs.declared.numbers.LockNo.{LockNo}
use Rattle.nt_event.specs.declared.frames.Held.{Held}

-- the innermost frame goes on: nothing must be done first, and it waits for no lock
pub record GoesOn (x : Own) (f : Frame) : Type 0 where
  pub quiet : must_task x ≡ None
  pub awake : waits_for_lock x ≡ false
  pub inner : innermost x.frames ≡ Some f

abbrev pub reply_or : Option Refusal → Reply → Reply
reply_or None y = y
reply_or (Some r) y = Refused r

abbrev pub refusal_in : Own → Frame → Command → Option Refusal
refusal_in x f c =
    refusal (level_at x) (not (is_null x.frames.own)) (regions_of (thread_part x.frames)) f c

pub record KnownCall (s : Script) (p : CpuNo) (x : Own) (l : Lanes) (n : ℕ) (c : Command) (y : Reply) : Type 0 where
  pub frame : Frame
  pub goes_on : GoesOn x frame
  pub name : n ≡ frame.name
  pub again : is_some frame.again ≡ false
  pub leaving : frame.leaving ≡ false
  pub command : next_command s p frame ≡ Some c
  pub reply : y ≡ reply_or (refusal_in x frame c) (reply s (stand_in p x) l c)

pub record KnownInterrupt (x : Own) (c : ℕ) (from : ℕ) : Type 0 where
  pub class : list_any (λ k. k == c) interrupt_classes ≡ true
  pub may : may_interrupt x c ≡ true
  pub number : from ≡ value_at x.seen c - 1

pub record KnownInsert (part : Part) (q : QueueState) (d : DpcNo) (from : ℕ) : Type 0 where
  pub insert : Insert
  pub first : first_dpc part q.pending ≡ Some insert
  pub dpc : d ≡ insert.dpc
  pub number : from ≡ insert.number

pub record KnownPick (o : Option Pick) (a : ApcNo) (from : ℕ) : Type 0 where
  pub pick : Pick
  pub first : o ≡ Some pick
  pub apc : a ≡ pick.apc
  pub number : from ≡ pick.number

-- at `touser`, which isn't refused
pub record KnownToUser (s : Script) (p : CpuNo) (x : Own) : Type 0 where
  pub frame : Frame
  pub goes_on : GoesOn x frame
  pub again : is_some frame.again ≡ false
  pub leaving : frame.leaving ≡ false
  pub command : next_command s p frame ≡ Some ToUser
  pub accepted : refusal_in x frame ToUser ≡ None

pub record KnownNormal (s : Script) (p : CpuNo) (x : Own) (n : ℕ) : Type 0 where
  pub frame : Frame
  pub goes_on : GoesOn x frame
  pub name : n ≡ frame.name
  pub kernel : frame.kernel_phase ≡ true
  pub normal : has_normal frame.body ≡ true
  pub command : next_command s p frame ≡ None
  pub free : head_of frame.held ≡ None

-- the innermost frame holds locks, and this one it acquired last
pub record KnownFree (s : Script) (p : CpuNo) (x : Own) (n : ℕ) (k : LockNo) : Type 0 where
  pub frame : Frame
  pub goes_on : GoesOn x frame
  pub name : n ≡ frame.name
  pub again : is_some frame.again ≡ false
  pub leaving : frame.leaving ≡ false
  pub command : next_command s p frame ≡ None
  pub held : Held
  pub last : head_of frame.held ≡ Some held
  pub lock : k ≡ held.lock

pub record KnownEnd (s : Script) (p : CpuNo) (x : Own) (n : ℕ) : Type 0 where
  pub frame : Frame
  pub goes_on : GoesOn x frame
  pub name : n ≡ frame.name
  pub again : is_some frame.again ≡ false
  pub leaving : frame.leaving ≡ false
  pub command : next_command s p frame ≡ None
  pub free : head_of frame.held ≡ None
  pub last : (frame.kernel_phase && has_normal frame.body) ≡ false

pub record KnownKey (x : Own) (l : Lanes) (named : TimerKey) (from : ℕ) : Type 0 where
  pub sweep : x.sweep ≡ true
  pub low : level_at x < 2
  pub set : SetKey
  pub first : first_due l.timers ≡ Some set
  pub key : named ≡ set.key
  pub number : from ≡ set.setting.number

pub record KnownRewait (p : CpuNo) (x : Own) (l : Lanes) (n : ℕ) (y : Reply) : Type 0 where
  pub frame : Frame
  pub goes_on : GoesOn x frame
  pub name : n ≡ frame.name
  pub wait : Again
  pub again : frame.again ≡ Some wait
  pub reply : y ≡ rewait_reply (stand_in p x) l wait

-- a leaving thread runs, and its base is innermost
pub record KnownRundown (x : Own) (t : ThreadNo) : Type 0 where
  pub frame : Frame
  pub goes_on : GoesOn x frame
  pub leaving : frame.leaving ≡ true
  pub thread : x.frames.running ≡ Some t

pub record KnownRest (s : Script) (p : CpuNo) (x : Own) (l : Lanes) : Type 0 where
  pub quiet : must_task x ≡ None
  pub none : innermost x.frames ≡ None
  pub empty : first_dpc OrdinaryPart (queue_at l p).pending ≡ None
  pub unready : is_null (ready s p l) ≡ true

abbrev pub Deliverable : Own → Lanes → Option Pick
Deliverable x l = deliverable (facts_of l x.frames.running).apcs (regions_of (thread_part x.frames)) (level_at x)

abbrev pub KnownClean : CpuNo → Own → Lanes → ℕ → Type 0
KnownClean p x l c = ((c ≡ 2) × (level_at x < 2) × (when x.sweep (first_due l.timers) ≡ None) × (first_dpc OrdinaryPart (queue_at l p).pending ≡ None)) ⊎
    (((c ≡ 1) × (may_apcs x ≡ true) × (Deliverable x l ≡ None)) ⊎ ((c ≡ 0) × (may_threaded x ≡ true) × (first_dpc ThreadedPart (queue_at l p).pending ≡ None)))

abbrev pub KnownBegin : Script → CpuNo → Own → Lanes → Begun → ℕ → Type 0
KnownBegin s p x l (Int c) from = KnownInterrupt x c from
KnownBegin s p x l (Dpc d) from = (level_at x < 2) × KnownInsert OrdinaryPart (queue_at l p) d from
KnownBegin s p x l (Threaded d) from = (may_threaded x ≡ true) × KnownInsert ThreadedPart (queue_at l p) d from
KnownBegin s p x l (Apc a) from = ((may_apcs x ≡ true) × KnownPick (Deliverable x l) a from) ⊎
    (KnownToUser s p x × KnownPick (user_due (facts_of l x.frames.running)) a from)

abbrev pub Known : Script → CpuNo → Own → Lanes → What → Type 0
Known s p x l (Call n c y) = KnownCall s p x l n c y
Known s p x l (Look r) = ⊥
Known s p x l (Begin b from) = KnownBegin s p x l b from
Known s p x l (Normal n) = KnownNormal s p x n
Known s p x l (End n) = KnownEnd s p x n
Known s p x l (Expire key from) = KnownKey x l key from
Known s p x l (Fire d y) = (x.fire ≡ Some d) × (y ≡ reply s (stand_in p x) l (Queue d))
Known s p x l (Clean c) = KnownClean p x l c
Known s p x l (Switch t st) = ⊥
Known s p x l (Rewait n y) = KnownRewait p x l n y
Known s p x l (Flush a from) = (t : ThreadNo) × KnownRundown x t × KnownPick (first_user (facts_at l t).apcs) a from
Known s p x l (Gone t) = KnownRundown x t × (first_user (facts_at l t).apcs ≡ None)
Known s p x l (Free n k) = KnownFree s p x n k
Known s p x l Rest = KnownRest s p x l

-- ---- what must be done

-- below DISPATCH_LEVEL the first DPC of the queue, if there is one, is known
begin_known : (s : Script) (p : CpuNo) (x : Own) (l : Lanes) → level_at x < 2 → Holds (Known s p x l) (begin_first OrdinaryPart (queue_at l p))
begin_known s p x l low =
    holds_map (Known s p x l) (begin_dpc OrdinaryPart) (first_dpc OrdinaryPart (queue_at l p).pending)
    (λ i e. (low, record { insert = i; first = e; dpc = refl; number = refl }))

-- an option whose image is none is none
map_none : {A B : Type 0} (f : A → B) (o : Option A) → option_map f o ≡ None → o ≡ None
map_none f None h = refl
map_none f (Some x) h = cc

-- where a first option, or else a second, is none, both are none
or_none : {A : Type 0} (a b : Option A) → option_or a b ≡ None → (a ≡ None) × (b ≡ None)
or_none None b h = (refl, h)
or_none (Some x) b h = cc

-- the event of the drain of timers and DPCs is known below DISPATCH_LEVEL
drain_known : (s : Script) (p : CpuNo) (x : Own) (l : Lanes) → level_at x < 2 → Known s p x l (drain_event (stand_in p x) l)
drain_known s p x l low =
    let keys : Option What = option_map expire_key (when x.sweep (first_due l.timers)) in
    let dpcs : Option What = begin_first OrdinaryPart (queue_at l p) in
    holds_else (Known s p x l) (option_or keys dpcs) (Clean 2)
    (holds_or (Known s p x l) keys dpcs (holds_map (Known s p x l) expire_key (when x.sweep (first_due l.timers))
    (λ k e. let w = when_gives x.sweep (first_due l.timers) k e in record { sweep = w.0; low = low; set = k; first = w.1; key = refl; number = refl }))
    (λ e. begin_known s p x l low)) (λ e. let k = or_none keys dpcs e in
    inl (
      refl,
      low,
      map_none expire_key (when x.sweep (first_due l.timers)) k.0,
      map_none (begin_dpc OrdinaryPart) (first_dpc OrdinaryPart (queue_at l p).pending) k.1,
    ))

-- the event that serves the APC class is known where APCs may be delivered
apcs_known : (s : Script) (p : CpuNo) (x : Own) (l : Lanes) → may_apcs x ≡ true → Known s p x l (apcs_event (stand_in p x) l)
apcs_known s p x l may =
    holds_else (Known s p x l) (option_map begin_apc (Deliverable x l)) (Clean 1)
    (holds_map (Known s p x l) begin_apc (Deliverable x l) (λ k e. inl (may, record { pick = k; first = e; apc = refl; number = refl })))
    (λ e. inr (inl (refl, may, map_none begin_apc (Deliverable x l) e)))

-- the event that serves the threaded class is known where threaded DPCs may begin
threaded_known : (s : Script) (p : CpuNo) (x : Own) (l : Lanes) → may_threaded x ≡ true → Known s p x l (threaded_event (stand_in p x) l)
threaded_known s p x l may =
    holds_else (Known s p x l) (begin_first ThreadedPart (queue_at l p)) (Clean 0)
    (holds_map (Known s p x l) (begin_dpc ThreadedPart) (first_dpc ThreadedPart (queue_at l p).pending)
    (λ i e. (may, record { insert = i; first = e; dpc = refl; number = refl })))
    (λ e. inr (inr (refl, may, map_none (begin_dpc ThreadedPart) (first_dpc ThreadedPart (queue_at l p).pending) e)))

-- a task whose event, if it comes, is known
abbrev pub Good : Script → CpuNo → Own → Lanes → Task → Type 0
Good s p x l t = Holds (Known s p x l) (task_event s (stand_in p x) l t)

-- the event of an interrupt that is due is known
interrupt_known : (s : Script) (p : CpuNo) (x : Own) (l : Lanes) → Holds (Good s p x l) (interrupt_task x)
interrupt_known s p x l =
    holds_map (Good s p x l) (λ c. Alone (Begin (Int c) (value_at x.seen c - 1))) (find (may_interrupt x) interrupt_classes)
    (λ c e. record {
      class = found interrupt_classes c e;
      may = holds_at (λ k. may_interrupt x k ≡ true) (find (may_interrupt x) interrupt_classes) c
          (holds_find (λ k. may_interrupt x k ≡ true) (may_interrupt x) interrupt_classes (λ k h. h)) e;
      number = refl;
    })
  where
    found : (cs : List ℕ) (c : ℕ) → find (may_interrupt x) cs ≡ Some c → list_any (λ k. k == c) cs ≡ true
    found [] c h = cc
    found (k ∷ cs) c h = go (may_interrupt x k) h (found cs c)
      where
        go : (b : Bool) → cond b (Some k) (find (may_interrupt x) cs) ≡ Some c → (find (may_interrupt x) cs ≡ Some c → list_any (λ k. k == c) cs ≡ true) →
            ((k == c) || list_any (λ k. k == c) cs) ≡ true
        go true e ih = let n : k ≡ c = cc in rw (eq-eqb k c n) refl
        go false e ih = or_yes (k == c) (list_any (λ k. k == c) cs) (ih e)

-- the event of what must be done first is known
must_known : (s : Script) (p : CpuNo) (x : Own) (l : Lanes) → Holds (Good s p x l) (must_task x)
must_known s p x l =
    holds_or (Good s p x l) (fire_task x) _ (holds_map (Good s p x l) (λ d. Shared (FireJob d)) x.fire (λ d e. (e, refl)))
    (λ e. holds_or (Good s p x l) (interrupt_task x) _ (interrupt_known s p x l)
    (λ k. holds_or (Good s p x l) (when (may_drain x) (Some (Shared DrainJob))) _
    (holds_when (Good s p x l) (may_drain x) (Some (Shared DrainJob))
    (λ h. drain_known s p x l (ltb-true (level_at x) 2 (both (nat_lt (level_at x) 2) _ h).0)))
    (λ k2. holds_or (Good s p x l) (when (may_apcs x) (Some (Shared ApcsJob))) _
    (holds_when (Good s p x l) (may_apcs x) (Some (Shared ApcsJob)) (λ h. apcs_known s p x l h))
    (λ k3. holds_when (Good s p x l) (may_threaded x) (Some (Shared ThreadedJob)) (λ h. threaded_known s p x l h)))))

-- ---- the innermost frame

-- where the innermost frame goes on, its name is the one at which its processor stands
frame_stands : (p : CpuNo) (x : Own) (f : Frame) → GoesOn x f → (stand_in p x).frame ≡ f.name
frame_stands p x f g = ap (λ (o : Option Frame). option_map_or (λ f. f.name) o 0) g.inner

-- where the innermost frame goes on, the wait to take up where the processor stands is the frame's
pub again_known : (p : CpuNo) (x : Own) (f : Frame) → GoesOn x f → (stand_in p x).again ≡ f.again
again_known p x f g = again_stands p x.frames x.sweep f g.inner

-- the event that takes up a wait again is known
rewait_known : (s : Script) (p : CpuNo) (x : Own) (l : Lanes) (f : Frame) → GoesOn x f → Good s p x l (Shared RewaitJob)
rewait_known s p x l f g =
    holds_map (Known s p x l) (λ w. Rewait (stand_in p x).frame (rewait_reply (stand_in p x) l w)) (stand_in p x).again
    (λ w e. record { frame = f; goes_on = g; name = frame_stands p x f g; wait = w; again = sym (again_known p x f g) ∙ e; reply = refl })

-- the event of the rundown of a leaving frame is known
rundown_known : (s : Script) (p : CpuNo) (x : Own) (l : Lanes) (f : Frame) → GoesOn x f → f.leaving ≡ true → Good s p x l (Shared RundownJob)
rundown_known s p x l f g leaving =
    holds_map (Known s p x l) (rundown_event l) x.frames.running
    (λ t e. let r : KnownRundown x t = record { frame = f; goes_on = g; leaving = leaving; thread = e } in
    holds_else (Known s p x l) (option_map (λ k. Flush k.apc k.number) (first_user (facts_at l t).apcs)) (Gone t)
    (holds_map (Known s p x l) (λ k. Flush k.apc k.number) (first_user (facts_at l t).apcs)
    (λ k m. (t, r, record { pick = k; first = m; apc = refl; number = refl })))
    (λ m. (r, map_none (λ k. Flush k.apc k.number) (first_user (facts_at l t).apcs) m)))

-- a command without a lane is done
lane_free : (s : Script) (st : Stand) (l : Lanes) (c : Command) → needs_lane c ≡ false → reply s st l c ≡ Done
lane_free s st l (Raise n) h = refl
lane_free s st l (Lower n) h = refl
lane_free s st l (Queue d) h = cc
lane_free s st l (Unqueue d) h = cc
lane_free s st l (SetTimer t due period) h = cc
lane_free s st l (CancelTimer t) h = cc
lane_free s st l (InsertApc a) h = cc
lane_free s st l (RemoveApc a) h = cc
lane_free s st l (StartWait m a) h = cc
lane_free s st l (Delay m a u) h = cc
lane_free s st l (Release t) h = cc
lane_free s st l (Alert t m) h = cc
lane_free s st l (TestAlert m) h = cc
lane_free s st l (Acquire k) h = cc
lane_free s st l (Unlock k) h = cc
lane_free s st l c h = refl

-- what a call is known by, but for its frame's name and its reply
pub record Calls (s : Script) (p : CpuNo) (x : Own) (f : Frame) (c : Command) : Type 0 where
  pub goes_on : GoesOn x f
  pub again : is_some f.again ≡ false
  pub leaving : f.leaving ≡ false
  pub command : next_command s p f ≡ Some c

-- a call is known by its frame's name and its reply, with what else is known of it
known_call : (s : Script) (p : CpuNo) (x : Own) (l : Lanes) (f : Frame) (c : Command) (n : ℕ) (y : Reply) → Calls s p x f c → n ≡ f.name → y
    ≡ reply_or (refusal_in x f c) (reply s (stand_in p x) l c) → KnownCall s p x l n c y
known_call s p x l f c n y k e r =
    record { frame = f; goes_on = k.goes_on; name = e; again = k.again; leaving = k.leaving; command = k.command; reply = r }

-- the event of an accepted ToUser is known
touser_known : (s : Script) (p : CpuNo) (x : Own) (l : Lanes) (f : Frame) → Calls s p x f ToUser → refusal_in x f ToUser ≡ None →
    Good s p x l (Shared ToUserJob)
touser_known s p x l f k e =
    holds_else (Known s p x l) (option_map begin_apc (user_due (facts_of l x.frames.running))) (Call (stand_in p x).frame ToUser Done)
    (holds_map (Known s p x l) begin_apc (user_due (facts_of l x.frames.running))
    (λ pick m. inr (
      record { frame = f; goes_on = k.goes_on; again = k.again; leaving = k.leaving; command = k.command; accepted = e },
      record { pick = pick; first = m; apc = refl; number = refl },
    ))) (λ m. known_call s p x l f ToUser _ _ k (frame_stands p x f k.goes_on) (rw e refl))

-- the event of a command is known, refused or not
call_known : (s : Script) (p : CpuNo) (x : Own) (l : Lanes) (f : Frame) (c : Command) → Calls s p x f c → Good s p x l (call_task f c (refusal_in x f c))
call_known s p x l f c k = go c (refusal_in x f c) refl k
  where
    lane : (c : Command) → Calls s p x f c → refusal_in x f c ≡ None → (b : Bool) → needs_lane c ≡ b →
        Good s p x l (if b then Shared (CallJob c) else Alone (Call f.name c Done))
    lane c k e true n =
        known_call s p x l f c _ _ k (frame_stands p x f k.goes_on) (ap (λ (o : Option Refusal). reply_or o (reply s (stand_in p x) l c)) (sym e))
    lane c k e false n =
        known_call s p x l f c _ _ k refl (sym (lane_free s (stand_in p x) l c n)
        ∙ ap (λ (o : Option Refusal). reply_or o (reply s (stand_in p x) l c)) (sym e))

    go : (c : Command) (o : Option Refusal) → refusal_in x f c ≡ o → Calls s p x f c → Good s p x l (call_task f c o)
    go c (Some r) e k =
        known_call s p x l f c _ _ k refl (ap (λ (o : Option Refusal). reply_or o (reply s (stand_in p x) l c)) (sym e))
    go ToUser None e k = touser_known s p x l f k e
    go c None e k = lane c k e (needs_lane c) refl

-- the event of the innermost frame's next command, if there is one, is known
command_known : (s : Script) (p : CpuNo) (x : Own) (l : Lanes) (f : Frame) (o : Option Command) → GoesOn x f → is_some f.again ≡ false → f.leaving ≡ false →
    next_command s p f ≡ o → Holds (Good s p x l) (command_task x f o)
command_known s p x l f None g a b e = tt
command_known s p x l f (Some c) g a b e =
    call_known s p x l f c (record { goes_on = g; again = a; leaving = b; command = e })

-- the event that frees a lock of a frame without commands is known
free_known : (s : Script) (p : CpuNo) (x : Own) (l : Lanes) (f : Frame) → GoesOn x f → is_some f.again ≡ false → f.leaving ≡ false →
    next_command s p f ≡ None → Holds (Good s p x l) (free_task f)
free_known s p x l f g a b e =
    holds_map (Good s p x l) (λ h. Shared (FreeJob h.lock)) (head_of f.held)
    (λ h k. record {
      frame = f;
      goes_on = g;
      name = frame_stands p x f g;
      again = a;
      leaving = b;
      command = e;
      held = h;
      last = k;
      lock = refl;
    })

-- the event in which an APC goes on to its normal routine is known
normal_known : (s : Script) (p : CpuNo) (x : Own) (l : Lanes) (f : Frame) → GoesOn x f → next_command s p f ≡ None → head_of f.held ≡ None →
    Holds (Good s p x l) (normal_task f)
normal_known s p x l f g e q =
    holds_when (Good s p x l) (f.kernel_phase && has_normal f.body) (Some (Alone (Normal f.name)))
    (λ h. let k = both f.kernel_phase
    (has_normal f.body) h in record { frame = f; goes_on = g; name = refl; kernel = k.0; normal = k.1; command = e; free = q })

-- the event in which a frame ends is known
end_known : (s : Script) (p : CpuNo) (x : Own) (l : Lanes) (f : Frame) → KnownEnd s p x f.name → GoesOn x f → Good s p x l (end_task f.name f.body)
end_known s p x l f k g = go f.body
  where
    shared : KnownEnd s p x (stand_in p x).frame
    shared = subst (KnownEnd s p x) (sym (frame_stands p x f g)) k

    go : (b : Body) → Good s p x l (end_task f.name b)
    go (OnBase t) = subst (KnownEnd s p x) (sym (frame_stands p x f g)) k
    go (OnApc a UserApc) = subst (KnownEnd s p x) (sym (frame_stands p x f g)) k
    go b = k

-- a task made under a condition is none only where the condition fails
when_none : {A : Type 0} (t : Bool) (x : A) → when t (Some x) ≡ None → t ≡ false
when_none true x h = cc
when_none false x h = refl

-- where the task of a command is none, there is no command
command_none : (x : Own) (f : Frame) (o : Option Command) → command_task x f o ≡ None → o ≡ None
command_none x f None h = refl
command_none x f (Some c) h = cc

-- the event of any task of a frame that goes on is known
frame_known : (s : Script) (p : CpuNo) (x : Own) (l : Lanes) (f : Frame) → GoesOn x f → Holds (Good s p x l) (frame_task s p x f)
frame_known s p x l f g =
    holds_or (Good s p x l) (rewait_task f) _ (holds_when (Good s p x l) (is_some f.again) (Some (Shared RewaitJob)) (λ h. rewait_known s p x l f g))
    (λ e. holds_or (Good s p x l) (rundown_task f) _ (holds_when (Good s p x l) f.leaving (Some (Shared RundownJob)) (λ h. rundown_known s p x l f g h))
    (λ k. holds_or (Good s p x l) (command_task x f (next_command s p f)) _
    (command_known s p x l f (next_command s p f) g (when_none (is_some f.again) _ e) (when_none f.leaving _ k) refl)
    (λ k2. holds_or (Good s p x l) (free_task f) _ (free_known s p x l f g (when_none (is_some f.again) _ e) (when_none f.leaving _ k)
    (command_none x f (next_command s p f) k2))
    (λ k4. let free : head_of f.held ≡ None = map_none (λ h. Shared (FreeJob h.lock)) (head_of f.held) k4 in
    holds_or (Good s p x l) (normal_task f) _ (normal_known s p x l f g (command_none x f (next_command s p f) k2) free)
    (λ k3. end_known s p x l f (record {
      frame = f;
      goes_on = g;
      name = refl;
      again = when_none (is_some f.again) _ e;
      leaving = when_none f.leaving _ k;
      command = command_none x f (next_command s p f) k2;
      free = free;
      last = when_none (f.kernel_phase && has_normal f.body) _ k3;
    }) g)))))

-- ---- the next event

-- a frame gives some task always, so none means that there is no frame
then_none : (s : Script) (p : CpuNo) (x : Own) (o : Option Frame) → option_and_then (frame_task s p x) o ≡ None → o ≡ None
then_none s p x None h = refl
then_none s p x (Some f) h = let k = frame_has s p x f in absurd (no (frame_task s p x f) k h)
  where
    no : (o : Option Task) → Comes o → o ≡ None → ⊥
    no None k h = let e = k.1 in cc
    no (Some t) k h = cc

-- a processor with no innermost frame is at PASSIVE_LEVEL
level_none : (x : Own) → innermost x.frames ≡ None → level_at x ≡ 0
level_none x h = ap (λ (o : Option Frame). option_map_or (λ f. f.level) o 0) h

-- the event of a processor without frames and without what must be done is known
idle_known : (s : Script) (p : CpuNo) (x : Own) (l : Lanes) → must_task x ≡ None → innermost x.frames ≡ None →
    Holds (Known s p x l) (idle_event s (stand_in p x) l)
idle_known s p x l quiet none =
    let low : level_at x < 2 = let e = level_none x none in omega (arith, e) in
    holds_or (Known s p x l) (begin_first OrdinaryPart (queue_at l p)) (when (is_null (ready s p l)) (Some Rest)) (begin_known s p x l low)
    (λ e. holds_when (Known s p x l) (is_null (ready s p l)) (Some Rest)
    (λ h. record { quiet = quiet; none = none; empty = map_none (begin_dpc OrdinaryPart) (first_dpc OrdinaryPart (queue_at l p).pending) e; unready = h }))

-- the event of a processor's next task, if it comes, is known by the tests that chose it
pub task_known : (s : Script) (p : CpuNo) (x : Own) (l : Lanes) → Holds (Good s p x l) (task s p x)
task_known s p x l =
    holds_or (Good s p x l) (must_task x) _ (must_known s p x l)
    (λ e. holds_when (Good s p x l) (not (waits_for_lock x)) (go_on_task s p x)
    (λ q. holds_or (Good s p x l) (option_and_then (frame_task s p x) (innermost x.frames)) (idle_task x)
    (holds_then (Good s p x l) (frame_task s p x) (innermost x.frames)
    (λ f k. frame_known s p x l f (record { quiet = e; awake = not_true (waits_for_lock x) q; inner = k })))
    (λ k. holds_when (Good s p x l) (not (x.rested && is_none x.frames.running)) (Some (Shared IdleJob))
    (λ h. idle_known s p x l e (then_none s p x (innermost x.frames) k)))))

-- the next event of a processor is known
pub next_known : (s : Script) (p : CpuNo) (x : Own) (l : Lanes) → Holds (Known s p x l) (next_what s p x l)
next_known s p x l =
    holds_then (Known s p x l) (task_event s (stand_in p x) l) (task s p x) (λ t e. holds_at (Good s p x l) (task s p x) t (task_known s p x l) e)

-- a legal event but a Look or a Switch was the next one, and is known
pub legal_known : (s : Script) (limit : ℕ) (e : Event) (past : List Event) → IsLegal s limit e past → is_next e.what ≡ true →
    Known s e.cpu (own_of s e.cpu past) (lanes_at s past) e.what
legal_known s limit e past h n = go e.what refl n
  where
    next : (w : What) → e.what ≡ w → turn_at e.cpu w ≡ Next e.cpu → Known s e.cpu (own_of s e.cpu past) (lanes_at s past) w
    next w k t =
        let turn : Gives (step s limit (Next e.cpu) past) e = subst (λ (u : Turn). Gives (step s limit u past) e)
        (ap (λ (v : What). turn_at e.cpu v) k ∙ t) h in
        let g = next_gives s limit e.cpu past e turn in
        let same : g.0 ≡ w = ap (λ (f : Event). f.what) g.2 ∙ k in
        subst (Known s e.cpu (own_of s e.cpu past) (lanes_at s past)) same
        (holds_at (Known s e.cpu (own_of s e.cpu past) (lanes_at s past)) (next_what s e.cpu (own_of s e.cpu past) (lanes_at s past)) g.0
        (next_known s e.cpu (own_of s e.cpu past) (lanes_at s past)) g.1)

    go : (w : What) → e.what ≡ w → is_next w ≡ true → Known s e.cpu (own_of s e.cpu past) (lanes_at s past) w
    go (Look r) k n = cc
    go (Switch t st) k n = cc
    go w k n = next w k refl
