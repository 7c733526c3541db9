-- What the event of a job is known by.
use Rattle.std.proofs.Common.{ap, inl, inr, ◌∙◌}
use Rattle.std.specs.Option.{option_or}
use Rattle.std.specs.Prelude.{IsSome, IsTrue, None, Option, Some, option_map, refl, true, unwrap_or, ℕ, ◌≡◌, ◌≤◌, ◌⊎◌}
use Rattle.nt_event.specs.declared.commands.Command.{Command}
use Rattle.nt_event.specs.declared.commands.Command.TheVariants.{Queue, ToUser}
use Rattle.nt_event.specs.declared.commands.Reply.{Reply}
use Rattle.nt_event.specs.declared.commands.Reply.TheVariants.{Done}
use Rattle.nt_event.specs.declared.commands.TimerKey.{TimerKey}
use Rattle.nt_event.specs.declared.events.Begun.TheVariants.{Apc, Dpc, Threaded}
use Rattle.nt_event.specs.declared.events.What.{What}
use Rattle.nt_event.specs.declared.events.What.TheVariants.{Begin, Call, Clean, End, Expire, Fire, Flush, Free, Gone, Rest, Rewait, Switch}
use Rattle.nt_event.specs.declared.frames.Again.{Again}
use Rattle.nt_event.specs.declared.inserts.Part.{Part}
use Rattle.nt_event.specs.declared.inserts.Part.TheVariants.{Ordinary as OrdinaryPart, Threaded as ThreadedPart}
use Rattle.nt_event.specs.declared.inserts.Pick.{Pick}
use Rattle.nt_event.specs.declared.jobs.Job.{Job}
use Rattle.nt_event.specs.declared.jobs.Job.TheVariants.{Apcs as ApcsJob, Call as CallJob, Drain as DrainJob, Fire as FireJob, Free as FreeJob, Idle as IdleJob}
use Rattle.nt_event.specs.declared.jobs.Job.TheVariants.{Leave as LeaveJob, Pick as PickJob, Rewait as RewaitJob, Rundown as RundownJob, Switch as SwitchJob}
use Rattle.nt_event.specs.declared.jobs.Job.TheVariants.{Threaded as ThreadedJob, ToUser as ToUserJob, UserEnd as UserEndJob}
use Rattle.nt_event.specs.declared.jobs.Stand.{Stand}
use Rattle.nt_event.specs.declared.numbers.ApcNo.{ApcNo}
use Rattle.nt_event.specs.declared.numbers.DpcNo.{DpcNo}
use Rattle.nt_event.specs.declared.numbers.ThreadNo.{ThreadNo}
use Rattle.nt_event.specs.Acting.{IsAllowed, IsCallable}
use Rattle.nt_event.specs.Apcs.{deliverable, first_user}
use Rattle.nt_event.specs.Commands.{reply}
use Rattle.nt_event.specs.Jobs.{begin_apc, begin_dpc, begin_first, expire_key, idle_event, job_event, may_take, next_ready, ready, rewait_reply, rundown_event}
use Rattle.nt_event.specs.Jobs.{switch_event, user_due}
use Rattle.nt_event.specs.Lanes.{facts_at, facts_of, queue_at}
use Rattle.nt_event.specs.Queues.{first_dpc}
use Rattle.nt_event.specs.Script.{command_fits, has_dpc, has_lock}
use Rattle.nt_event.specs.Threads.{ended_status}
use Rattle.nt_event.specs.Timers.{SetKey, first_due}
use Rattle.nt_event.specs.Lists.{is_null, when}
use Rattle.nt_event.proofs.Options.{Holds, holds_at, holds_else, holds_map, holds_or, holds_when, when_gives}
use Rattle.nt_event.proofs.Ready.{next_ready_taken}
use Rattle.nt_event.specs.Acts.{job_fits}
use Rattle.nt_timer.specs.Settings.{due_entry}
use Rattle.nt_states.specs.AllStates.{AllStates}
use Rattle.nt_states.specs.Allowed.{MayMake}

pub record KnownCall (x : AllStates) (st : Stand) (c : Command) (y : Reply) : Type 0 where
  pub answer : y ≡ reply x.script st x.lanes c
  pub fits : IsTrue (command_fits x.script c)
  pub callable : IsCallable st c

pub record KnownFire (x : AllStates) (st : Stand) (d : DpcNo) (y : Reply) : Type 0 where
  pub answer : y ≡ reply x.script st x.lanes (Queue d)
  pub fits : IsTrue (has_dpc x.script d)

pub record KnownApc (x : AllStates) (st : Stand) (a : ApcNo) (from : ℕ) : Type 0 where
  pub runs : IsSome st.thread
  pub pick : Pick
  pub first : (deliverable (facts_of x.lanes st.thread).apcs st.regions st.level ≡ Some pick) ⊎ (user_due (facts_of x.lanes st.thread) ≡ Some pick)
  pub apc : pick.apc ≡ a
  pub number : pick.number ≡ from

pub record KnownFlush (x : AllStates) (st : Stand) (a : ApcNo) (from : ℕ) : Type 0 where
  pub runs : IsSome st.thread
  pub pick : Pick
  pub first : first_user (facts_of x.lanes st.thread).apcs ≡ Some pick
  pub apc : pick.apc ≡ a
  pub number : pick.number ≡ from

pub record KnownGone (x : AllStates) (st : Stand) (t : ThreadNo) : Type 0 where
  pub runs : st.thread ≡ Some t
  pub none : first_user (facts_at x.lanes t).apcs ≡ None

pub record KnownSwitch (x : AllStates) (st : Stand) (t : ThreadNo) (status : Option ℕ) : Type 0 where
  pub taken : may_take x.script st.cpu t x.lanes ≡ true
  pub carried : status ≡ ended_status (facts_at x.lanes t)

pub record KnownRewait (x : AllStates) (st : Stand) (y : Reply) : Type 0 where
  pub wait : Again
  pub again : st.again ≡ Some wait
  pub runs : IsSome st.thread
  pub level : st.level ≤ 1
  pub answer : y ≡ rewait_reply st x.lanes wait

abbrev pub Knows : AllStates → Stand → What → Type 0
Knows x st (Call f c y) = KnownCall x st c y
Knows x st (Fire d y) = KnownFire x st d y
Knows x st (Begin (Dpc d) from) = begin_first OrdinaryPart (queue_at x.lanes st.cpu) ≡ Some (Begin (Dpc d) from)
Knows x st (Begin (Threaded d) from) = begin_first ThreadedPart (queue_at x.lanes st.cpu) ≡ Some (Begin (Threaded d) from)
Knows x st (Begin (Apc a) from) = KnownApc x st a from
Knows x st (Flush a from) = KnownFlush x st a from
Knows x st (Gone t) = KnownGone x st t
Knows x st (Switch t status) = KnownSwitch x st t status
Knows x st (Rewait f y) = KnownRewait x st y
Knows x st (End f) = IsSome st.thread
Knows x st (Expire key from) = option_map (λ k. k.0) (due_entry x.lanes.timers) ≡ Some key
Knows x st (Free f k) = IsTrue (has_lock x.script k)
Knows x st w = Unit {0}

-- ---- by the job

module _ (x : AllStates) (st : Stand) where
  begins : (part : Part) → Holds (Knows x st) (begin_first part (queue_at x.lanes st.cpu))
  begins OrdinaryPart =
      holds_map (Knows x st) (begin_dpc OrdinaryPart) (first_dpc OrdinaryPart (queue_at x.lanes st.cpu).pending)
      (λ i e. ap (λ (o : Option _). option_map (begin_dpc OrdinaryPart) o) e)
  begins ThreadedPart =
      holds_map (Knows x st) (begin_dpc ThreadedPart) (first_dpc ThreadedPart (queue_at x.lanes st.cpu).pending)
      (λ i e. ap (λ (o : Option _). option_map (begin_dpc ThreadedPart) o) e)

  expires : Holds (Knows x st) (option_map expire_key (when st.sweep (first_due x.lanes.timers)))
  expires =
      holds_map (Knows x st) expire_key (when st.sweep (first_due x.lanes.timers))
      (λ k e. let w = when_gives st.sweep (first_due x.lanes.timers) k e in
      ap (λ (o : Option SetKey). option_map (λ (k : TimerKey × ℕ). k.0) (option_map (λ (k : SetKey). (k.key, k.setting.number)) o)) w.1)

  drains : Knows x st (unwrap_or (option_or (option_map expire_key (when st.sweep (first_due x.lanes.timers)))
      (begin_first OrdinaryPart (queue_at x.lanes st.cpu))) (Clean 2))
  drains =
      holds_else (Knows x st) (option_or (option_map expire_key (when st.sweep (first_due x.lanes.timers)))
      (begin_first OrdinaryPart (queue_at x.lanes st.cpu))) (Clean 2)
      (holds_or (Knows x st) (option_map expire_key (when st.sweep (first_due x.lanes.timers)))
      (begin_first OrdinaryPart (queue_at x.lanes st.cpu)) expires (λ e. begins OrdinaryPart)) (λ e. tt)

  delivered : IsSome st.thread → Holds (Knows x st) (option_map begin_apc (deliverable (facts_of x.lanes st.thread).apcs st.regions st.level))
  delivered h =
      holds_map (Knows x st) begin_apc (deliverable (facts_of x.lanes st.thread).apcs st.regions st.level)
      (λ k e. record { runs = h; pick = k; first = inl e; apc = refl; number = refl })

  to_user : IsSome st.thread → Holds (Knows x st) (option_map begin_apc (user_due (facts_of x.lanes st.thread)))
  to_user h =
      holds_map (Knows x st) begin_apc (user_due (facts_of x.lanes st.thread)) (λ k e. record { runs = h; pick = k; first = inr e; apc = refl; number = refl })

  map_none : {A B : Type 0} (f : A → B) (o : Option A) → option_map f o ≡ None → o ≡ None
  map_none f None h = refl
  map_none f (Some y) h = cc

  runs_down : (t : ThreadNo) → st.thread ≡ Some t → Knows x st (rundown_event x.lanes t)
  runs_down t h =
      holds_else (Knows x st) (option_map (λ k. Flush k.apc k.number) (first_user (facts_at x.lanes t).apcs)) (Gone t)
      (holds_map (Knows x st) (λ k. Flush k.apc k.number) (first_user (facts_at x.lanes t).apcs)
      (λ k e. record {
        runs = rw h refl;
        pick = k;
        first = ap (λ (o : Option ThreadNo). first_user (facts_of x.lanes o).apcs) h ∙ e;
        apc = refl;
        number = refl;
      })) (λ e. record { runs = h; none = map_none (λ k. Flush k.apc k.number) (first_user (facts_at x.lanes t).apcs) e })

  idles : Holds (Knows x st) (idle_event x.script st x.lanes)
  idles =
      holds_or (Knows x st) (begin_first OrdinaryPart (queue_at x.lanes st.cpu)) (when (is_null (ready x.script st.cpu x.lanes)) (Some Rest))
      (begins OrdinaryPart) (λ e. holds_when (Knows x st) (is_null (ready x.script st.cpu x.lanes)) (Some Rest) (λ h. tt))

  picks : (last : Option ThreadNo) → Holds (Knows x st) (job_event x.script st x.lanes (PickJob last))
  picks last =
      holds_or (Knows x st) (option_map (λ t. switch_event t x.lanes) (next_ready x.script st.cpu last x.lanes)) (idle_event x.script st x.lanes)
      (holds_map (Knows x st) (λ t. switch_event t x.lanes) (next_ready x.script st.cpu last x.lanes)
      (λ t e. record {
        taken = holds_at (λ t. may_take x.script st.cpu t x.lanes ≡ true) (next_ready x.script st.cpu last x.lanes) t
            (next_ready_taken x.script st.cpu last x.lanes) e;
        carried = refl;
      })) (λ e. idles)

  of_job : (j : Job) → IsTrue (job_fits x.script j) → IsAllowed x.lanes st j → Holds (Knows x st) (job_event x.script st x.lanes j)
  of_job (CallJob c) h a = record { answer = refl; fits = h; callable = a.1 }
  of_job (FireJob d) h a = record { answer = refl; fits = h }
  of_job (FreeJob k) h a = h
  of_job DrainJob h a = drains
  of_job ApcsJob h a =
      holds_else (Knows x st) (option_map begin_apc (deliverable (facts_of x.lanes st.thread).apcs st.regions st.level)) (Clean 1) (delivered a.thread)
      (λ e. tt)
  of_job ThreadedJob h a =
      holds_else (Knows x st) (begin_first ThreadedPart (queue_at x.lanes st.cpu)) (Clean 0) (begins ThreadedPart) (λ e. tt)
  of_job IdleJob h a = idles
  of_job (PickJob last) h a = picks last
  of_job (SwitchJob t) h a =
      holds_when (Knows x st) (may_take x.script st.cpu t x.lanes) (Some (switch_event t x.lanes)) (λ k. record { taken = k; carried = refl })
  of_job RewaitJob h a =
      holds_map (Knows x st) (λ w. Rewait st.frame (rewait_reply st x.lanes w)) st.again
      (λ w e. record { wait = w; again = e; runs = a.thread; level = a.level; answer = refl })
  of_job ToUserJob h a =
      holds_else (Knows x st) (option_map begin_apc (user_due (facts_of x.lanes st.thread))) (Call st.frame ToUser Done) (to_user a.thread)
      (λ e. record { answer = refl; fits = refl; callable = tt })
  of_job UserEndJob h a = a
  of_job LeaveJob h a = a
  of_job RundownJob h a = holds_map (Knows x st) (rundown_event x.lanes) st.thread (λ t e. runs_down t e)

-- the event of a job is known: of one that fits and is allowed, wherever the processor's thread is
pub knows_job : (x : AllStates) (st : Stand) (w : What) (j : Job) → IsTrue (job_fits x.script j) → IsAllowed x.lanes st j →
    job_event x.script st x.lanes j ≡ Some w → Knows x st w
knows_job x st w j h a e =
    holds_at (Knows x st) (job_event x.script st x.lanes j) w (of_job x st j h a) e

-- the event of one that may be done
pub knows : (x : AllStates) (st : Stand) (w : What) → MayMake x st w → Knows x st w
knows x st w g = knows_job x st w g.job g.may.job g.may.allowed g.gives
