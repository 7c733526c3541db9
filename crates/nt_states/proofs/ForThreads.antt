-- What the event of a job says of threads is so.
use Rattle.std.proofs.Common.{ap}
use Rattle.std.proofs.lemmas.Bool.{eqb-true}
use Rattle.std.specs.Prelude.{IfSome, IsSome, IsSomeAnd, IsTrue, None, Option, Some, is_some, option_map, refl, ℕ, ◌&&◌, ◌+◌, ◌==◌, ◌≡◌}
use Rattle.nt_event.specs.declared.commands.ApcKind.TheVariants.{User as UserApc}
use Rattle.nt_event.specs.declared.commands.Command.{Command}
use Rattle.nt_event.specs.declared.commands.Command.TheVariants.{Alert, Delay, InsertApc, Release, RemoveApc, StartWait, TestAlert, Yield}
use Rattle.nt_event.specs.declared.commands.Reply.{Reply}
use Rattle.nt_event.specs.declared.commands.Reply.TheVariants.{Done}
use Rattle.nt_event.specs.declared.commands.TimerKey.TheVariants.{Delay as OfDelay}
use Rattle.nt_event.specs.declared.events.Begun.TheVariants.{Apc}
use Rattle.nt_event.specs.declared.events.What.{What}
use Rattle.nt_event.specs.declared.events.What.TheVariants.{Begin, Call, End, Expire, Flush, Gone, Rewait, Switch}
use Rattle.nt_event.specs.declared.frames.Body.{Body}
use Rattle.nt_event.specs.declared.frames.Body.TheVariants.{Apc as OnApc, Base as OnBase}
use Rattle.nt_event.specs.declared.jobs.Stand.{Stand}
use Rattle.nt_event.specs.declared.numbers.ThreadNo.{ThreadNo}
use Rattle.nt_event.specs.Acting.{RunsThere, acted_event}
use Rattle.nt_event.specs.Commands.{is_reached}
use Rattle.nt_event.specs.Lanes.{facts_at, facts_of}
use Rattle.nt_event.specs.Routines.{cpu_of}
use Rattle.nt_event.specs.Script.{has_thread}
use Rattle.nt_event.specs.Threads.{ThreadFacts, is_alerted, is_ready}
use Rattle.nt_event.specs.Replies.{yes_if}
use Rattle.nt_event.proofs.Options.{both}
use Rattle.nt_states.specs.ThreadFits.{Begins, Delays, EndFits, Flushes, MayLeave, RunsHere, TakesUp, Waits, WhatFits}
use Rattle.nt_states.specs.AllStates.{AllStates, threads_of}
use Rattle.nt_states.specs.Allowed.{MayMake}
use Rattle.nt_event.specs.Fitting.{what_fits}
use Rattle.nt_states.proofs.Knowns.{KnownCall, KnownRewait, KnownSwitch, Knows, knows}

module _ (x : AllStates) (st : Stand) where
  -- what holds of the facts of the running thread
  in_thread : (P : ThreadFacts → Type 0) (r : Option ThreadNo) → IsSome r → P (facts_of x.lanes r) → IsSomeAnd r (λ t. P (facts_at x.lanes t))
  in_thread P None h k = absurd cc
  in_thread P (Some t) h k = k

  by_call : (f : ℕ) (c : Command) (y : Reply) → KnownCall x st c y → WhatFits (threads_of x) st (Call f c y)
  by_call f (StartWait m a) y k =
      in_thread (Waits st m a y) st.thread k.callable.thread (record { level = k.callable.level; reply = k.answer })
  by_call f (Delay m a units) y k =
      in_thread (Delays st m a y) st.thread k.callable.thread
      (record { level = k.callable.level; reached = is_reached x.lanes.timers.now (x.lanes.timers.now + units); reply = k.answer })
  by_call f (TestAlert m) y k =
      in_thread (λ facts. y ≡ yes_if (is_alerted m facts)) st.thread k.callable.thread k.answer
  by_call f Yield y k = in_thread (λ facts. y ≡ Done) st.thread k.callable.thread k.answer
  by_call f (Release u) y k = record { named = k.fits; facts = k.answer }
  by_call f (Alert u m) y k = record { named = k.fits; facts = k.answer }
  by_call f (InsertApc a) y k = record { apc = k.fits; reply = k.answer }
  by_call f (RemoveApc a) y k = record { apc = k.fits; reply = k.answer }
  by_call f c y k = tt

  switches : (t : ThreadNo) (status : Option ℕ) → KnownSwitch x st t status → WhatFits (threads_of x) st (Switch t status)
  switches t status k =
      let a = both (has_thread x.script t) (((cpu_of x.script t).0 == st.cpu.0) && is_ready (facts_at x.lanes t)) k.taken in
      let b = both ((cpu_of x.script t).0 == st.cpu.0) (is_ready (facts_at x.lanes t)) a.1 in
      record { named = a.0; own = ap (λ (n : ℕ). record { 0 = n }) (eqb-true (cpu_of x.script t).0 st.cpu.0 b.0); ready = b.1; ended = k.carried }

  same_kind : (o : Option ℕ) → is_some (option_map (is_reached x.lanes.timers.now) o) ≡ is_some o
  same_kind None = refl
  same_kind (Some due) = refl

  rewaits : (f : ℕ) (y : Reply) → KnownRewait x st y → WhatFits (threads_of x) st (Rewait f y)
  rewaits f y k =
      in_thread (TakesUp st y) st.thread k.runs (record {
        level = k.level;
        wait = k.wait;
        kept = k.again;
        reached = option_map (is_reached x.lanes.timers.now) k.wait.due;
        kind = same_kind k.wait.due;
        reply = k.answer;
      })

  ends : (b : Option Body) → IsSome st.thread → EndFits st b
  ends (Some (OnBase t)) h = h
  ends (Some (OnApc a UserApc)) h = h
  ends b h = tt

  -- what an event known from the states does is one that a job gives in the states of the threads
  pub fits : (w : What) → Knows x st w → IsTrue (what_fits x.script w) → WhatFits (threads_of x) st w
  fits (Call f c y) k h = by_call f c y k
  fits (Switch t status) k h = switches t status k
  fits (Rewait f y) k h = rewaits f y k
  fits (Begin (Apc a) from) k h =
      in_thread (Begins st a from) st.thread k.runs (record { pick = k.pick; due = k.first; apc = k.apc; number = k.number })
  fits (Flush a from) k h =
      in_thread (Flushes a from) st.thread k.runs (record { pick = k.pick; first = k.first; apc = k.apc; number = k.number })
  fits (Gone t) k h = record { runs = k.runs; flushed = k.none }
  fits (End f) k h = ends st.body k
  fits (Expire (OfDelay u) from) k h = h
  fits w k h = tt

  stands : (o : Option ThreadNo) → IfSome o (λ t. RunsThere x.script x.lanes st t) → IfSome o (RunsHere (threads_of x) st)
  stands None h = tt
  stands (Some t) h = record { named = h.named; own = h.own; runs = h.runs }

  -- an event that may be made in the whole states may be made in the states of the threads
  pub may_threads : (w : What) → MayMake x st w → MayLeave (threads_of x) st (acted_event st x.lanes w)
  may_threads w g =
      record { cpu = refl; thread = refl; stands = stands st.thread g.may.stands; what = fits w (knows x st w g) g.named }
