-- What the event of a job says of the timers is so.
use Rattle.std.proofs.Common.{ap, arith, sym, ◌∙◌}
use Rattle.std.proofs.lemmas.Bool.{eq-eqb, ltb-true}
use Rattle.std.specs.Prelude.{IfSome, IsTrue, None, Option, Some, length, refl, ℕ, ◌<◌, ◌≡◌}
use Rattle.nt_event.specs.declared.commands.Command.{Command}
use Rattle.nt_event.specs.declared.commands.Command.TheVariants.{Delay, SetTimer}
use Rattle.nt_event.specs.declared.commands.Reply.{Reply}
use Rattle.nt_event.specs.declared.commands.Reply.TheVariants.{Blocked}
use Rattle.nt_event.specs.declared.events.Event.{Event}
use Rattle.nt_event.specs.declared.events.What.{What}
use Rattle.nt_event.specs.declared.events.What.TheVariants.{Call, Expire, Rewait}
use Rattle.nt_event.specs.declared.jobs.Stand.{Stand}
use Rattle.nt_event.specs.declared.numbers.CpuNo.{CpuNo}
use Rattle.nt_event.specs.declared.numbers.ThreadNo.{ThreadNo}
use Rattle.nt_event.specs.Acting.{acted_event}
use Rattle.nt_event.specs.Routines.{cpu_of}
use Rattle.nt_event.specs.Script.{has_thread}
use Rattle.nt_event.specs.Acts.{StandFits}
use Rattle.nt_states.specs.Given.{RunsOwn}
use Rattle.nt_states.specs.AllStates.{AllStates}
use Rattle.nt_states.specs.Allowed.{MayMake}
use Rattle.nt_states.specs.Sound.{IsSound}
use Rattle.nt_states.specs.Timed.{CallMayTime, IsMaker, MayTime}
use Rattle.nt_states.proofs.Decidable.{own}
use Rattle.nt_states.proofs.Knowns.{KnownCall, Knows, knows}

module _ (x : AllStates) (st : Stand) (sound : IsSound x) where
  makes : (e : Event) (o : Option ThreadNo) → e.cpu ≡ st.cpu → e.thread ≡ o → IfSome o (λ t. IsTrue (has_thread x.script t)) →
      IfSome o (λ t. cpu_of x.script t ≡ st.cpu) → IfSome o (IsMaker x.script x.lanes.timers e)
  makes e None p r n h = tt
  makes e (Some t) p r n h =
      let own : e.cpu.0 ≡ (cpu_of x.script t).0 = ap (λ (q : CpuNo). q.0) p ∙ sym (ap (λ (q : CpuNo). q.0) h) in
      let size = sound.timers.delays in
      let named : t.0 < length x.script.threads = ltb-true t.0 (length x.script.threads) n in
      record { made = record { thread = r; cpu = eq-eqb e.cpu.0 (cpu_of x.script t).0 own }; named = omega (arith, size, named) }

  by_call : (f : ℕ) (c : Command) (y : Reply) → StandFits x.script st → RunsOwn x.script st → KnownCall x st c y →
      CallMayTime x.script x.lanes.timers (acted_event st x.lanes (Call f c y)) c y
  by_call f (SetTimer t due period) y n h k =
      let below : t.0 < length x.script.timers = ltb-true t.0 (length x.script.timers) k.fits in
      let size = sound.timers.timers in omega (arith, size, below)
  by_call f (Delay m a units) Blocked n h k =
      makes (acted_event st x.lanes (Call f (Delay m a units) Blocked)) st.thread refl refl n.thread h
  by_call f c y n h k = tt

  -- of an event that is known, of a processor whose thread is the script's and its own: nothing is asked of the threads' states
  pub of_what : (w : What) → StandFits x.script st → RunsOwn x.script st → Knows x st w →
      MayTime x.script x.lanes.timers (acted_event st x.lanes w) w
  of_what (Call f c y) n h k = by_call f c y n h k
  of_what (Rewait f Blocked) n h k = makes (acted_event st x.lanes (Rewait f Blocked)) st.thread refl refl n.thread h
  of_what (Expire key from) n h k = k
  of_what w n h k = tt

  -- an event that may be made in sound states may be made in the states of the timers
  pub may_timers : (w : What) → MayMake x st w → MayTime x.script x.lanes.timers (acted_event st x.lanes w) w
  may_timers w g = of_what w g.may.stand (own x st st.thread g.may.stands) (knows x st w g)
