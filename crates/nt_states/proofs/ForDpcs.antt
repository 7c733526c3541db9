-- What the event of a job says of objects and queues is so.
use Rattle.std.specs.Prelude.{IfSome, IsTrue, None, Option, Some, true, ℕ, ◌≡◌}
use Rattle.nt_event.specs.declared.commands.Command.{Command}
use Rattle.nt_event.specs.declared.commands.Command.TheVariants.{Queue, SetImportance, SetTarget, Unqueue}
use Rattle.nt_event.specs.declared.commands.Reply.{Reply}
use Rattle.nt_event.specs.declared.events.Begun.TheVariants.{Apc, Dpc, Int, Threaded}
use Rattle.nt_event.specs.declared.events.What.{What}
use Rattle.nt_event.specs.declared.events.What.TheVariants.{Begin, Call, Fire}
use Rattle.nt_event.specs.declared.jobs.Stand.{Stand}
use Rattle.nt_event.specs.declared.numbers.CpuNo.{CpuNo}
use Rattle.nt_event.specs.Script.{has_cpu, has_dpc, where_given}
use Rattle.nt_event.proofs.Options.{both}
use Rattle.nt_states.specs.DpcLanes.{MayLeave}
use Rattle.nt_states.specs.AllStates.{AllStates, dpcs_of}
use Rattle.nt_states.proofs.Knowns.{KnownCall, Knows}

module _ (x : AllStates) (st : Stand) where
  given : (o : Option CpuNo) → where_given (has_cpu x.script) o ≡ true → IfSome o (λ p. IsTrue (has_cpu x.script p))
  given None h = tt
  given (Some p) h = h

  by_call : (f : ℕ) (c : Command) (y : Reply) → KnownCall x st c y → MayLeave (dpcs_of x) st.cpu (Call f c y)
  by_call f (Queue d) y k = record { object = k.fits; reply = k.answer }
  by_call f (Unqueue d) y k = record { object = k.fits; reply = k.answer }
  by_call f (SetImportance d i) y k = record { object = k.fits; reply = k.answer }
  by_call f (SetTarget d t) y k =
      let a = both (has_dpc x.script d) (where_given (has_cpu x.script) t) k.fits in
      (record { object = a.0; reply = k.answer }, given t a.1)
  by_call f c y k = tt

  -- what an event known from the states says of DPC objects and queues is so
  pub may_dpcs : (w : What) → Knows x st w → MayLeave (dpcs_of x) st.cpu w
  may_dpcs (Call f c y) k = by_call f c y k
  may_dpcs (Fire d y) k = record { object = k.fits; reply = k.answer }
  may_dpcs (Begin (Dpc d) from) k = k
  may_dpcs (Begin (Threaded d) from) k = k
  may_dpcs (Begin (Int level) from) k = tt
  may_dpcs (Begin (Apc a) from) k = tt
  may_dpcs w k = tt
