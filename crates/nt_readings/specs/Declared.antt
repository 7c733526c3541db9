-- In a script that fits, the laws over inserts hold of every object.
use Rattle.std.specs.Prelude.{List, true, ℕ, ◌∷◌, ◌↔◌, ◌≡◌}
use Rattle.nt_event.specs.declared.commands.Command.{Command}
use Rattle.nt_event.specs.declared.commands.Reply.{Reply}
use Rattle.nt_event.specs.declared.events.Event.{Event}
use Rattle.nt_event.specs.declared.events.What.TheVariants.{Call}
use Rattle.nt_event.specs.declared.numbers.ApcNo.{ApcNo}
use Rattle.nt_event.specs.declared.numbers.CpuNo.{CpuNo}
use Rattle.nt_event.specs.declared.numbers.DpcNo.{DpcNo}
use Rattle.nt_event.specs.declared.numbers.ThreadNo.{ThreadNo}
use Rattle.nt_event.specs.declared.scripts.Script.{Script}
use Rattle.nt_event.specs.Fate.{ApcThing, DpcThing, StillWaits, Thing, fate_of}
use Rattle.nt_event.specs.Routines.{owner_of}
use Rattle.nt_event.specs.Script.{command_fits, fits}
use Rattle.nt_event.specs.Step.{IsRun}
use Rattle.nt_laws.specs.Fates.{ApcIsPending, DpcIsPending}
use Rattle.nt_readings.specs.Inserts.{IsApcInsertedAt, IsInsertedAt, NoneUsesUp}
use Rattle.nt_readings.specs.Fates.{IsInsert, IsPending, is_known}

-- in a run of a script that fits, each command that is called names things of the script
abbrev pub CallsFit : Type 0
CallsFit = (s : Script) (limit : ℕ) (e : Event) (past : List Event) (f : ℕ) (c : Command) (y : Reply) →
    IsRun s limit (e ∷ past) → fits s ≡ true → e.what ≡ Call f c y → command_fits s c ≡ true

-- of every object: each insert's object, or its thread, is one of the script; what is pending was inserted and not used
-- up, and waits; and an object has at most one pending insert
pub record HoldsOfEach (s : Script) (past : List Event) : Type 0 where
  pub known : (thing : Thing) (n : ℕ) → IsInsert thing n past → is_known s thing ≡ true
  pub dpcs : (p : CpuNo) (d : DpcNo) (n : ℕ) →
      DpcIsPending s p d n past ↔ (IsInsertedAt p d n past × NoneUsesUp (DpcThing d) n past)
  pub apcs : (a : ApcNo) (n : ℕ) → ApcIsPending s (owner_of s a) a n past ↔
      (IsApcInsertedAt a n past × NoneUsesUp (ApcThing a) n past)
  pub waiting : (thing : Thing) (n : ℕ) → (IsInsert thing n past ×
      (fate_of thing n past ≡ StillWaits)) ↔ IsPending s thing n past
  pub one_dpc : (d : DpcNo) (p q : CpuNo) (n m : ℕ) → DpcIsPending s p d n past → DpcIsPending s q d m past →
      (p.0 ≡ q.0) × (n ≡ m)
  pub one_apc : (a : ApcNo) (t u : ThreadNo) (n m : ℕ) → ApcIsPending s t a n past → ApcIsPending s u a m past →
      (t.0 ≡ u.0) × (n ≡ m)

-- in a run of a script that fits this holds of every object
abbrev pub InsertsOfFittingScripts : Type 0
InsertsOfFittingScripts = (s : Script) (limit : ℕ) (past : List Event) → IsRun s limit past → fits s ≡ true →
    HoldsOfEach s past
