-- The laws over inserts, of every object: in a run of a script that fits, what an event names is declared.
use Rattle.std.specs.List.{Contains}
use Rattle.std.specs.Prelude.{List, false, is_some, length, true, ℕ, ◌<◌, ◌∷◌, ◌≡◌}
use Rattle.nt_event.specs.declared.commands.Command.TheVariants.{RemoveApc, Unqueue}
use Rattle.nt_event.specs.declared.commands.Reply.{Reply}
use Rattle.nt_event.specs.declared.events.Event.{Event}
use Rattle.nt_event.specs.declared.events.What.TheVariants.{Call}
use Rattle.nt_event.specs.declared.numbers.ApcNo.{ApcNo}
use Rattle.nt_event.specs.declared.numbers.DpcNo.{DpcNo}
use Rattle.nt_event.specs.declared.scripts.Script.{Script}
use Rattle.nt_event.specs.Apcs.{is_inserted}
use Rattle.nt_event.specs.Fate.{StillWaits, Thing, fate_of}
use Rattle.nt_event.specs.Objects.{standing}
use Rattle.nt_event.specs.Replies.{is_refused, yes_if}
use Rattle.nt_event.specs.Routines.{owner_of}
use Rattle.nt_event.specs.Script.{fits}
use Rattle.nt_event.specs.Step.{IsRun}
use Rattle.nt_event.specs.Waits.{facts}
use Rattle.nt_laws.specs.Fates.{delivers}

-- a removal that isn't refused answers yes exactly where its object is inserted, and else no; what is delivered is an
-- earlier insert that no event before began, removed or flushed, and that no earlier event delivered
pub record HoldsOfEveryObject (s : Script) (e : Event) (past : List Event) : Type 0 where
  pub unqueue : (f : ℕ) (d : DpcNo) (y : Reply) → e.what ≡ Call f (Unqueue d) y → is_refused y ≡ false → y
      ≡ yes_if (is_some (standing d past))
  pub unapc : (f : ℕ) (a : ApcNo) (y : Reply) → e.what ≡ Call f (RemoveApc a) y → is_refused y ≡ false → y
      ≡ yes_if (is_inserted a (facts s (owner_of s a) past).apcs)
  pub earlier : (thing : Thing) (n : ℕ) → delivers thing n e.what ≡ true → n < length past
  pub waits : (thing : Thing) (n : ℕ) → delivers thing n e.what ≡ true → fate_of thing n past ≡ StillWaits
  pub once : (thing : Thing) (n : ℕ) → delivers thing n e.what ≡ true → (f : Event) → Contains past f →
      delivers thing n f.what ≡ false

abbrev pub InsertsOfEveryObject : Type 0
InsertsOfEveryObject = (s : Script) (limit : ℕ) (e : Event) (past : List Event) → fits s ≡ true →
    IsRun s limit (e ∷ past) → HoldsOfEveryObject s e past
