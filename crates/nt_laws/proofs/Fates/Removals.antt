-- In a run each removal tells whether its object was inserted just before it.
use Rattle.std.proofs.Common.{ap, ◌∙◌}
use Rattle.std.proofs.lemmas.Bool.{ltb-true}
use Rattle.std.specs.Prelude.{List, length, refl, true, ℕ, ◌∷◌, ◌≡◌}
use Rattle.nt_event.specs.declared.commands.Command.TheVariants.{RemoveApc, Unqueue}
use Rattle.nt_event.specs.declared.events.Event.{Event}
use Rattle.nt_event.specs.declared.events.What.{What}
use Rattle.nt_event.specs.declared.events.What.TheVariants.{Call}
use Rattle.nt_event.specs.declared.numbers.CpuNo.{CpuNo}
use Rattle.nt_event.specs.declared.numbers.DpcNo.{DpcNo}
use Rattle.nt_event.specs.declared.scripts.Script.{Script}
use Rattle.nt_event.specs.Apcs.{is_inserted}
use Rattle.nt_event.specs.Lanes.{lanes_at}
use Rattle.nt_event.specs.Objects.{ObjectState, is_queued, object_in, object_of, objects_at, start_object}
use Rattle.nt_event.specs.Own.{own_of}
use Rattle.nt_event.specs.Routines.{owner_of}
use Rattle.nt_event.specs.Script.{has_dpc}
use Rattle.nt_event.specs.Step.{IsRun}
use Rattle.nt_event.specs.Threads.{ThreadFacts}
use Rattle.nt_event.specs.Numbers.{dpc}
use Rattle.nt_event.specs.Replies.{yes_if}
use Rattle.nt_runs.proofs.Known.{Known, legal_known}
use Rattle.nt_runs.proofs.Stops.{call_accepted}
use Rattle.nt_event.proofs.Tables.{get_or-table}
use Rattle.nt_runs.proofs.Turns.{is_next}
use Rattle.nt_laws.specs.Fates.{RemovalTells}
use Rattle.nt_runs.proofs.Rundown.Steps.{facts_there}

-- the object listed for a declared DPC is that DPC's object in the history
pub object_there : (s : Script) (d : DpcNo) (past : List Event) → has_dpc s d ≡ true → object_in (objects_at s past) d ≡ object_of d past
object_there s d past h =
    get_or-table (length s.dpcs) d.0 (λ d. object_of (dpc d) past) start_object (ltb-true d.0 (length s.dpcs) h)

-- in a run a removal that its processor is known to make tells whether its object was inserted
tells : (s : Script) (limit : ℕ) (p : CpuNo) (past : List Event) (w : What) → (is_next w ≡ true → Known s p (own_of s p past) (lanes_at s past) w) →
    RemovalTells s w past
tells s limit p past (Call f (Unqueue d) y) k = λ has h.
    (call_accepted s p (own_of s p past) (lanes_at s past) f (Unqueue d) y (k refl) h).1
    ∙ ap (λ (o : ObjectState). yes_if (is_queued o)) (object_there s d past has)
tells s limit p past (Call f (RemoveApc a) y) k = λ has h.
    (call_accepted s p (own_of s p past) (lanes_at s past) f (RemoveApc a) y (k refl) h).1
    ∙ ap (λ (x : ThreadFacts). yes_if (is_inserted a x.apcs)) (facts_there s limit (owner_of s a) past has)
tells s limit p past w k = tt

-- in a run a removal that isn't refused answers yes exactly where its object was inserted
pub removals_tell : (s : Script) (limit : ℕ) (e : Event) (past : List Event) → IsRun s limit (e ∷ past) → RemovalTells s e.what past
removals_tell s limit e past r = tells s limit e.cpu past e.what (legal_known s limit e past r.0)
