-- In a run of a script that fits, the objects that an event delivers or removes are declared, so the laws over inserts hold of each.
use Rattle.std.proofs.Common.{subst}
use Rattle.std.proofs.lemmas.Bool.{eqb-true}
use Rattle.std.specs.Prelude.{List, refl, true, ℕ, ◌&&◌, ◌==◌, ◌∷◌, ◌≡◌}
use Rattle.nt_event.specs.declared.events.Begun.TheVariants.{Dpc, Threaded}
use Rattle.nt_event.specs.declared.events.Event.{Event}
use Rattle.nt_event.specs.declared.events.What.{What}
use Rattle.nt_event.specs.declared.events.What.TheVariants.{Begin}
use Rattle.nt_event.specs.declared.numbers.DpcNo.{DpcNo}
use Rattle.nt_event.specs.declared.scripts.Script.{Script}
use Rattle.nt_event.specs.Fate.{ApcThing, DpcThing, Thing}
use Rattle.nt_event.specs.Fitting.{what_fits}
use Rattle.nt_event.specs.Script.{fits, has_dpc}
use Rattle.nt_event.specs.Step.{IsRun}
use Rattle.nt_event.proofs.Options.{both}
use Rattle.nt_laws.specs.Fates.{RemovalTells, delivers, is_declared}
use Rattle.nt_laws.specs.Objects.{HoldsOfEveryObject}
use Rattle.nt_laws.proofs.Fates.Once.{delivered_inserts_wait, no_insert_is_delivered_twice}
use Rattle.nt_laws.proofs.Fates.Owners.{apcs_have_their_threads}
use Rattle.nt_laws.proofs.Fates.Removals.{removals_tell}
use Rattle.nt_laws.proofs.Named.EventsFit.{events_of_a_run_fit}

-- a DPC with the number of a declared one is declared
named_dpc : (s : Script) (d x : DpcNo) (n from : ℕ) → has_dpc s x ≡ true → ((x.0 == d.0) && (from == n)) ≡ true → has_dpc s d ≡ true
named_dpc s d x n from h k =
    let same : x.0 ≡ d.0 = eqb-true x.0 d.0 (both (x.0 == d.0) (from == n) k).0 in
    subst (λ (k : ℕ). has_dpc s (record { 0 = k }) ≡ true) same h

-- what an event that fits delivers is declared
delivered_declared : (s : Script) (thing : Thing) (n : ℕ) (w : What) → what_fits s w ≡ true → delivers thing n w ≡ true → is_declared s thing ≡ true
delivered_declared s (DpcThing d) n (Begin (Dpc x) from) h k = named_dpc s d x n from h k
delivered_declared s (DpcThing d) n (Begin (Threaded x) from) h k = named_dpc s d x n from h k
delivered_declared s (DpcThing d) n w h k = cc
delivered_declared s (ApcThing a) n w h k = refl

-- in a run of a script that fits, the laws over inserts hold of every object that an event names
pub holds_of_every_object : (s : Script) (limit : ℕ) (e : Event) (past : List Event) → fits s ≡ true → IsRun s limit (e ∷ past) → HoldsOfEveryObject s e past
holds_of_every_object s limit e past h r =
    record {
      unqueue = λ f d y k. subst (λ (w : What). RemovalTells s w past) k tells (subst (λ (w : What). what_fits s w ≡ true) k named);
      unapc = λ f a y k. subst (λ (w : What). RemovalTells s w past) k tells
          (apcs_have_their_threads s a h (subst (λ (w : What). what_fits s w ≡ true) k named));
      earlier = λ thing n d. (delivered_inserts_wait s limit e past thing n r (declared thing n d) d).0;
      waits = λ thing n d. (delivered_inserts_wait s limit e past thing n r (declared thing n d) d).1;
      once = λ thing n d. no_insert_is_delivered_twice s limit e past thing n r (declared thing n d) d;
    }
  where
    named : what_fits s e.what ≡ true
    named = (events_of_a_run_fit s limit (e ∷ past) h r).0.what

    tells : RemovalTells s e.what past
    tells = removals_tell s limit e past r

    declared : (thing : Thing) (n : ℕ) → delivers thing n e.what ≡ true → is_declared s thing ≡ true
    declared thing n d = delivered_declared s thing n e.what named d
