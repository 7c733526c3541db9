-- In a run no insert is delivered twice.
use Rattle.std.proofs.Common.{ap, inl, inr, subst, sym, ◌∙◌}
use Rattle.std.proofs.lemmas.Bool.{eqb-true, lt-ltb}
use Rattle.std.specs.List.{Contains}
use Rattle.std.specs.Prelude.{Bool, List, [], false, if◌then◌else◌, length, nat_lt, refl, true, ℕ, ◌&&◌, ◌==◌, ◌∷◌, ◌≡◌}
use Rattle.nt_event.specs.declared.events.Begun.TheVariants.{Apc, Dpc, Threaded}
use Rattle.nt_event.specs.declared.events.Event.{Event}
use Rattle.nt_event.specs.declared.events.What.{What}
use Rattle.nt_event.specs.declared.events.What.TheVariants.{Begin, Flush}
use Rattle.nt_event.specs.declared.numbers.ApcNo.{ApcNo}
use Rattle.nt_event.specs.declared.numbers.CpuNo.{CpuNo}
use Rattle.nt_event.specs.declared.numbers.DpcNo.{DpcNo}
use Rattle.nt_event.specs.declared.scripts.Script.{Script}
use Rattle.nt_event.specs.Fate.{ApcThing, BegunBy, DpcThing, Fate, FlushedBy, RemovedBy, StillWaits, Thing, fate_by, fate_of, first_fate, uses_up}
use Rattle.nt_event.specs.Routines.{owner_of}
use Rattle.nt_event.specs.Script.{has_dpc}
use Rattle.nt_event.specs.Step.{IsRun}
use Rattle.nt_event.proofs.Options.{both}
use Rattle.nt_laws.specs.Fates.{ApcIsPending, DpcIsPending, NamesPending, delivers, is_declared}
use Rattle.nt_laws.proofs.Fates.Agree.{pending_stands}
use Rattle.nt_laws.proofs.Fates.Deliveries.{deliveries_name_pending_inserts}
use Rattle.nt_event.proofs.Elements.{contains_cases, contains_none}
use Rattle.nt_laws.proofs.Fates.Waiting.{Waits, picks_wait, standing_waits}

-- a pending insert is an earlier one that waits
pub dpc_waits : (s : Script) (limit : ℕ) (d : DpcNo) (past : List Event) → IsRun s limit past → has_dpc s d ≡ true → (p : CpuNo) (n : ℕ) →
    DpcIsPending s p d n past → Waits (DpcThing d) n past
dpc_waits s limit d past r has p n k =
    let a = pending_stands s limit d past r has p n k in
    subst (λ (n : ℕ). Waits (DpcThing d) n past) a.3 (standing_waits d past a.0 a.1)

-- in a run an APC insert that is pending at its thread waits
pub apc_waits : (s : Script) (limit : ℕ) (a : ApcNo) (past : List Event) → IsRun s limit past → (n : ℕ) → ApcIsPending s (owner_of s a) a n past →
    Waits (ApcThing a) n past
apc_waits s limit a past r n k =
    subst (λ (n : ℕ). Waits (ApcThing a) n past) k.3 (picks_wait s limit a past k.0 r k.1 k.2)

-- in a run a DPC insert that is pending in a queue waits
dpc_at : (s : Script) (limit : ℕ) (d x : DpcNo) (past : List Event) (p : CpuNo) (n from : ℕ) → IsRun s limit past → has_dpc s d ≡ true →
    DpcIsPending s p x from past → ((x.0 == d.0) && (from == n)) ≡ true → Waits (DpcThing d) n past
dpc_at s limit d x past p n from r has k h =
    let w = both (x.0 == d.0) (from == n) h in
    let same : x ≡ d = ap (λ (n : ℕ). record { 0 = n }) (eqb-true x.0 d.0 w.0) in
    dpc_waits s limit d past r has p n (k.0, k.1, k.2 ∙ same, k.3 ∙ eqb-true from n w.1)

-- in a run a pending APC insert that a test tells to be the APC's with the number waits
apc_at : (s : Script) (limit : ℕ) (a x : ApcNo) (past : List Event) (n from : ℕ) → IsRun s limit past → ApcIsPending s (owner_of s x) x from past →
    ((x.0 == a.0) && (from == n)) ≡ true → Waits (ApcThing a) n past
apc_at s limit a x past n from r k h =
    let w = both (x.0 == a.0) (from == n) h in
    let same : x ≡ a = ap (λ (n : ℕ). record { 0 = n }) (eqb-true x.0 a.0 w.0) in
    subst (λ (n : ℕ). Waits (ApcThing a) n past) (eqb-true from n w.1)
    (subst (λ (a : ApcNo). Waits (ApcThing a) from past) same (apc_waits s limit x past r from k))

-- anything follows if false is true
never : {A : Type 0} → false ≡ true → A
never h = cc

-- in a run an insert that an event delivers, and names as pending, waits just before it
waiting : (s : Script) (limit : ℕ) (p : CpuNo) (past : List Event) (w : What) (thing : Thing) (n : ℕ) → IsRun s limit past → NamesPending s p w past →
    is_declared s thing ≡ true → delivers thing n w ≡ true → Waits thing n past
waiting s limit p past (Begin (Dpc x) from) (DpcThing d) n r k has h = dpc_at s limit d x past p n from r has k h
waiting s limit p past (Begin (Threaded x) from) (DpcThing d) n r k has h = dpc_at s limit d x past p n from r has k h
waiting s limit p past (Begin (Apc x) from) (ApcThing a) n r k has h = apc_at s limit a x past n from r k.1 h
waiting s limit p past (Flush x from) (ApcThing a) n r k has h = apc_at s limit a x past n from r k.1 h
waiting s limit p past w (DpcThing d) n r k has h = never h
waiting s limit p past w (ApcThing a) n r k has h = never h

-- in a run the insert that an event delivers was waiting just before it
pub delivered_inserts_wait : (s : Script) (limit : ℕ) (e : Event) (past : List Event) (thing : Thing) (n : ℕ) → IsRun s limit (e ∷ past) → is_declared s thing
    ≡ true → delivers thing n e.what ≡ true → Waits thing n past
delivered_inserts_wait s limit e past thing n r has h =
    waiting s limit e.cpu past e.what thing n r.1 (deliveries_name_pending_inserts s limit e past r) has h

-- ---- a delivery uses up what it delivers

-- what delivers an insert uses it up
delivers_uses : (thing : Thing) (n : ℕ) (w : What) → delivers thing n w ≡ true → uses_up thing n w ≡ true
delivers_uses (DpcThing d) n (Begin (Dpc x) from) h = h
delivers_uses (DpcThing d) n (Begin (Threaded x) from) h = h
delivers_uses (ApcThing a) n (Begin (Apc x) from) h = h
delivers_uses (ApcThing a) n (Flush x from) h = h
delivers_uses (DpcThing d) n w h = never h
delivers_uses (ApcThing a) n w h = never h

-- an event that uses up an insert gives it a fate other than waiting
fate_comes : (w : What) (n : ℕ) → fate_by w n ≡ StillWaits → ⊥
fate_comes (Begin b from) n h = cc
fate_comes (Flush a from) n h = cc
fate_comes w n h = cc

-- if the first of two fates is to wait still, both are
first_waits : (x y : Fate) → first_fate x y ≡ StillWaits → (x ≡ StillWaits) × (y ≡ StillWaits)
first_waits StillWaits y h = (refl, h)
first_waits (BegunBy n) y h = cc
first_waits (RemovedBy n) y h = cc
first_waits (FlushedBy n) y h = cc

-- an insert that waits was delivered by no event
pub not_delivered : (s : Script) (limit : ℕ) (past : List Event) (thing : Thing) (n : ℕ) → IsRun s limit past → is_declared s thing ≡ true →
    fate_of thing n past ≡ StillWaits → (f : Event) → Contains past f → delivers thing n f.what ≡ false
not_delivered s limit [] thing n r has h f c = contains_none f c
not_delivered s limit (e ∷ past) thing n r has h f c =
    let w = first_waits (fate_of thing n past) _ h in
    elim (contains_cases e past f c) [
      | inl same ↦ subst (λ (f : Event). delivers thing n f.what ≡ false) same (go (delivers thing n e.what) refl w.1)
      | inr there ↦ not_delivered s limit past thing n r.1 has w.0 f there
    ]
  where
    go : (b : Bool) → delivers thing n e.what ≡ b → (if nat_lt n (length past) && uses_up thing n e.what then fate_by e.what (length past) else StillWaits)
        ≡ StillWaits → b ≡ false
    go false k u = refl
    go true k u =
        let before = (delivered_inserts_wait s limit e past thing n r has k).0 in
        absurd (fate_comes e.what (length past) (sym (rw (lt-ltb n (length past) before, delivers_uses thing n e.what k) refl) ∙ u))

-- in a run an insert that an event delivers was delivered by no earlier event
pub no_insert_is_delivered_twice : (s : Script) (limit : ℕ) (e : Event) (past : List Event) (thing : Thing) (n : ℕ) → IsRun s limit (e ∷ past) →
    is_declared s thing ≡ true → delivers thing n e.what ≡ true → (f : Event) → Contains past f → delivers thing n f.what ≡ false
no_insert_is_delivered_twice s limit e past thing n r has h f c =
    not_delivered s limit past thing n r.1 has (delivered_inserts_wait s limit e past thing n r has h).1 f c
