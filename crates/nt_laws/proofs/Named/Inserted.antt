-- Pending inserts are of the script's objects, where the events before them fit.
use Rattle.std.proofs.Common.{ap, inl, inr, subst, sym}
use Rattle.std.specs.List.{Contains}
use Rattle.std.specs.Prelude.{Bool, List, None, Option, Some, [], false, if◌then◌else◌, length, not, refl, true, ℕ, ◌==◌, ◌∷◌, ◌≡◌}
use Rattle.nt_event.specs.declared.commands.Command.TheVariants.{InsertApc, Queue}
use Rattle.nt_event.specs.declared.commands.Reply.TheVariants.{Yes}
use Rattle.nt_event.specs.declared.events.Event.{Event}
use Rattle.nt_event.specs.declared.events.What.{What}
use Rattle.nt_event.specs.declared.events.What.TheVariants.{Call, Fire}
use Rattle.nt_event.specs.declared.inserts.Insert.{Insert}
use Rattle.nt_event.specs.declared.inserts.Pick.{Pick}
use Rattle.nt_event.specs.declared.numbers.ApcNo.{ApcNo}
use Rattle.nt_event.specs.declared.numbers.CpuNo.{CpuNo}
use Rattle.nt_event.specs.declared.numbers.DpcNo.{DpcNo}
use Rattle.nt_event.specs.declared.numbers.ThreadNo.{ThreadNo}
use Rattle.nt_event.specs.declared.scripts.Script.{Script}
use Rattle.nt_event.specs.Objects.{ObjectState, inserted_dpc, object_in, objects_at, queue_for, used_up_dpc}
use Rattle.nt_event.specs.Queues.{add_insert, drop_insert, is_of_dpc, is_queue, left_queue, new_insert, pending, without_dpc}
use Rattle.nt_event.specs.Script.{has_apc, has_dpc}
use Rattle.nt_event.specs.Waits.{facts, is_of_thread}
use Rattle.nt_event.proofs.Elements.{contains_none, contains_cases, kept_contains}
use Rattle.nt_laws.proofs.Fates.Picks.{PutsPick, picks_after, picks_kept, picks_move}
use Rattle.nt_laws.specs.Named.{AllFit}
use Rattle.nt_event.specs.Fitting.{what_fits}

-- ---- DPCs

-- the DPC that an event that fits inserts is declared
inserted_fits : (s : Script) (w : What) (d : DpcNo) → what_fits s w ≡ true → inserted_dpc w ≡ Some d → has_dpc s d ≡ true
inserted_fits s (Call f (Queue x) Yes) d h e = let same : x ≡ d = cc in subst (λ (y : DpcNo). has_dpc s y ≡ true) same h
inserted_fits s (Fire x Yes) d h e = let same : x ≡ d = cc in subst (λ (y : DpcNo). has_dpc s y ≡ true) same h
inserted_fits s w d h e = cc

abbrev AreDeclared : Script → List Insert → Type 0
AreDeclared s xs = (x : Insert) → Contains xs x → has_dpc s x.dpc ≡ true

-- inserts of declared DPCs stay so when a declared DPC is added
added : (s : Script) (p : CpuNo) (n : ℕ) (by : CpuNo) (o : Option DpcNo) (objects : List ObjectState) (old : List Insert) →
    ((d : DpcNo) → o ≡ Some d → has_dpc s d ≡ true) → AreDeclared s old → AreDeclared s (add_insert s p n by o objects old)
added s p n by None objects old h k = k
added s p n by (Some d) objects old h k = go ((queue_for (object_in objects d).target by).0 == p.0)
  where
    new : Insert
    new = new_insert s d n (object_in objects d)

    go : (b : Bool) → AreDeclared s (if b then (new_insert s d n (object_in objects d) ∷ old) else old)
    go true = λ x c.
        elim (contains_cases (new_insert s d n (object_in objects d)) old x c) [
          | inl same ↦ subst (λ (y : Insert). has_dpc s y.dpc ≡ true) same (h d refl)
          | inr there ↦ k x there
        ]
    go false = k

-- inserts of declared DPCs stay so when an event drops one
dropped : (s : Script) (p by : CpuNo) (w : What) (o : Option DpcNo) (objects : List ObjectState) (old : List Insert) → AreDeclared s old →
    AreDeclared s (drop_insert p by w o objects old)
dropped s p by w None objects old k = k
dropped s p by w (Some d) objects old k = go (is_queue (left_queue by w (object_in objects d)) p)
  where
    go : (b : Bool) → AreDeclared s (if b then without_dpc d old else old)
    go true = λ x c. k x (kept_contains (λ x. not (is_of_dpc d x)) old x c).0
    go false = k

-- the pending inserts of a queue are of the script's DPC objects
pub pending_fits : (s : Script) (p : CpuNo) (past : List Event) → AllFit s past → (x : Insert) → Contains (pending s p past) x → has_dpc s x.dpc ≡ true
pending_fits s p [] h x c = contains_none x c
pending_fits s p (e ∷ past) h x c =
    let old : List Insert = drop_insert p e.cpu e.what (used_up_dpc e.what) (objects_at s past) (pending s p past) in
    added s p (length past) e.cpu (inserted_dpc e.what) (objects_at s past) old (λ d i. inserted_fits s e.what d h.0.what i)
    (dropped s p e.cpu e.what (used_up_dpc e.what) (objects_at s past) (pending s p past) (pending_fits s p past h.1)) x c

-- ---- APCs

-- an APC that an event that fits puts at a thread is declared
put_fits : (s : Script) (t : ThreadNo) (n : ℕ) (w : What) (x : Pick) → what_fits s w ≡ true → PutsPick s t n w x → has_apc s x.apc ≡ true
put_fits s t n (Call f (InsertApc a) Yes) x h put = let same : a ≡ x.apc = sym (ap (λ (y : Pick). y.apc) put.1) in
    subst (λ (y : ApcNo). has_apc s y ≡ true) same h
put_fits s t n w x h put = absurd put

-- the pending APCs of a thread are of the script's APC objects
pub picks_fit : (s : Script) (t : ThreadNo) (past : List Event) → AllFit s past → (x : Pick) → Contains (facts s t past).apcs.pending x → has_apc s x.apc ≡ true
picks_fit s t [] h x c = contains_none x c
picks_fit s t (e ∷ past) h x c =
    let after : Contains (picks_after s t (length past) (is_of_thread s t e) e.what (facts s t past).apcs.pending) x = subst
    (λ (xs : List Pick). Contains xs x) (picks_move s t e past) c in
    elim (picks_kept s t (length past) (is_of_thread s t e) e.what (facts s t past).apcs.pending x after) [
      | inl put ↦ put_fits s t (length past) e.what x h.0.what put
      | inr there ↦ picks_fit s t past h.1 x there
    ]
