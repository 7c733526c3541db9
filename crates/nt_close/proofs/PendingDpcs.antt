-- In a run, pending DPCs are asked for: a threaded one always, an ordinary one where its processor rests.
use Rattle.std.proofs.Common.{ap, arith, inl, inr, subst, sym, ◌∙◌}
use Rattle.std.proofs.lemmas.Bool.{both_ways, eq-eqb, eqb-true}
use Rattle.std.specs.List.{Contains, list_any}
use Rattle.std.specs.Prelude.{Bool, List, None, Option, Some, [], false, if◌then◌else◌, length, nat_lt, not, refl, true, ℕ, ◌&&◌, ◌+◌, ◌==◌, ◌∷◌, ◌≡◌, ◌⊎◌}
use Rattle.nt_event.specs.declared.commands.Command.TheVariants.{Queue}
use Rattle.nt_event.specs.declared.commands.Importance.{Importance}
use Rattle.nt_event.specs.declared.commands.Importance.TheVariants.{High, Low, Medium, MediumHigh}
use Rattle.nt_event.specs.declared.commands.Reply.TheVariants.{Yes}
use Rattle.nt_event.specs.declared.events.Event.{Event}
use Rattle.nt_event.specs.declared.events.What.{What}
use Rattle.nt_event.specs.declared.events.What.TheVariants.{Call, Clean, Fire, Rest}
use Rattle.nt_event.specs.declared.inserts.Insert.{Insert}
use Rattle.nt_event.specs.declared.inserts.Part.{Part}
use Rattle.nt_event.specs.declared.inserts.Part.TheVariants.{Ordinary as OrdinaryPart, Threaded as ThreadedPart}
use Rattle.nt_event.specs.declared.numbers.CpuNo.{CpuNo}
use Rattle.nt_event.specs.declared.numbers.DpcNo.{DpcNo}
use Rattle.nt_event.specs.declared.scripts.Script.{Script}
use Rattle.nt_event.specs.Lanes.{lanes_at, object_at, queue_at}
use Rattle.nt_event.specs.Objects.{ObjectState, inserted_dpc, object_in, objects_at, queue_for, used_up_dpc}
use Rattle.nt_event.specs.Own.{own_of, rested}
use Rattle.nt_event.specs.Queues.{QueueState, add_insert, depth_of, drop_insert, first_dpc, insert_asks, is_in, is_of_dpc, is_queue, left_queue, new_insert}
use Rattle.nt_event.specs.Queues.{pending, same_part, without_dpc}
use Rattle.nt_event.specs.Regions.{stand_at}
use Rattle.nt_event.specs.Requests.{ask, ask_if, asks, dpc_asks, is_ask, queue_asks, serves, what_asks}
use Rattle.nt_event.specs.Routines.{depth_limit, part_of}
use Rattle.nt_event.specs.Step.{IsLegal, IsRun}
use Rattle.nt_event.specs.Numbers.{is_of}
use Rattle.nt_runs.proofs.Known.{Known, KnownClean}
use Rattle.nt_runs.proofs.Turns.{is_next}
use Rattle.nt_runs.specs.First.{IsFirst}
use Rattle.nt_runs.proofs.Pending.{queue_there}
use Rattle.nt_event.proofs.Elements.{contains_cases, contains_none, kept_contains}
use Rattle.nt_runs.proofs.First.{first_is_first}
use Rattle.nt_close.specs.Close.{IsWanted}
use Rattle.nt_close.proofs.Rests.{known_rest, rested_idle, rested_other, rested_own}
use Rattle.nt_close.proofs.Wanted.{asks_wanted, known_here, serves_clean, stays_wanted}

-- ---- what an event leaves pending

-- the insert is the one that the event makes, in the queue of p
pub record IsNew (s : Script) (p : CpuNo) (n : ℕ) (by : CpuNo) (w : What) (objects : List ObjectState) (x : Insert) : Type 0 where
  pub dpc : DpcNo
  pub inserted : inserted_dpc w ≡ Some dpc
  pub queue : ((queue_for (object_in objects dpc).target by).0 == p.0) ≡ true
  pub insert : new_insert s dpc n (object_in objects dpc) ≡ x

-- an insert that is in a queue after an event dropped one was in the queue before
dropped_contains : (p by : CpuNo) (w : What) (o : Option DpcNo) (objects : List ObjectState) (xs : List Insert) (x : Insert) →
    Contains (drop_insert p by w o objects xs) x → Contains xs x
dropped_contains p by w None objects xs x h = h
dropped_contains p by w (Some d) objects xs x h = go (is_queue (left_queue by w (object_in objects d)) p) h
  where
    go : (b : Bool) → Contains (if b then without_dpc d xs else xs) x → Contains xs x
    go true h = (kept_contains (λ x. not (is_of_dpc d x)) xs x h).0
    go false h = h

-- an insert that is in a queue after an event added one was added by it or was there before
added_contains : (s : Script) (p : CpuNo) (n : ℕ) (by : CpuNo) (w : What) (o : Option DpcNo) (objects : List ObjectState) (xs : List Insert) (x : Insert) →
    inserted_dpc w ≡ o → Contains (add_insert s p n by o objects xs) x → IsNew s p n by w objects x ⊎ Contains xs x
added_contains s p n by w None objects xs x i h = inr h
added_contains s p n by w (Some d) objects xs x i h =
    go ((queue_for (object_in objects d).target by).0 == p.0) refl h
  where
    go : (b : Bool) → ((queue_for (object_in objects d).target by).0 == p.0) ≡ b →
        Contains (if b then (new_insert s d n (object_in objects d) ∷ xs) else xs) x → IsNew s p n by w objects x ⊎ Contains xs x
    go true q h =
        elim (contains_cases (new_insert s d n (object_in objects d)) xs x h) [
          | inl same ↦ inl (record { dpc = d; inserted = i; queue = q; insert = same })
          | inr there ↦ inr there
        ]
    go false q h = inr h

abbrev pub NewAt : Script → CpuNo → Event → List Event → Insert → Type 0
NewAt s p e past x = IsNew s p (length past) e.cpu e.what (objects_at s past) x

-- a DPC that is pending after an event was inserted by it or was pending before
pub pending_kept : (s : Script) (p : CpuNo) (e : Event) (past : List Event) (x : Insert) → Contains (pending s p (e ∷ past)) x → NewAt s p e past x ⊎
    Contains (pending s p past) x
pending_kept s p e past x h =
    elim (added_contains s p (length past) e.cpu e.what (inserted_dpc e.what) (objects_at s past)
    (drop_insert p e.cpu e.what (used_up_dpc e.what) (objects_at s past) (pending s p past)) x refl h) [
      | inl new ↦ inl new
      | inr there ↦ inr (dropped_contains p e.cpu e.what (used_up_dpc e.what) (objects_at s past) (pending s p past) x there)
    ]

-- where there is no first of a part, none of the part is pending
pub none_first : (s : Script) (p : CpuNo) (past : List Event) (part : Part) (x : Insert) → nat_lt p.0 s.cpus ≡ true →
    first_dpc part (queue_at (lanes_at s past) p).pending ≡ None → Contains (pending s p past) x → is_in part x ≡ false
none_first s p past part x has h c =
    let first : first_dpc part (pending s p past) ≡ None = ap (λ (q : QueueState). first_dpc part q.pending) (sym (queue_there s p past has)) ∙ h in
    subst (λ (o : Option Insert). IsFirst part (pending s p past) o) first (first_is_first s p past part) x c

-- ---- what an insert asks for

-- an event that inserts the object asks by the table for its queue's processor
inserts_ask : (s : Script) (p : CpuNo) (c : ℕ) (e : Event) (past : List Event) (d : DpcNo) → inserted_dpc e.what ≡ Some d →
    list_any (is_ask p c) (queue_asks s d e.cpu (lanes_at s past)) ≡ true → asks s p c e past ≡ true
inserts_ask s p c e past d i a = go e.what refl i
  where
    go : (w : What) → e.what ≡ w → inserted_dpc w ≡ Some d → asks s p c e past ≡ true
    go (Call f (Queue x) Yes) k i =
        let same : x ≡ d = cc in
        ap (λ (w : What). list_any (is_ask p c) (what_asks s (stand_at s e.cpu past) w (lanes_at s past))) k
        ∙ (ap (λ (x : DpcNo). list_any (is_ask p c) (queue_asks s x e.cpu (lanes_at s past))) same ∙ a)
    go (Fire x Yes) k i =
        let same : x ≡ d = cc in
        ap (λ (w : What). list_any (is_ask p c) (what_asks s (stand_at s e.cpu past) w (lanes_at s past))) k
        ∙ (ap (λ (x : DpcNo). list_any (is_ask p c) (queue_asks s x e.cpu (lanes_at s past))) same ∙ a)
    go w k i = cc

-- and it serves no class
and_none : (b : Bool) → (b && false) ≡ false
and_none true = refl
and_none false = refl

-- an event that inserts a DPC serves no class
inserts_serve : (c : ℕ) (w : What) (d : DpcNo) → inserted_dpc w ≡ Some d → serves c w ≡ false
inserts_serve c (Call f (Queue x) Yes) d i = and_none (c == 12)
inserts_serve c (Fire x Yes) d i = refl
inserts_serve c w d i = cc

-- asking a processor for a class asks that processor for that class
asked_one : (q p : CpuNo) (c : ℕ) → (q.0 == p.0) ≡ true → list_any (is_ask p c) (ask q c) ≡ true
asked_one q p c h = rw (h, eq-eqb c c refl) refl

-- two parts that pass the test for equality are the same
part_is : (part other : Part) → same_part part other ≡ true → other ≡ part
part_is OrdinaryPart OrdinaryPart h = refl
part_is ThreadedPart ThreadedPart h = refl
part_is OrdinaryPart ThreadedPart h = cc
part_is ThreadedPart OrdinaryPart h = cc

-- an insert that an event makes is in the part of its DPC
new_part : (s : Script) (p : CpuNo) (e : Event) (past : List Event) (part : Part) (x : Insert) → (k : NewAt s p e past x) → is_in part x ≡ true →
    part_of s k.dpc ≡ part
new_part s p e past part x k h =
    ap (λ (x : Insert). x.part) k.insert ∙ part_is part x.part h

-- ---- threaded DPCs

-- case: the event inserts a threaded DPC; class 0 is wanted on its processor after it
new_threaded : (s : Script) (limit : ℕ) (p : CpuNo) (e : Event) (past : List Event) (x : Insert) → IsRun s limit past → is_in ThreadedPart x ≡ true →
    NewAt s p e past x → IsWanted s p 0 (e ∷ past)
new_threaded s limit p e past x r t k =
    asks_wanted s limit p 0 e past r (λ o. inserts_serve 0 e.what k.dpc k.inserted) (inserts_ask s p 0 e past k.dpc k.inserted asked)
  where
    asked : list_any (is_ask p 0) (queue_asks s k.dpc e.cpu (lanes_at s past)) ≡ true
    asked =
        ap (λ (part : Part). list_any (is_ask p 0) (dpc_asks s part (object_at (lanes_at s past) k.dpc) e.cpu
        (queue_for (object_at (lanes_at s past) k.dpc).target e.cpu)
        (queue_at (lanes_at s past) (queue_for (object_at (lanes_at s past) k.dpc).target e.cpu)))) (new_part s p e past ThreadedPart x k t)
        ∙ asked_one (queue_for (object_at (lanes_at s past) k.dpc).target e.cpu) p 0 k.queue

-- a Clean of class 0 comes only where no threaded DPC is pending
cleans_threaded : (s : Script) (p : CpuNo) (past : List Event) (x : Insert) → nat_lt p.0 s.cpus ≡ true → KnownClean p (own_of s p past) (lanes_at s past) 0 →
    Contains (pending s p past) x → is_in ThreadedPart x ≡ true → ⊥
cleans_threaded s p past x has (inl k) c t = let n = k.0 in absurd (omega (arith, n))
cleans_threaded s p past x has (inr (inl k)) c t = let n = k.0 in absurd (omega (arith, n))
cleans_threaded s p past x has (inr (inr k)) c t = both_ways (is_in ThreadedPart x) (none_first s p past ThreadedPart x has k.2 c) t

-- no event of a processor serves class 0 while a threaded DPC is pending there
serves_threaded : (s : Script) (limit : ℕ) (p : CpuNo) (e : Event) (past : List Event) (x : Insert) → nat_lt p.0 s.cpus ≡ true → IsLegal s limit e past →
    Contains (pending s p past) x → is_in ThreadedPart x ≡ true → is_of e p ≡ true → serves 0 e.what ≡ false
serves_threaded s limit p e past x has g c t o = go (serves 0 e.what) refl
  where
    go : (b : Bool) → serves 0 e.what ≡ b → serves 0 e.what ≡ false
    go false h = h
    go true h =
        let w : e.what ≡ Clean 0 = serves_clean s limit p 0 e past (omega arith) g o h in
        let k = subst (λ (w : What). is_next w ≡ true → Known s p (own_of s p past) (lanes_at s past) w) w (known_here s limit p e past o g) in
        absurd (cleans_threaded s p past x has (k refl) c t)

-- in a run, while a threaded DPC is pending on a processor, class 0 is wanted there
pub threaded_wanted : (s : Script) (limit : ℕ) (p : CpuNo) (x : Insert) (past : List Event) → IsRun s limit past → nat_lt p.0 s.cpus ≡ true →
    Contains (pending s p past) x → is_in ThreadedPart x ≡ true → IsWanted s p 0 past
threaded_wanted s limit p x [] r has c t = contains_none x c
threaded_wanted s limit p x (e ∷ past) r has c t =
    elim (pending_kept s p e past x c) [
      | inl new ↦ new_threaded s limit p e past x r.1 t new
      | inr there ↦ stays_wanted s p 0 e past (serves_threaded s limit p e past x has r.0 there t) (threaded_wanted s limit p x past r.1 has there t)
    ]

-- ---- ordinary DPCs

-- an insert from another processor asks an idle one for class 2, whatever its importance
insert_wakes : (i : Importance) (own deep idle : Bool) → own ≡ false → idle ≡ true → insert_asks i own deep idle ≡ true
insert_wakes Low own true idle a b = refl
insert_wakes Low own false idle a b = rw (a, b) refl
insert_wakes Medium own true idle a b = rw a refl
insert_wakes Medium own false idle a b = rw (a, b) refl
insert_wakes MediumHigh own deep idle a b = refl
insert_wakes High own deep idle a b = refl

-- an insert by another processor into an idle queue asks for class 2
new_ordinary : (s : Script) (limit : ℕ) (p : CpuNo) (e : Event) (past : List Event) (x : Insert) → IsRun s limit past → nat_lt p.0 s.cpus ≡ true → is_of e p
    ≡ false → rested p past ≡ true → is_in OrdinaryPart x ≡ true → NewAt s p e past x → IsWanted s p 2 (e ∷ past)
new_ordinary s limit p e past x r has other rests t k =
    asks_wanted s limit p 2 e past r (λ o. inserts_serve 2 e.what k.dpc k.inserted) (inserts_ask s p 2 e past k.dpc k.inserted (by_part ∙ wakes))
  where
    o : ObjectState
    o = object_at (lanes_at s past) k.dpc

    q : CpuNo
    q = queue_for (object_at (lanes_at s past) k.dpc).target e.cpu

    same : q.0 ≡ p.0
    same = eqb-true (queue_for (object_at (lanes_at s past) k.dpc).target e.cpu).0 p.0 k.queue

    it : q ≡ p
    it = ap (λ (n : ℕ). record { 0 = n }) same

    not_own : (q.0 == e.cpu.0) ≡ false
    not_own = go (q.0 == e.cpu.0) refl
      where
        go : (b : Bool) → (q.0 == e.cpu.0) ≡ b → (q.0 == e.cpu.0) ≡ false
        go false h = h
        go true h =
            let a : q.0 ≡ e.cpu.0 = eqb-true q.0 e.cpu.0 h in
            let b : (e.cpu.0 == p.0) ≡ true = eq-eqb e.cpu.0 p.0 (sym a ∙ same) in
            cc

    idle : (queue_at (lanes_at s past) q).idle ≡ true
    idle =
        ap (λ (p : CpuNo). (queue_at (lanes_at s past) p).idle) it ∙ (ap (λ (q : QueueState). q.idle) (queue_there s p past has) ∙ rested_idle p past rests)

    deep : Bool
    deep = nat_lt (depth_limit s) (depth_of (queue_at (lanes_at s past) q).pending + 1)

    by_part : list_any (is_ask p 2) (queue_asks s k.dpc e.cpu (lanes_at s past))
        ≡ list_any (is_ask p 2) (dpc_asks s OrdinaryPart o e.cpu q (queue_at (lanes_at s past) q))
    by_part =
        ap (λ (part : Part). list_any (is_ask p 2) (dpc_asks s part (object_at (lanes_at s past) k.dpc) e.cpu
        (queue_for (object_at (lanes_at s past) k.dpc).target e.cpu)
        (queue_at (lanes_at s past) (queue_for (object_at (lanes_at s past) k.dpc).target e.cpu)))) (new_part s p e past OrdinaryPart x k t)

    wakes : list_any (is_ask p 2) (dpc_asks s OrdinaryPart o e.cpu q (queue_at (lanes_at s past) q)) ≡ true
    wakes =
        ap (λ (b : Bool). list_any (is_ask p 2) (ask_if b q 2))
        (insert_wakes o.importance (q.0 == e.cpu.0) deep (queue_at (lanes_at s past) q).idle not_own idle) ∙ asked_one q p 2 k.queue

-- a Rest leaves the pending DPCs as they were
rest_keeps : (s : Script) (p : CpuNo) (e : Event) (past : List Event) → e.what ≡ Rest → pending s p (e ∷ past) ≡ pending s p past
rest_keeps s p e past w = rw w refl

-- in a run, while an ordinary DPC is pending on a processor that rests, class 2 is wanted there
pub ordinary_wanted : (s : Script) (limit : ℕ) (p : CpuNo) (x : Insert) (past : List Event) → IsRun s limit past → nat_lt p.0 s.cpus ≡ true → rested p past
    ≡ true → Contains (pending s p past) x → is_in OrdinaryPart x ≡ true → IsWanted s p 2 past
ordinary_wanted s limit p x [] r has h c t = contains_none x c
ordinary_wanted s limit p x (e ∷ past) r has h c t =
    go (is_of e p) refl (λ k there. ordinary_wanted s limit p x past r.1 has k there t)
  where
    none_of_it : {A : Type 0} → is_of e p ≡ true → is_of e p ≡ false → A
    none_of_it a b = cc

    go : (b : Bool) → is_of e p ≡ b → (rested p past ≡ true → Contains (pending s p past) x → IsWanted s p 2 past) → IsWanted s p 2 (e ∷ past)
    go true o ih =
        let w : e.what ≡ Rest = rested_own p e past o h in
        let there : Contains (pending s p past) x = subst (λ (xs : List Insert). Contains xs x) (rest_keeps s p e past w) c in
        absurd (both_ways (is_in OrdinaryPart x) (none_first s p past OrdinaryPart x has (known_rest s limit p e past o r.0 w).empty there) t)
    go false o ih =
        let rests : rested p past ≡ true = rested_other p e past o h in
        elim (pending_kept s p e past x c) [
          | inl new ↦ new_ordinary s limit p e past x r.1 has o rests t new
          | inr there ↦ stays_wanted s p 2 e past (λ own. none_of_it own o) (ih rests there)
        ]
