-- The numbers of an object's inserts in a queue: what one more insert, and what the removal of an object's inserts leave.
use Rattle.std.proofs.Common.{ap, inl, inr, sym, ◌∙◌}
use Rattle.std.proofs.lemmas.Bool.{eq-eqb, eqb-true}
use Rattle.std.specs.List.{Contains}
use Rattle.std.specs.Prelude.{Bool, List, None, Option, Some, [], cond, false, filter, if◌then◌else◌, not, refl, true, ℕ, ◌==◌, ◌∷◌, ◌≡◌}
use Rattle.nt_event.specs.declared.events.What.{What}
use Rattle.nt_event.specs.declared.inserts.Insert.{Insert}
use Rattle.nt_event.specs.declared.inserts.Standing.{Standing}
use Rattle.nt_event.specs.declared.numbers.CpuNo.{CpuNo}
use Rattle.nt_event.specs.declared.numbers.DpcNo.{DpcNo}
use Rattle.nt_event.specs.declared.scripts.Script.{Script}
use Rattle.nt_event.specs.Objects.{ObjectState, object_in, queue_for}
use Rattle.nt_event.specs.Queues.{add_insert, drop_insert, is_of_dpc, is_queue, left_queue, new_insert, without_dpc}
use Rattle.nt_laws.specs.Fates.{numbers_at, numbers_of}
use Rattle.nt_event.proofs.Elements.{contains_cases, contains_kept, contains_mapped, contains_none, kept_contains, mapped_contains}

-- an insert put before a queue adds its number to those of its own DPC and to no others
cons_numbers : (d : DpcNo) (y : Insert) (ys : List Insert) (b : Bool) → (y.dpc.0 == d.0) ≡ b → numbers_of d (y ∷ ys)
    ≡ (if b then (y.number ∷ numbers_of d ys) else numbers_of d ys)
cons_numbers d y ys true e = rw e refl
cons_numbers d y ys false e = rw e refl

-- dropping the inserts of a DPC leaves none of its numbers
dropped_same : (d x : DpcNo) (xs : List Insert) → x.0 ≡ d.0 → numbers_of d (without_dpc x xs) ≡ []
dropped_same d x [] h = refl
dropped_same d x (y ∷ ys) h = go (y.dpc.0 == x.0) refl (dropped_same d x ys h)
  where
    go : (c : Bool) → (y.dpc.0 == x.0) ≡ c → numbers_of d (without_dpc x ys) ≡ [] → numbers_of d (cond (not c) (y ∷ without_dpc x ys) (without_dpc x ys)) ≡ []
    go true e ih = ih
    go false e ih =
        cons_numbers d y (without_dpc x ys) false (ap (λ (n : ℕ). y.dpc.0 == n) (sym h) ∙ e) ∙ ih

-- dropping the inserts of one DPC leaves the numbers of another as they were
dropped_other : (d x : DpcNo) (xs : List Insert) → (x.0 == d.0) ≡ false → numbers_of d (without_dpc x xs) ≡ numbers_of d xs
dropped_other d x [] h = refl
dropped_other d x (y ∷ ys) h =
    go (y.dpc.0 == x.0) (y.dpc.0 == d.0) refl refl (dropped_other d x ys h)
  where
    go : (c b : Bool) → (y.dpc.0 == x.0) ≡ c → (y.dpc.0 == d.0) ≡ b → numbers_of d (without_dpc x ys) ≡ numbers_of d ys →
        numbers_of d (cond (not c) (y ∷ without_dpc x ys) (without_dpc x ys)) ≡ numbers_of d (y ∷ ys)
    go true true e f ih =
        let k : (x.0 == d.0) ≡ true = ap (λ (n : ℕ). n == d.0) (sym (eqb-true y.dpc.0 x.0 e)) ∙ f in cc
    go true false e f ih = ih ∙ sym (cons_numbers d y ys false f)
    go false true e f ih =
        cons_numbers d y (without_dpc x ys) true f ∙ (ap (λ (ns : List ℕ). y.number ∷ ns) ih ∙ sym (cons_numbers d y ys true f))
    go false false e f ih =
        cons_numbers d y (without_dpc x ys) false f ∙ (ih ∙ sym (cons_numbers d y ys false f))

-- the number of an object's insert is listed at the queue that holds it and at no other
pub placed : (p : CpuNo) (x : Standing) (c : Bool) → (x.queue.0 == p.0) ≡ c → numbers_at p (Some x) ≡ (if c then (x.number ∷ []) else [])
placed p x true e = rw e refl
placed p x false e = rw e refl

-- an insert of x
pub insert_step : (s : Script) (p : CpuNo) (d x : DpcNo) (n : ℕ) (by : CpuNo) (objects : List ObjectState) (old : List Insert) (target : Option CpuNo)
    (st : Option Standing) → numbers_of d old ≡ numbers_at p st → (x.0 ≡ d.0 → (numbers_of d old ≡ []) × ((object_in objects x).target ≡ target)) →
    numbers_of d (add_insert s p n by (Some x) objects old)
    ≡ numbers_at p (if x.0 == d.0 then Some (record { queue = queue_for target by; number = n }) else st)
insert_step s p d x n by objects old target st ih same =
    go (x.0 == d.0) ((queue_for (object_in objects x).target by).0 == p.0) refl refl
  where
    new : Insert
    new = new_insert s x n (object_in objects x)

    stand : Standing
    stand = record { queue = queue_for target by; number = n }

    there : (b : Bool) → ((object_in objects x).target ≡ target) → ((queue_for (object_in objects x).target by).0 == p.0) ≡ b →
        ((queue_for target by).0 == p.0) ≡ b
    there b e k = ap (λ (o : Option CpuNo). (queue_for o by).0 == p.0) (sym e) ∙ k

    go : (b c : Bool) → (x.0 == d.0) ≡ b → ((queue_for (object_in objects x).target by).0 == p.0) ≡ c →
        numbers_of d (if c then (new_insert s x n (object_in objects x) ∷ old) else old)
        ≡ numbers_at p (if b then Some (record { queue = queue_for target by; number = n }) else st)
    go true true e k =
        let h = same (eqb-true x.0 d.0 e) in
        cons_numbers d (new_insert s x n (object_in objects x)) old true e
        ∙ (ap (λ (ns : List ℕ). n ∷ ns) h.0 ∙ sym (placed p (record { queue = queue_for target by; number = n }) true (there true h.1 k)))
    go true false e k =
        let h = same (eqb-true x.0 d.0 e) in
        h.0 ∙ sym (placed p (record { queue = queue_for target by; number = n }) false (there false h.1 k))
    go false true e k = cons_numbers d (new_insert s x n (object_in objects x)) old false e ∙ ih
    go false false e k = ih

-- an event that uses up an insert of x
pub drop_step : (p : CpuNo) (d x : DpcNo) (by : CpuNo) (w : What) (objects : List ObjectState) (old : List Insert) (st : Option Standing) → numbers_of d old
    ≡ numbers_at p st → (x.0 ≡ d.0 → is_queue (left_queue by w (object_in objects x)) p ≡ false → numbers_of d old ≡ []) →
    numbers_of d (drop_insert p by w (Some x) objects old) ≡ numbers_at p (if x.0 == d.0 then None else st)
drop_step p d x by w objects old st ih left =
    go (x.0 == d.0) (is_queue (left_queue by w (object_in objects x)) p) refl refl
  where
    go : (b c : Bool) → (x.0 == d.0) ≡ b → is_queue (left_queue by w (object_in objects x)) p ≡ c → numbers_of d (if c then without_dpc x old else old)
        ≡ numbers_at p (if b then None else st)
    go true true e k = dropped_same d x old (eqb-true x.0 d.0 e)
    go true false e k = left (eqb-true x.0 d.0 e) k
    go false true e k = dropped_other d x old e ∙ ih
    go false false e k = ih

-- ---- numbers and pending inserts

-- the number of an insert of a DPC in a queue is among the DPC's numbers there
pub contains_number : (d : DpcNo) (xs : List Insert) (x : Insert) → Contains xs x → x.dpc.0 ≡ d.0 → Contains (numbers_of d xs) x.number
contains_number d xs x h e =
    contains_mapped (λ (x : Insert). x.number) (filter (is_of_dpc d) xs) x (contains_kept (is_of_dpc d) xs x h (eq-eqb x.dpc.0 d.0 e))

-- each of a DPC's numbers in a queue is that of one of its inserts there
pub number_contains : (d : DpcNo) (xs : List Insert) (n : ℕ) → Contains (numbers_of d xs) n → (x : Insert) × Contains xs x × (x.dpc.0 ≡ d.0) × (x.number ≡ n)
number_contains d xs n h =
    let r = mapped_contains (λ (x : Insert). x.number) (filter (is_of_dpc d) xs) n h in
    let k = kept_contains (is_of_dpc d) xs r.0 r.1 in
    (r.0, k.0, eqb-true r.0.dpc.0 d.0 k.1, r.2)

-- where a number stands at p
pub stands_at : (p : CpuNo) (o : Option Standing) (n : ℕ) → Contains (numbers_at p o) n → (x : Standing) × (o ≡ Some x) × (x.queue.0 ≡ p.0) × (x.number ≡ n)
stands_at p None n h = contains_none n h
stands_at p (Some x) n h = go (x.queue.0 == p.0) refl h
  where
    go : (b : Bool) → (x.queue.0 == p.0) ≡ b → Contains (if b then (x.number ∷ []) else []) n → (y : Standing) ×
        (◌≡◌ {A = Option Standing} (Some x) (Some y)) × (y.queue.0 ≡ p.0) × (y.number ≡ n)
    go true e k =
        elim (contains_cases x.number [] n k) [
          | inl same ↦ (x, refl, eqb-true x.queue.0 p.0 e, same)
          | inr absent ↦ contains_none n absent
        ]
    go false e k = contains_none n k

-- what stands at another processor isn't at p
pub stands_elsewhere : (p q : CpuNo) (x : Standing) → x.queue.0 ≡ q.0 → (q.0 == p.0) ≡ false → numbers_at p (Some x) ≡ []
stands_elsewhere p q x e h = placed p x false (ap (λ (n : ℕ). n == p.0) e ∙ h)
