-- The pending inserts after a list of changes: which they are, that their numbers fall, that an object has at most one.
use Rattle.std.proofs.Common.{◌≡◌, ◌<◌, Bool, true, false, List, [], ◌∷◌, Option, Some, None, ℕ, ap, arith, inl, inr, refl, reverse, sym, ◌∙◌}
use Rattle.nt_event.specs.declared.inserts.Insert.{Insert}
use Rattle.nt_event.specs.declared.inserts.Part.{Part}
use Rattle.nt_event.specs.declared.numbers.CpuNo.{CpuNo}
use Rattle.nt_event.specs.declared.numbers.DpcNo.{DpcNo}
use Rattle.nt_event.specs.Queues.{first_dpc, is_high_in, is_in, is_of_dpc, without_dpc}
use Rattle.nt_dpc.specs.Changes.{AddedBelow, AllAccepted, QueueChange, Added, Idled, IsFirst, IsPending, NumbersRise, Removed, Taken, after_changes}
use Rattle.nt_dpc.specs.Laws.{FirstByNumber, OneEntryEach, RemovedIsGone}
use Rattle.nt_dpc.specs.Queues.{EachOnceBelow, QueueFacts, holds_dpc, new_queue}
use Rattle.nt_dpc.proofs.Numbered.{AllBelow, Falls, Stands, LastIsLeast, find_greatest, find_last, find_last_stands, find_none, find_stands}
use Rattle.nt_dpc.proofs.Once.{each_once-without, without_cons_no, without_cons_yes}
use Rattle.std.specs.List.{find}
use Rattle.std.specs.Option.{MatchOption, option_or}
use Rattle.std.proofs.lemmas.Bool.{and_parts, eq-eqb, false≢true, or_left, or_right}

-- ---- what stands in the list without an object's entries

-- an insert left after an object's entries are taken out is of another object and was in the list
stands-without : (d : DpcNo) (x : Insert) (ys : List Insert) → Stands x (without_dpc d ys) → (is_of_dpc d x ≡ false) × Stands x ys
stands-without d x [] at = absurd at
stands-without d x (y ∷ ys) at = go d x y ys (stands-without d x ys) at (is_of_dpc d y) refl
  where
    go : (d : DpcNo) (x y : Insert) (ys : List Insert) → (Stands x (without_dpc d ys) → (is_of_dpc d x ≡ false) × Stands x ys) →
        Stands x (without_dpc d (y ∷ ys)) → (b : Bool) → is_of_dpc d y ≡ b → (is_of_dpc d x ≡ false) × Stands x (y ∷ ys)
    go d x y ys rest at true k = let r = rest (rw (without_cons_yes d y ys k) at at) in (r.0, inr r.1)
    go d x y ys rest at false k = here (rw (without_cons_no d y ys k) at at)
      where
        here : Stands x (y ∷ without_dpc d ys) → (is_of_dpc d x ≡ false) × Stands x (y ∷ ys)
        here (inl e) = (rw e k, inl e)
        here (inr later) = let r = rest later in (r.0, inr r.1)

-- an insert of another object stays in the list when an object's entries are taken out
without-stands : (d : DpcNo) (x : Insert) (ys : List Insert) → is_of_dpc d x ≡ false → Stands x ys → Stands x (without_dpc d ys)
without-stands d x [] h at = absurd at
without-stands d x (y ∷ ys) h at = go d x y ys h (without-stands d x ys h) at (is_of_dpc d y) refl
  where
    go : (d : DpcNo) (x y : Insert) (ys : List Insert) → is_of_dpc d x ≡ false → (Stands x ys → Stands x (without_dpc d ys)) → Stands x (y ∷ ys) → (b : Bool) →
        is_of_dpc d y ≡ b → Stands x (without_dpc d (y ∷ ys))
    go d x y ys h rest (inl e) true k = absurd (false≢true (sym h ∙ (rw e k)))
    go d x y ys h rest (inl e) false k = rw (without_cons_no d y ys k) (inl e)
    go d x y ys h rest (inr at) true k = rw (without_cons_yes d y ys k) (rest at)
    go d x y ys h rest (inr at) false k = rw (without_cons_no d y ys k) (inr (rest at))

-- ---- the list after the changes is that of the pending inserts

-- each insert in a queue's list after a list of changes was made and not used up since
pub stands_pending : (p : CpuNo) (count limit : ℕ) (past : List QueueChange) (x : Insert) →
    Stands x (after_changes (new_queue p count limit) past).state.pending → IsPending x past
stands_pending p count limit [] x at = at
stands_pending p count limit (Added y ∷ past) x (inl e) = inl e
stands_pending p count limit (Added y ∷ past) x (inr at) = inr (stands_pending p count limit past x at)
stands_pending p count limit (Removed d ∷ past) x at =
    let r = stands-without d x (after_changes (new_queue p count limit) past).state.pending at in (r.0, stands_pending p count limit past x r.1)
stands_pending p count limit (Taken d ∷ past) x at =
    let r = stands-without d x (after_changes (new_queue p count limit) past).state.pending at in (r.0, stands_pending p count limit past x r.1)
stands_pending p count limit (Idled idle ∷ past) x at = stands_pending p count limit past x at

-- each insert that was made and not used up since is in the queue's list
pub pending_stands : (p : CpuNo) (count limit : ℕ) (past : List QueueChange) (x : Insert) → IsPending x past →
    Stands x (after_changes (new_queue p count limit) past).state.pending
pending_stands p count limit [] x h = h
pending_stands p count limit (Added y ∷ past) x (inl e) = inl e
pending_stands p count limit (Added y ∷ past) x (inr h) = inr (pending_stands p count limit past x h)
pending_stands p count limit (Removed d ∷ past) x h =
    without-stands d x (after_changes (new_queue p count limit) past).state.pending h.0 (pending_stands p count limit past x h.1)
pending_stands p count limit (Taken d ∷ past) x h =
    without-stands d x (after_changes (new_queue p count limit) past).state.pending h.0 (pending_stands p count limit past x h.1)
pending_stands p count limit (Idled idle ∷ past) x h = pending_stands p count limit past x h

-- ---- numbers fall along the list

-- numbers below a bound stay below it when an object's entries are taken out
below-without : (d : DpcNo) (n : ℕ) (xs : List Insert) → AllBelow n xs → AllBelow n (without_dpc d xs)
below-without d n [] h = tt
below-without d n (x ∷ xs) h = go d n x xs h (below-without d n xs h.1) (is_of_dpc d x) refl
  where
    go : (d : DpcNo) (n : ℕ) (x : Insert) (xs : List Insert) → AllBelow n (x ∷ xs) → AllBelow n (without_dpc d xs) → (b : Bool) → is_of_dpc d x ≡ b →
        AllBelow n (without_dpc d (x ∷ xs))
    go d n x xs h rest true k = rw (without_cons_yes d x xs k) rest
    go d n x xs h rest false k = rw (without_cons_no d x xs k) (h.0, rest)

-- numbers that fall along a list still fall when an object's entries are taken out
falls-without : (d : DpcNo) (xs : List Insert) → Falls xs → Falls (without_dpc d xs)
falls-without d [] h = tt
falls-without d (x ∷ xs) h = go d x xs h (falls-without d xs h.1) (is_of_dpc d x) refl
  where
    go : (d : DpcNo) (x : Insert) (xs : List Insert) → Falls (x ∷ xs) → Falls (without_dpc d xs) → (b : Bool) → is_of_dpc d x ≡ b →
        Falls (without_dpc d (x ∷ xs))
    go d x xs h rest true k = rw (without_cons_yes d x xs k) rest
    go d x xs h rest false k = rw (without_cons_no d x xs k) (below-without d x.number xs h.0, rest)

-- if all added numbers are below a bound, the pending inserts' numbers are below it
added_below : (p : CpuNo) (count limit n : ℕ) (past : List QueueChange) → AddedBelow n past →
    AllBelow n (after_changes (new_queue p count limit) past).state.pending
added_below p count limit n [] h = tt
added_below p count limit n (Added x ∷ past) h = (h.0, added_below p count limit n past h.1)
added_below p count limit n (Removed d ∷ past) h =
    below-without d n (after_changes (new_queue p count limit) past).state.pending (added_below p count limit n past h)
added_below p count limit n (Taken d ∷ past) h =
    below-without d n (after_changes (new_queue p count limit) past).state.pending (added_below p count limit n past h)
added_below p count limit n (Idled idle ∷ past) h = added_below p count limit n past h

-- if insert numbers rise, the numbers of the pending inserts fall along the list
falls : (p : CpuNo) (count limit : ℕ) (past : List QueueChange) → NumbersRise past → Falls (after_changes (new_queue p count limit) past).state.pending
falls p count limit [] h = tt
falls p count limit (Added x ∷ past) h = (added_below p count limit x.number past h.0, falls p count limit past h.1)
falls p count limit (Removed d ∷ past) h =
    falls-without d (after_changes (new_queue p count limit) past).state.pending (falls p count limit past h)
falls p count limit (Taken d ∷ past) h =
    falls-without d (after_changes (new_queue p count limit) past).state.pending (falls p count limit past h)
falls p count limit (Idled idle ∷ past) h = falls p count limit past h

-- ---- the first of a part

-- the first of a part of a list, where a fact holds of exactly what stands in it
first_of : (part : Part) (past : List QueueChange) (xs : List Insert) → Falls xs → ((x : Insert) → Stands x xs → IsPending x past) →
    ((x : Insert) → IsPending x past → Stands x xs) → MatchOption (first_dpc part xs) ((y : Insert) → IsPending y past → is_in part y ≡ false)
    (λ x. IsFirst part x past)
first_of part past xs f to from = go (find (is_high_in part) xs) refl
  where
    low : (o : Option Insert) → LastIsLeast (is_in part) xs o → find (is_high_in part) xs ≡ None →
        MatchOption o ((y : Insert) → IsPending y past → is_in part y ≡ false) (λ x. IsFirst part x past)
    low None h none = λ y at. h y (from y at)
    low (Some x) h none =
        record {
          pending = to x h.stands;
          in_part = h.passes;
          newest_high = λ high y at t. absurd (false≢true (sym (find_none (is_high_in part) xs y none (from y at)) ∙ t));
          none_high = λ high y at. find_none (is_high_in part) xs y none (from y at);
          oldest = λ high y at t. h.least y (from y at) t;
        }

    go : (o : Option Insert) → find (is_high_in part) xs ≡ o → MatchOption (option_or o (find (is_in part) (reverse xs)))
        ((y : Insert) → IsPending y past → is_in part y ≡ false) (λ x. IsFirst part x past)
    go None e = low (find (is_in part) (reverse xs)) (find_last (is_in part) xs f) e
    go (Some x) e =
        let s = find_stands (is_high_in part) xs x e in
        let high = and_parts x.high (is_in part x) s.1 in
        record {
          pending = to x s.0;
          in_part = high.1;
          newest_high = λ h y at t. find_greatest (is_high_in part) xs x y f e (from y at) t;
          none_high = λ h. absurd (false≢true (sym h ∙ high.0));
          oldest = λ h. absurd (false≢true (sym h ∙ high.0));
        }

-- if insert numbers rise, a part's first is its newest pending High insert, else its oldest pending one
pub first_by_number : FirstByNumber
first_by_number p count limit past h part =
    first_of part past (after_changes (new_queue p count limit) past).state.pending (falls p count limit past h) (stands_pending p count limit past)
    (pending_stands p count limit past)

-- the first entry of a part is in the list of pending inserts
pub first_stands : (part : Part) (xs : List Insert) (x : Insert) → first_dpc part xs ≡ Some x → Stands x xs
first_stands part xs x h = go (find (is_high_in part) xs) refl h
  where
    go : (o : Option Insert) → find (is_high_in part) xs ≡ o → option_or o (find (is_in part) (reverse xs)) ≡ Some x → Stands x xs
    go None e h = find_last_stands (is_in part) xs x h
    go (Some y) e h = (find_stands (is_high_in part) xs x (e ∙ h)).0

-- an object whose insert was just removed or taken isn't the first of any part
pub removed_is_gone : RemovedIsGone
removed_is_gone q past d part =
    let xs = (after_changes q past).state.pending in
    let gone : (x : Insert) → first_dpc part (without_dpc d xs) ≡ Some x →
    is_of_dpc d x ≡ false = λ x h. (stands-without d x xs (first_stands part (without_dpc d xs) x h)).0 in
    (gone, gone)

-- ---- one entry each

-- changes of a queue leave its count of objects as it was
count_stays : (q : QueueFacts) (past : List QueueChange) → (after_changes q past).count ≡ q.count
count_stays q [] = refl
count_stays q (Added x ∷ past) = count_stays q past
count_stays q (Removed d ∷ past) = count_stays q past
count_stays q (Taken d ∷ past) = count_stays q past
count_stays q (Idled idle ∷ past) = count_stays q past

-- if each change was accepted, the queue has at most one entry for each object below the count
pub each_once : (p : CpuNo) (count limit : ℕ) (past : List QueueChange) → AllAccepted (new_queue p count limit) past →
    EachOnceBelow count (after_changes (new_queue p count limit) past).state.pending
each_once p count limit [] h = tt
each_once p count limit (Added x ∷ past) h =
    let below : x.dpc.0 < (after_changes (new_queue p count limit) past).count = h.0.0 in
    (omega (arith, below, count_stays (new_queue p count limit) past), h.0.1, each_once p count limit past h.1)
each_once p count limit (Removed d ∷ past) h =
    each_once-without d count (after_changes (new_queue p count limit) past).state.pending (each_once p count limit past h.1)
each_once p count limit (Taken d ∷ past) h =
    each_once-without d count (after_changes (new_queue p count limit) past).state.pending (each_once p count limit past h.1)
each_once p count limit (Idled idle ∷ past) h = each_once p count limit past h.1

-- a list that has an insert of an object's number holds the object
stands_holds : (d : DpcNo) (y : Insert) (xs : List Insert) → y.dpc.0 ≡ d.0 → Stands y xs → holds_dpc d xs ≡ true
stands_holds d y [] e at = absurd at
stands_holds d y (x ∷ xs) e (inl same) =
    or_left (is_of_dpc d x) (holds_dpc d xs) (eq-eqb x.dpc.0 d.0 (sym (ap (λ (z : Insert). z.dpc.0) same) ∙ e))
stands_holds d y (x ∷ xs) e (inr at) = or_right (is_of_dpc d x) (holds_dpc d xs) (stands_holds d y xs e at)

-- two inserts of one object in a list with at most one entry for each object are the same
only : (count : ℕ) (xs : List Insert) (x y : Insert) → EachOnceBelow count xs → Stands x xs → Stands y xs → x.dpc.0 ≡ y.dpc.0 → x ≡ y
only count [] x y h at to e = absurd at
only count (z ∷ xs) x y h (inl s) (inl t) e = s ∙ sym t
only count (z ∷ xs) x y h (inl s) (inr to) e =
    absurd (false≢true (sym h.1 ∙ stands_holds z.dpc y xs (sym e ∙ ap (λ (w : Insert). w.dpc.0) s) to))
only count (z ∷ xs) x y h (inr at) (inl t) e =
    absurd (false≢true (sym h.1 ∙ stands_holds z.dpc x xs (e ∙ ap (λ (w : Insert). w.dpc.0) t) at))
only count (z ∷ xs) x y h (inr at) (inr to) e = only count xs x y h.2 at to e

-- if each change was accepted, an object has at most one pending insert
pub one_entry_each : OneEntryEach
one_entry_each p count limit past h x y at to e =
    only count (after_changes (new_queue p count limit) past).state.pending x y (each_once p count limit past h) (pending_stands p count limit past x at)
    (pending_stands p count limit past y to) e
