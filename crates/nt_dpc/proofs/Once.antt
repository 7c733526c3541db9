-- Lists in which each object below the count has at most one entry.
use Rattle.std.proofs.Common.{inl, inr, ◌≡◌, ◌≤◌, ◌<◌, ℕ, Bool, true, false, eqb, List, [], ◌∷◌, reverse, length, not, refl, sym, ◌∙◌, ap, arith, suc, get_or}
use Rattle.std.proofs.Common.{Option, Some, None}
use Rattle.nt_event.specs.declared.inserts.Insert.{Insert}
use Rattle.nt_event.specs.declared.inserts.Part.TheVariants.{Ordinary as OrdinaryPart}
use Rattle.nt_event.specs.declared.numbers.DpcNo.{DpcNo}
use Rattle.nt_event.specs.Queues.{is_of_dpc, without_dpc}
use Rattle.nt_event.specs.declared.inserts.Standing.{Standing}
use Rattle.nt_event.specs.Objects.{is_queued}
use Rattle.nt_dpc.specs.Objects.{ObjectFacts}
use Rattle.nt_dpc.specs.Queues.{EachOnceBelow, QueueFacts, StandsHere, StandsHereOrNowhere, holds_dpc, without_entry}
use Rattle.std.specs.Option.{is_some}
use Rattle.nt_event.proofs.Reversed.{filter-reverse}
use Rattle.nt_dpc.proofs.Removed.{remove-only}
use Rattle.std.specs.List.{AllByRecursion, IsDistinct, filter, list_any, position, remove}
use Rattle.std.proofs.lemmas.List.{length-reverse}
use Rattle.std.proofs.lemmas.List.Quantifiers.{position-Some}
use Rattle.std.proofs.lemmas.Map.Keys.{IsDistinct-cons}
use Rattle.std.proofs.lemmas.Map.Steps.{length-le_from_distinct_below}
use Rattle.std.proofs.lemmas.Bool.{or_parts, or_cases, or_from, eqb-true, eqb-false, ne_eqb}

-- ---- there are at most as many entries as objects

-- the object numbers of the entries of a list
dpc_numbers : List Insert → List ℕ
dpc_numbers [] = []
dpc_numbers (x ∷ xs) = x.dpc.0 ∷ dpc_numbers xs

-- a list has as many object numbers as entries
length-dpc_numbers : (xs : List Insert) → length (dpc_numbers xs) ≡ length xs
unfolding dpc_numbers
length-dpc_numbers [] = refl
length-dpc_numbers (x ∷ xs) = ap suc (length-dpc_numbers xs)

-- if a number's equality test with another fails, the test the other way round fails
flipped : (a b : ℕ) → eqb a b ≡ false → eqb b a ≡ false
flipped a b h = ne_eqb b a (λ e. eqb-false a b h (sym e))

-- if a list doesn't hold an object, its number differs from each object number of the list
apart : (d : DpcNo) (xs : List Insert) → holds_dpc d xs ≡ false → AllByRecursion (λ y. eqb d.0 y ≡ false) (dpc_numbers xs)
unfolding dpc_numbers
apart d [] h = tt
apart d (x ∷ xs) h =
    let p = or_parts (is_of_dpc d x) (holds_dpc d xs) h in (flipped x.dpc.0 d.0 p.0, apart d xs p.1)

-- the object numbers of a list with at most one entry for each object are distinct
distinct : (count : ℕ) (xs : List Insert) → EachOnceBelow count xs → IsDistinct eqb (dpc_numbers xs)
unfolding dpc_numbers IsDistinct
distinct count [] h = tt
distinct count (x ∷ xs) h =
    IsDistinct-cons eqb x.dpc.0 (dpc_numbers xs) (apart x.dpc xs h.1) (distinct count xs h.2)

-- each object number of a list with at most one entry for each below the count is below the count
below : (count : ℕ) (xs : List Insert) → EachOnceBelow count xs → (q : ℕ) → list_any (eqb q) (dpc_numbers xs) ≡ true → q < count
unfolding dpc_numbers
below count [] h q e = cc
below count (x ∷ xs) h q e =
    elim (or_cases (eqb q x.dpc.0) (list_any (eqb q) (dpc_numbers xs)) e) [
      | inl here ↦ let same : q ≡ x.dpc.0 = eqb-true q x.dpc.0 here in omega (arith, h.0)
      | inr there ↦ below count xs h.2 q there
    ]

-- a list with at most one entry for each object below the count has at most as many entries as the count
pub length-each_once : (count : ℕ) (xs : List Insert) → EachOnceBelow count xs → length xs ≤ count
length-each_once count xs h =
    omega (arith, length-dpc_numbers xs, length-le_from_distinct_below (dpc_numbers xs) count (distinct count xs h) (below count xs h))

-- ---- an object's entry is the only one

-- filtering a list for an object that it doesn't hold gives the empty list
none_of : (d : DpcNo) (xs : List Insert) → holds_dpc d xs ≡ false → filter (is_of_dpc d) xs ≡ []
none_of d [] h = refl
none_of d (x ∷ xs) h = let p = or_parts (is_of_dpc d x) (holds_dpc d xs) h in rw p.0 (none_of d xs p.1)

-- a list holds two objects of the same number alike
same_dpc : (d e : DpcNo) (xs : List Insert) → d.0 ≡ e.0 → holds_dpc d xs ≡ holds_dpc e xs
same_dpc d e xs h = ap (λ (n : ℕ). list_any (λ (x : Insert). eqb x.dpc.0 n) xs) h

-- case: one entry in front of a list that doesn't hold its object leaves at most one entry of a given object
at_most_one : (d : DpcNo) (x : Insert) (xs : List Insert) → holds_dpc x.dpc xs ≡ false → length (filter (is_of_dpc d) xs) ≤ 1 → (b : Bool) →
    is_of_dpc d x ≡ b → length (filter (is_of_dpc d) (x ∷ xs)) ≤ 1
at_most_one d x xs h rest true e =
    rw (e, none_of d xs (same_dpc d x.dpc xs (sym (eqb-true x.dpc.0 d.0 e)) ∙ h)) (omega arith)
at_most_one d x xs h rest false e = rw e rest

-- a list with at most one entry for each object has at most one entry of a given object
pub length-filter-each_once : (d : DpcNo) (count : ℕ) (xs : List Insert) → EachOnceBelow count xs → length (filter (is_of_dpc d) xs) ≤ 1
length-filter-each_once d count [] h = omega arith
length-filter-each_once d count (x ∷ xs) h =
    at_most_one d x xs h.1 (length-filter-each_once d count xs h.2) (is_of_dpc d x) refl

-- ---- what taking an entry out leaves

-- taking an object's entries out of a list drops the first entry if it is the object's
pub without_cons_yes : (d : DpcNo) (x : Insert) (xs : List Insert) → is_of_dpc d x ≡ true → without_dpc d (x ∷ xs) ≡ without_dpc d xs
without_cons_yes d x xs e = rw e

-- taking an object's entries out of a list keeps the first entry if it is another object's
pub without_cons_no : (d : DpcNo) (x : Insert) (xs : List Insert) → is_of_dpc d x ≡ false → without_dpc d (x ∷ xs) ≡ x ∷ without_dpc d xs
without_cons_no d x xs e = rw e

-- case: an object not in front nor in the rest after a removal isn't in the whole after it
holds_cons : (d e : DpcNo) (x : Insert) (xs : List Insert) → is_of_dpc d x ≡ false → holds_dpc d (without_dpc e xs) ≡ false → (b : Bool) → is_of_dpc e x ≡ b →
    holds_dpc d (without_dpc e (x ∷ xs)) ≡ false
holds_cons d e x xs h rest true k = rw (without_cons_yes e x xs k) rest
holds_cons d e x xs h rest false k =
    rw (without_cons_no e x xs k) (or_from (is_of_dpc d x) (holds_dpc d (without_dpc e xs)) h rest)

-- an object without an entry has none after another object's entries are taken out
pub holds-without : (d e : DpcNo) (xs : List Insert) → holds_dpc d xs ≡ false → holds_dpc d (without_dpc e xs) ≡ false
holds-without d e [] h = refl
holds-without d e (x ∷ xs) h =
    let p = or_parts (is_of_dpc d x) (holds_dpc d xs) h in
    holds_cons d e x xs p.0 (holds-without d e xs p.1) (is_of_dpc e x) refl

-- case: one entry in front; taking an object's entries out keeps at most one entry for each object
each_once_cons : (d : DpcNo) (count : ℕ) (x : Insert) (xs : List Insert) → EachOnceBelow count (x ∷ xs) → EachOnceBelow count (without_dpc d xs) → (b : Bool) →
    is_of_dpc d x ≡ b → EachOnceBelow count (without_dpc d (x ∷ xs))
each_once_cons d count x xs h rest true k = rw (without_cons_yes d x xs k) rest
each_once_cons d count x xs h rest false k =
    rw (without_cons_no d x xs k) (h.0, holds-without x.dpc d xs h.1, rest)

-- a list with at most one entry for each object is still so after an object's entries are taken out
pub each_once-without : (d : DpcNo) (count : ℕ) (xs : List Insert) → EachOnceBelow count xs → EachOnceBelow count (without_dpc d xs)
each_once-without d count [] h = tt
each_once-without d count (x ∷ xs) h =
    each_once_cons d count x xs h (each_once-without d count xs h.2) (is_of_dpc d x) refl

-- case: one entry in front; a list without an object's entries doesn't hold the object
left_out : (d : DpcNo) (x : Insert) (xs : List Insert) → holds_dpc d (without_dpc d xs) ≡ false → (b : Bool) → is_of_dpc d x ≡ b →
    holds_dpc d (without_dpc d (x ∷ xs)) ≡ false
left_out d x xs rest true k = rw (without_cons_yes d x xs k) rest
left_out d x xs rest false k =
    rw (without_cons_no d x xs k) (or_from (is_of_dpc d x) (holds_dpc d (without_dpc d xs)) k rest)

-- no entry of the object is left
pub holds-without_same : (d : DpcNo) (xs : List Insert) → holds_dpc d (without_dpc d xs) ≡ false
holds-without_same d [] = refl
holds-without_same d (x ∷ xs) = left_out d x xs (holds-without_same d xs) (is_of_dpc d x) refl

-- where there is no entry of it, nothing changes
pub without_none : (d : DpcNo) (xs : List Insert) → holds_dpc d xs ≡ false → without_dpc d xs ≡ xs
without_none d [] h = refl
without_none d (x ∷ xs) h =
    let p = or_parts (is_of_dpc d x) (holds_dpc d xs) h in
    rw (without_cons_no d x xs p.0) (ap (λ (ys : List Insert). x ∷ ys) (without_none d xs p.1))

-- ---- in order of insertion

-- the entry of the object at this place, taken out of the entries in order of insertion
pub reverse-remove : (d : DpcNo) (count : ℕ) (xs : List Insert) (i : ℕ) (y : Insert) → EachOnceBelow count (reverse xs) → position (is_of_dpc d) xs ≡ Some i →
    reverse (remove xs i) ≡ without_dpc d (reverse xs)
reverse-remove d count xs i y h e =
    let at : (y : Insert) → (i < length xs) × (is_of_dpc d (get_or xs i y) ≡ true) ×
    ((k : ℕ) → k < i → is_of_dpc d (get_or xs k y) ≡ false) = λ y. position-Some (is_of_dpc d) xs i y e in
    let few : length (filter (is_of_dpc d) (reverse xs)) ≤ 1 = length-filter-each_once d count (reverse xs) h in
    let one : length (filter (is_of_dpc d) xs) ≤ 1 = omega (arith, length-reverse (filter (is_of_dpc d) xs), ap length (filter-reverse (is_of_dpc d) xs)) in
    ap reverse (remove-only (is_of_dpc d) xs i (at y).0 (λ z. (at z).1) (λ k z m. (at z).2 k m) one) ∙ sym (filter-reverse (λ x. not (is_of_dpc d x)) xs)

-- there is room for the entry of an object that has none
pub room_left : (d : DpcNo) (count room : ℕ) (xs : List Insert) → EachOnceBelow count xs → count ≤ room → d.0 < count → holds_dpc d xs ≡ false →
    length xs < room
room_left d count room xs h r below new =
    let x : Insert = record { dpc = d; number = 0; part = OrdinaryPart; high = false } in
    let all : length (x ∷ xs) ≤ count = length-each_once count (x ∷ xs) (below, new, h) in omega arith

-- ---- of a queue

-- taking an object's entry out of a queue that has none of it changes nothing
pub without_entry_none : (d : DpcNo) (q : QueueFacts) → holds_dpc d q.state.pending ≡ false → without_entry d q ≡ q
without_entry_none d q h =
    ap (λ (xs : List Insert). let y : QueueFacts = record q { state = record q.state { pending = xs } } in y) (without_none d q.state.pending h)

-- a queue doesn't hold an object whose own state says that it isn't queued
stands_nowhere : (q : QueueFacts) (d : DpcNo) (s : Option Standing) → StandsHere q d s → is_some s ≡ false → holds_dpc d q.state.pending ≡ false
stands_nowhere q d None h e = h
stands_nowhere q d (Some x) h e = cc

-- a queue has no entry of an object that isn't queued
pub holds-unqueued : (q : QueueFacts) (o : ObjectFacts) → StandsHereOrNowhere q o → is_queued o.state ≡ false → holds_dpc o.dpc q.state.pending ≡ false
holds-unqueued q o h e = stands_nowhere q o.dpc o.state.standing h e
