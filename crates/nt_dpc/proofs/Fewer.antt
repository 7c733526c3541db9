-- How many entries a queue has, and which object its first entry is of.
use Rattle.std.proofs.Common.{◌≡◌, ◌<◌, ◌≤◌, Bool, true, false, List, [], ◌∷◌, Option, Some, None, ℕ, arith, length, refl, reverse, sym, ◌∙◌}
use Rattle.std.proofs.Common.{ap, inl, inr}
use Rattle.nt_event.specs.declared.inserts.Insert.{Insert}
use Rattle.nt_event.specs.declared.inserts.Part.{Part}
use Rattle.nt_event.specs.declared.numbers.DpcNo.{DpcNo}
use Rattle.nt_event.specs.Queues.{first_dpc, is_high_in, is_in, is_of_dpc, without_dpc}
use Rattle.nt_dpc.specs.Objects.{ObjectFacts}
use Rattle.nt_dpc.specs.Queues.{EachOnceBelow, QueueFacts, StandsHere, StandsHereOrNowhere, first_entry, holds_dpc}
use Rattle.nt_event.specs.declared.inserts.Standing.{Standing}
use Rattle.nt_event.specs.Objects.{is_queued}
use Rattle.nt_dpc.proofs.Numbered.{Stands, find_stands}
use Rattle.nt_dpc.proofs.Once.{without_cons_no, without_cons_yes}
use Rattle.std.specs.List.{find}
use Rattle.std.specs.Option.{is_some, option_map, option_or}
use Rattle.std.proofs.lemmas.Bool.{eq-eqb, eqb-true, or_cases, or_left, or_right}
use Rattle.nt_event.proofs.Reversed.{list_any-reverse}

-- an object's entry taken out leaves no more
no_more_without : (d : DpcNo) (xs : List Insert) → length (without_dpc d xs) ≤ length xs
no_more_without d [] = omega arith
no_more_without d (x ∷ xs) = go (no_more_without d xs) (is_of_dpc d x) refl
  where
    go : length (without_dpc d xs) ≤ length xs → (b : Bool) → is_of_dpc d x ≡ b → length (without_dpc d (x ∷ xs)) ≤ length (x ∷ xs)
    go rest true e = rw (without_cons_yes d x xs e) (omega arith)
    go rest false e = rw (without_cons_no d x xs e) (omega arith)

-- and fewer, where it has one
pub fewer_without : (d : DpcNo) (xs : List Insert) → holds_dpc d xs ≡ true → length (without_dpc d xs) < length xs
fewer_without d [] h = absurd (cc)
fewer_without d (x ∷ xs) h = go (no_more_without d xs) (fewer_without d xs) (is_of_dpc d x) refl
  where
    go : length (without_dpc d xs) ≤ length xs → (holds_dpc d xs ≡ true → length (without_dpc d xs) < length xs) → (b : Bool) → is_of_dpc d x ≡ b →
        length (without_dpc d (x ∷ xs)) < length (x ∷ xs)
    go most fewer true e = rw (without_cons_yes d x xs e) (omega arith)
    go most fewer false e = let rest = fewer (rw e at h) in rw (without_cons_no d x xs e) (omega arith)

-- a list holds the object of each insert that is in it
stands_held : (x : Insert) (ys : List Insert) → Stands x ys → holds_dpc x.dpc ys ≡ true
stands_held x [] at = absurd at
stands_held x (y ∷ ys) (inl e) =
    or_left (is_of_dpc x.dpc y) (holds_dpc x.dpc ys) (eq-eqb y.dpc.0 x.dpc.0 (ap (λ (z : Insert). z.dpc.0) (sym e)))
stands_held x (y ∷ ys) (inr at) = or_right (is_of_dpc x.dpc y) (holds_dpc x.dpc ys) (stands_held x ys at)

-- the first entry of a part is of an object that has one
first_held : (part : Part) (xs : List Insert) (x : Insert) → first_dpc part xs ≡ Some x → holds_dpc x.dpc xs ≡ true
first_held part xs x h = go (find (is_high_in part) xs) refl h
  where
    go : (o : Option Insert) → find (is_high_in part) xs ≡ o → option_or o (find (is_in part) (reverse xs)) ≡ Some x → holds_dpc x.dpc xs ≡ true
    go (Some y) e k = let same : y ≡ x = cc in stands_held x xs (find_stands (is_high_in part) xs x (rw same at e)).0
    go None e k =
        sym (list_any-reverse (is_of_dpc x.dpc) xs) ∙ stands_held x (reverse xs) (find_stands (is_in part) (reverse xs) x k).0

-- an object held by a list with at most one entry for each below the count is below the count
held_below : (d : DpcNo) (count : ℕ) (xs : List Insert) → EachOnceBelow count xs → holds_dpc d xs ≡ true → d.0 < count
held_below d count [] each h = absurd (cc)
held_below d count (x ∷ xs) each h =
    elim (or_cases (is_of_dpc d x) (holds_dpc d xs) h) [
      | inl here ↦ let e = eqb-true x.dpc.0 d.0 here in omega (arith, each.0)
      | inr there ↦ held_below d count xs each.2 there
    ]

-- the object of a part's first entry is held by the queue
entry_held : (part : Part) (q : QueueFacts) (d : DpcNo) (o : Option Insert) → first_dpc part q.state.pending ≡ o →
    option_map (λ (e : DpcNo × ℕ). e.0) (option_map (λ (x : Insert). (x.dpc, x.number)) o) ≡ Some d → holds_dpc d q.state.pending ≡ true
entry_held part q d None e h = absurd (cc)
entry_held part q d (Some x) e h =
    let same : x.dpc ≡ d = cc in rw (← same) (first_held part q.state.pending x e)

-- the first entry taken out leaves one fewer
pub fewer_taken : (part : Part) (q : QueueFacts) (d : DpcNo) → option_map (λ (e : DpcNo × ℕ). e.0) (first_entry part q) ≡ Some d →
    length (without_dpc d q.state.pending) < length q.state.pending
fewer_taken part q d h =
    fewer_without d q.state.pending (entry_held part q d (first_dpc part q.state.pending) refl h)

-- the first entry is of an object below the count
pub first_below : (part : Part) (xs : List Insert) (count : ℕ) (x : Insert) → EachOnceBelow count xs → first_dpc part xs ≡ Some x → x.dpc.0 < count
first_below part xs count x each h = held_below x.dpc count xs each (first_held part xs x h)

-- an object that stands in a queue by its own state is held by the queue
stands_somewhere : (q : QueueFacts) (d : DpcNo) (s : Option Standing) → StandsHere q d s → is_some s ≡ true → holds_dpc d q.state.pending ≡ true
stands_somewhere q d None h e = absurd (cc)
stands_somewhere q d (Some x) h e = h.1

-- an object that is queued and may stand here alone has an entry here
pub holds-queued : (q : QueueFacts) (o : ObjectFacts) → StandsHereOrNowhere q o → is_queued o.state ≡ true → holds_dpc o.dpc q.state.pending ≡ true
holds-queued q o h e = stands_somewhere q o.dpc o.state.standing h e
