-- How many inserts are pending: taking one out leaves fewer.
use Rattle.std.proofs.Common.{◌≡◌, ◌<◌, Bool, true, false, List, [], ◌∷◌, Some, arith, length, not, refl, reverse, sym, ◌∙◌}
use Rattle.nt_event.specs.declared.commands.ApcKind.{ApcKind}
use Rattle.nt_event.specs.declared.inserts.Pick.{Pick}
use Rattle.nt_event.specs.declared.numbers.ApcNo.{ApcNo}
use Rattle.nt_event.specs.Apcs.{ApcQueues, first_of_kind, is_inserted, is_of_apc, is_of_kind, without_apc}
use Rattle.nt_event.proofs.Reversed.{list_any-reverse}
use Rattle.std.specs.Bool.{OnTrue}
use Rattle.std.specs.List.{filter, find, list_any}
use Rattle.std.proofs.lemmas.Bool.{eq-eqb, or_left, or_right}
use Rattle.std.proofs.lemmas.List.Filters.{length-filter_both}

-- where one passes the test, the list of those that pass has one
some_passes : (p : Pick → Bool) (xs : List Pick) → list_any p xs ≡ true → 0 < length (filter p xs)
some_passes p [] h = absurd (cc)
some_passes p (x ∷ xs) h = go (some_passes p xs) (p x) refl
  where
    go : (list_any p xs ≡ true → 0 < length (filter p xs)) → (b : Bool) → p x ≡ b → 0 < length (filter p (x ∷ xs))
    go rest true e = rw e (omega arith)
    go rest false e = rw e (rest (rw e at h))

-- an inserted object taken out leaves fewer
pub fewer_without : (a : ApcNo) (q : ApcQueues) → is_inserted a q ≡ true → length (without_apc a q).pending < length q.pending
fewer_without a q h =
    omega (arith, length-filter_both (is_of_apc a) (λ x. not (is_of_apc a x)) (λ x. refl) q.pending, some_passes (is_of_apc a) q.pending h)

-- taking a pending APC's insert out leaves fewer pending inserts
pub fewer_if : (a : ApcNo) (q new : ApcQueues) (b : Bool) → new ≡ without_apc a q → b ≡ is_inserted a q → OnTrue b (length new.pending < length q.pending)
fewer_if a q new true e h = rw e (fewer_without a q (sym h))
fewer_if a q new false e h = tt

-- if a search finds an insert, some insert of the list is of its APC object
found_is_in : (p : Pick → Bool) (xs : List Pick) (x : Pick) → find p xs ≡ Some x → list_any (is_of_apc x.apc) xs ≡ true
found_is_in p [] x h = absurd (cc)
found_is_in p (y ∷ xs) x h = go (found_is_in p xs x) (p y) refl
  where
    go : (find p xs ≡ Some x → list_any (is_of_apc x.apc) xs ≡ true) → (b : Bool) → p y ≡ b → list_any (is_of_apc x.apc) (y ∷ xs) ≡ true
    go rest true e =
        let is : Some y ≡ Some x = rw e at h in
        let same : y.apc.0 ≡ x.apc.0 = cc in or_left (is_of_apc x.apc y) (list_any (is_of_apc x.apc) xs) (eq-eqb y.apc.0 x.apc.0 same)
    go rest false e = or_right (is_of_apc x.apc y) (list_any (is_of_apc x.apc) xs) (rest (rw e at h))

-- the first one of a kind taken out leaves fewer
pub fewer_flushed : (kind : ApcKind) (q : ApcQueues) (x : Pick) → first_of_kind kind q ≡ Some x → length (without_apc x.apc q).pending < length q.pending
fewer_flushed kind q x h =
    fewer_without x.apc q (sym (list_any-reverse (is_of_apc x.apc) q.pending) ∙ found_is_in (is_of_kind kind) (reverse q.pending) x h)
