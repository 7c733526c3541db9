-- What a removal leaves of the queues that contracts see, whose list is the reverse of the code's.
use Rattle.std.proofs.Common.{◌≡◌, Bool, List, ap, false, not, reverse, sym, true, ◌∙◌}
use Rattle.std.proofs.lemmas.Bool.{and_parts, not-true}
use Rattle.std.specs.Bool.{OnFalse}
use Rattle.std.specs.List.{filter, list_any}
use Rattle.nt_event.specs.Apcs.{ApcQueues, is_inserted, is_of_apc, takes, without_apc}
use Rattle.nt_event.specs.declared.inserts.Pick.{Pick}
use Rattle.nt_event.specs.declared.numbers.ApcNo.{ApcNo}
use Rattle.nt_apc.proofs.Inserts.{filter-none}
use Rattle.nt_event.proofs.Reversed.{filter-reverse, list_any-reverse}

abbrev pub seen : List Pick → Bool → ApcQueues
seen xs closed = record { pending = reverse xs; closed = closed }

-- an APC object that the queues take has no entry in the code's list
pub fresh-from_takes : (a : ApcNo) (xs : List Pick) (closed : Bool) (q : ApcQueues) → seen xs closed ≡ q → takes a q ≡ true → list_any (is_of_apc a) xs ≡ false
fresh-from_takes a xs closed q e h =
    let takes_it : takes a (seen xs closed) ≡ true = ap (λ (x : ApcQueues). takes a x) e ∙ h in
    sym (list_any-reverse (is_of_apc a) xs) ∙ not-true _ ((and_parts _ _ takes_it).1)

-- an APC object has an entry in the code's list exactly if it is inserted in the queues of the contracts
pub is_inserted-seen : (a : ApcNo) (xs : List Pick) (closed : Bool) (q : ApcQueues) → seen xs closed ≡ q → list_any (is_of_apc a) xs ≡ is_inserted a q
is_inserted-seen a xs closed q e = sym (list_any-reverse (is_of_apc a) xs) ∙ ap (λ (x : ApcQueues). is_inserted a x) e

-- filtering an object out of the code's list takes it out of the queues of the contracts
pub seen-without : (a : ApcNo) (xs ys : List Pick) (closed : Bool) (q : ApcQueues) → seen xs closed ≡ q → ys ≡ filter (λ x. not (is_of_apc a x)) xs →
    seen ys closed ≡ without_apc a q
seen-without a xs ys closed q e out =
    ap (λ (zs : List Pick). seen zs closed) out ∙ ap (λ (zs : List Pick). let r : ApcQueues = record { pending = zs; closed = closed } in r)
    (sym (filter-reverse (λ x. not (is_of_apc a x)) xs)) ∙ ap (λ (x : ApcQueues). without_apc a x) e

-- filtering out an object that has no entry in the code's list leaves the queues of the contracts as they were
pub seen-same : (a : ApcNo) (xs ys : List Pick) (closed : Bool) (q : ApcQueues) (b : Bool) → seen xs closed ≡ q → ys ≡ filter (λ x. not (is_of_apc a x)) xs →
    b ≡ list_any (is_of_apc a) xs → OnFalse b (seen ys closed ≡ q)
seen-same a xs ys closed q true e out h = tt
seen-same a xs ys closed q false e out h =
    ap (λ (zs : List Pick). seen zs closed) (out ∙ filter-none (is_of_apc a) xs (sym h)) ∙ e
