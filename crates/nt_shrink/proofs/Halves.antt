-- The search by halves, from the back.
use Rattle.std.proofs.Common.{ap, arith, subst, sym, ◌∙◌}
use Rattle.std.proofs.Math.Seq.{take-append-add}
use Rattle.std.proofs.lemmas.Bool.Decides.{nat_tests}
use Rattle.std.proofs.lemmas.Bool.{eqb-true}
use Rattle.std.proofs.lemmas.List.{length-take-le, take-append-drop, take_rest}
use Rattle.std.specs.declared.alloc.AllocError.{AllocError}
use Rattle.std.specs.Bool.{then_some}
use Rattle.std.specs.List.{slice_range}
use Rattle.std.specs.Prelude.{Bool, Err, IfOk, List, None, Ok, Option, Result, Some, [], drop, false, if◌then◌else◌, is_some, length, map, refl, suc, take}
use Rattle.std.specs.Prelude.{true, zero, ℕ}
use Rattle.std.specs.Prelude.{◌++◌, ◌+◌, ◌-◌, ◌<◌, ◌==◌, ◌≡◌, ◌≢◌, ◌≤◌}
use Rattle.nt_event.specs.declared.events.Event.{Event}
use Rattle.nt_event.specs.declared.events.Turn.{Turn}
use Rattle.nt_event.specs.declared.scripts.Script.{Script}
use Rattle.nt_shrink.specs.declared.goals.Goal.{Goal}
use Rattle.nt_shrink.specs.declared.machine.Machine.{Machine}
use Rattle.nt_shrink.specs.Machines.{AreTaken, HasTaken, Refuses, Took}
use Rattle.nt_shrink.specs.Searches.{IsAnswer, IsMissed}
use Rattle.nt_shrink.specs.Shorter.{turn_without}
use Rattle.nt_shrink.specs.Spare.{greatest_below, is_spare}
use Rattle.nt_shrink.specs.Traces.{Traced, is_delivered, traced, traced_from}
use Rattle.nt_shrink.specs.Twins.{AreTwins, IsTwin}
use Rattle.nt_shrink.proofs.Greatest.{missed_next, passes_here}
use Rattle.nt_shrink.proofs.Machines.{trace_on, trace_stops}
use Rattle.nt_shrink.proofs.Pairs.{twin_fails}

-- ---- parts of a list

-- the first turns are those before an earlier place and those from it on
pub parts : (xs : List Turn) (low mid : ℕ) → low ≤ mid → mid ≤ length xs → take mid xs ≡ take low xs ++ slice_range xs low mid
parts xs low mid h k =
    let l : length (take low xs) ≡ low = length-take-le low xs (omega (arith, h, k)) in
    let sum : mid ≡ length (take low xs) + (mid - low) = omega (arith, l, h) in
    ap (λ (i : ℕ). take i xs) sum
    ∙ (ap (λ (ys : List Turn). take (length (take low xs) + (mid - low)) ys) (sym (take-append-drop low xs))
    ∙ take-append-add (take low xs) (drop low xs) (mid - low))

-- ---- a place after the turns that were taken

-- what the later turns give, without the place, tells whether it is spare
pub spare_here : (s : Script) (limit : ℕ) (g : Goal) (list later : List Turn) (at : ℕ) (m : Machine) (b : Bool) (h : HasTaken s limit g list at m) →
    later ≡ drop (at + 1) list → b ≡ is_delivered g (traced_from s limit h.end (map (turn_without at) later)) → b ≡ is_spare s limit g list at
spare_here s limit g list later at m b h k e =
    e
    ∙ (ap (λ (ts : List Turn). is_delivered g (traced_from s limit h.end (map (turn_without at) ts))) k
    ∙ sym (ap (λ (x : Traced). is_delivered g x) (trace_on s limit [] (take at list) (map (turn_without at) (drop (at + 1) list)) h.end h.traced_is)))

-- the same of the one place before another
pub spare_last : (s : Script) (limit : ℕ) (g : Goal) (list : List Turn) (low high : ℕ) (m : Machine) (b : Bool) (h : HasTaken s limit g list low m) →
    high ≡ suc low → b ≡ is_delivered g (traced_from s limit h.end (map (turn_without (high - 1)) (slice_range list high (length list)))) →
    b ≡ is_spare s limit g list low
spare_last s limit g list low high m b h k e =
    let one : high - 1 ≡ low = omega (arith, k) in
    let next : high ≡ low + 1 = omega (arith, k) in
    spare_here s limit g list (slice_range list high (length list)) low m b h (take_rest list high ∙ ap (λ (i : ℕ). drop i list) next)
    (e ∙ ap (λ (i : ℕ). is_delivered g (traced_from s limit h.end (map (turn_without i) (slice_range list high (length list))))) one)

-- a copy took the turns up to a later place
pub half_taken : (s : Script) (limit : ℕ) (g : Goal) (list : List Turn) (low mid : ℕ) (m later n : Machine) → later ≡ m → HasTaken s limit g list low m →
    low ≤ mid → mid ≤ length list → ((past : List Event) → Took s limit g past later → AreTaken s limit g (slice_range list low mid) past n) →
    HasTaken s limit g list mid n
half_taken s limit g list low mid m later n e h o l more =
    let a = more h.end (subst (Took s limit g h.end) (sym e) h.took) in
    record {
      end = a.end;
      traced_is = ap (traced_from s limit []) (parts list low mid o l)
          ∙ (trace_on s limit [] (take low list) (slice_range list low mid) h.end h.traced_is ∙ a.traced_is);
      took = a.took;
    }

-- where a turn before a later place is refused, that place isn't spare
pub refused_before : (s : Script) (limit : ℕ) (g : Goal) (list : List Turn) (low mid : ℕ) (m : Machine) (h : HasTaken s limit g list low m) →
    Refuses s limit (slice_range list low mid) h.end → low ≤ mid → (at : ℕ) → mid ≤ at → at ≤ length list → is_spare s limit g list at ≡ false
refused_before s limit g list low mid m h r o at k l =
    let first = take low list in
    let second = slice_range list low mid in
    let third = slice_range list mid at in
    let rest = map (turn_without at) (drop (at + 1) list) in
    let half : traced_from s limit [] (first ++ second) ≡ Err r.why = trace_on s limit [] first second h.end h.traced_is ∙ r.refused in
    let more = trace_stops s limit [] (first ++ second) third r.why half in
    let whole : traced s limit (((first ++ second) ++ third) ++ rest) ≡ Err r.why = trace_stops s limit [] ((first ++ second) ++ third) rest r.why more in
    let split : take at list ≡ (first ++ second) ++ third = parts list mid at k l
    ∙ ap (λ (ys : List Turn). ys ++ third) (parts list low mid o (omega (arith, k, l))) in
    ap (λ (x : Traced). is_delivered g x) (ap (λ (ys : List Turn). traced s limit (ys ++ rest)) split ∙ whole)

-- ---- numbers that are passed over

-- where failing goes on down from a place to a lower one, the search may go on below the lower one
down : (test : ℕ → Bool) (n : ℕ) (twins : List Bool) (d low high : ℕ) → high ≡ low + d →
    ((k : ℕ) → low ≤ k → k < high → test (suc k) ≡ false → test k ≡ false) → test high ≡ false → greatest_below test n ≡ greatest_below test high →
    (greatest_below test n ≡ greatest_below test low) × (test low ≡ false)
down test n twins zero low high e fall fails left =
    let same : high ≡ low = omega (arith, e) in
    (left ∙ ap (greatest_below test) same, ap test (sym same) ∙ fails)
down test n twins (suc d) low high e fall fails left =
    let one : high ≡ suc (low + d) = omega (arith, e) in
    let next : test (low + d) ≡ false = fall (low + d) (omega arith) (omega (arith, one)) (ap test (sym one) ∙ fails) in
    down test n twins d low (low + d) refl (λ k a b. fall k a (omega (arith, b, one))) next
    (left ∙ (ap (greatest_below test) one ∙ ap (λ (b : Bool). if b then Some (low + d) else greatest_below test (low + d)) next))

-- where each number from low on is a twin of the next one, they fail as the last does
pub missed_twins : (test : ℕ → Bool) (n : ℕ) (twins : List Bool) (low high : ℕ) → low ≤ high → IsMissed test n twins high →
    ((k : ℕ) → IsTwin twins (suc k) → test (suc k) ≡ false → test k ≡ false) → ((k : ℕ) → low < k → k ≤ high → IsTwin twins k) →
    IsMissed test n twins low
missed_twins test n twins low high o h together each = go (low == high) refl
  where
    go : (b : Bool) → (low == high) ≡ b → IsMissed test n twins low
    go true e =
        let same : low ≡ high = eqb-true low high e in
        subst (IsMissed test n twins) (sym same) h
    go false e =
        let other : low ≢ high = grind (arith, nat_tests) in
        let below : low < high = omega (arith, o, other) in
        let last : test high ≡ false = h.missed (each high below (omega arith)) in
        let d =
        down test n twins (high - low) low high (omega (arith, o)) (λ k a b. together k (each (suc k) (omega (arith, a)) (omega (arith, b)))) last h.left in
        record { left = d.0; missed = λ t. d.1 }

-- where each number from mid on fails, none of them is the answer
pub missed_half : (test : ℕ → Bool) (n : ℕ) (twins : List Bool) (mid high : ℕ) → mid < high → IsMissed test n twins high →
    ((at : ℕ) → mid ≤ at → at < high → test at ≡ false) → IsMissed test n twins mid
missed_half test n twins mid high o h each =
    let one : high ≡ suc (high - 1) = omega (arith, o) in
    let last : test (high - 1) ≡ false = each (high - 1) (omega (arith, o)) (omega (arith, o)) in
    let next = missed_next test n twins high (high - 1) h one last in
    let d = down test n twins (high - 1 - mid) mid (high - 1) (omega (arith, o)) (λ k a b c. each k a (omega (arith, b))) last next.left in
    record { left = d.0; missed = λ t. d.1 }

-- ---- twins of the list

-- if a place that is a twin of the one before it is not spare, then the one before is not spare either
pub fail_together : (s : Script) (limit : ℕ) (g : Goal) (list : List Turn) (twins : List Bool) → AreTwins list twins → (k : ℕ) → IsTwin twins (suc k) →
    is_spare s limit g list (suc k) ≡ false → is_spare s limit g list k ≡ false
fail_together s limit g list twins h k t f = twin_fails s limit g list twins (suc k) k h refl t f

-- ---- the answer

-- one place is left: it is the answer, or none is
pub one_place : (test : ℕ → Bool) (n : ℕ) (twins : List Bool) (low last high : ℕ) (b : Bool) → high ≡ suc low → low ≡ last → IsMissed test n twins high →
    b ≡ test low → IsAnswer test n twins low (then_some b last)
one_place test n twins low last high true e i h k = h.left ∙ (passes_here test high low e (sym k) ∙ ap Some i)
one_place test n twins low last high false e i h k = missed_next test n twins high low h e (sym k)

-- what the later half answers is the answer, where it is a place
pub found_later : (test : ℕ → Bool) (n : ℕ) (twins : List Bool) (low mid : ℕ) (o : Option ℕ) → is_some o ≡ true → IsAnswer test n twins mid o →
    IsAnswer test n twins low o
found_later test n twins low mid (Some at) h k = k
found_later test n twins low mid None h k = absurd cc

-- where it is none, the later half is passed over
pub none_later : (test : ℕ → Bool) (n : ℕ) (twins : List Bool) (mid : ℕ) (o : Option ℕ) → is_some o ≡ false → IsAnswer test n twins mid o →
    IsMissed test n twins mid
none_later test n twins mid None h k = k
none_later test n twins mid (Some at) h k = absurd cc

-- there is none, so it isn't one
pub not_found : {A : Type 0} (o : Option ℕ) → o ≡ None → is_some o ≡ true → A
not_found None h k = absurd cc
not_found (Some at) h k = absurd cc

-- from 0 on
pub whole_answer : (test : ℕ → Bool) (n : ℕ) (twins : List Bool) (o : Option ℕ) → IsAnswer test n twins 0 o → o ≡ greatest_below test n
whole_answer test n twins (Some at) h = sym h
whole_answer test n twins None h = sym h.left

-- what the search by halves down to 0 answers is the greatest number that passes, or none if none does
pub whole_search : (test : ℕ → Bool) (n : ℕ) (twins : List Bool) (r : Result (Option ℕ) AllocError) → IfOk r (IsAnswer test n twins 0) →
    IfOk r (λ o. o ≡ greatest_below test n)
whole_search test n twins (Ok o) h = whole_answer test n twins o h
whole_search test n twins (Err e) h = tt
