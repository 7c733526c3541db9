-- What is known of expectations, while failures are noted.
use Rattle.std.proofs.Common.{ap, arith, inl, inr, subst, sym, ◌∙◌}
use Rattle.std.proofs.lemmas.Bool.{ltb-false, ltb-true}
use Rattle.std.proofs.lemmas.Bool.Decides.{nat_tests}
use Rattle.std.proofs.lemmas.List.{get_or-append-add, get_or-set_other, get_or-set_same, get_or_append_left, get_or_default, length-append, length-map}
use Rattle.std.proofs.lemmas.List.{length-set}
use Rattle.std.specs.Prelude.{Bool, List, None, Option, Some, [], false, get_or, length, nat_lt, refl, set, suc, true, zero, ℕ, ◌++◌, ◌+◌, ◌<◌, ◌==◌}
use Rattle.std.specs.Prelude.{◌∷◌}
use Rattle.std.specs.Prelude.{◌≡◌, ◌⊎◌}
use Rattle.nt_event.specs.declared.scripts.Script.{Script}
use Rattle.nt_expect.specs.declared.expectations.Expectation.{Expectation}
use Rattle.nt_expect.specs.declared.expectations.Expectation.TheVariants.{AlwaysEnds}
use Rattle.nt_search.specs.declared.failures.Failure.{Failure}
use Rattle.nt_search.specs.Failures.{EachUnnoted, FailsAt}
use Rattle.nt_verdict.specs.Fails.{Fails}
use Rattle.nt_findings.specs.Known.{AreKnown, AreNotedAt, AreNotedTo, AreUnknown, AreUnknownTo, HoldTheOthers, IsKnown, at_places}
use Rattle.nt_findings.proofs.Fitting.{at_place}

-- where no number is known, all that is known is so
pub none_is_known : (s : Script) (xs : List Expectation) (fails : List (Option ℕ)) → length fails ≡ length xs → ((j : ℕ) → get_or fails j None ≡ None) →
    AreKnown s xs fails
none_is_known s xs fails count none = record {
  count = count;
  each = λ j d low. subst (IsKnown s (get_or xs j d)) (sym (none j)) tt;
}

-- one place more without a number
pub push_none : (xs new : List (Option ℕ)) → ((j : ℕ) → get_or xs j None ≡ None) → new ≡ xs ++ None ∷ [] → (j : ℕ) → get_or new j None ≡ None
push_none xs new none e j = ap (λ (ys : List (Option ℕ)). get_or ys j None) e ∙ go xs j (none j)
  where
    go : (xs : List (Option ℕ)) (j : ℕ) → get_or xs j None ≡ None → get_or (xs ++ None ∷ []) j None ≡ None
    go [] zero q = refl
    go [] (suc j) q = refl
    go (x ∷ xs) zero q = q
    go (x ∷ xs) (suc j) q = go xs j q

-- ---- the places of which nothing is known

-- a place where it is known is passed over
pub unknown_kept : (fails : List (Option ℕ)) (places : List ℕ) (n : ℕ) → AreUnknownTo fails places n → (get_or fails n None ≡ None → ⊥) →
    AreUnknownTo fails places (n + 1)
unknown_kept fails places n h known = record { low = h.low; all = λ j low none. go j low none (nat_lt j n) refl }
  where
    go : (j : ℕ) → j < n + 1 → get_or fails j None ≡ None → (b : Bool) → nat_lt j n ≡ b → (k : ℕ) × (k < length places) × (get_or places k 0 ≡ j)
    go j low none true q = h.all j (ltb-true j n q) none
    go j low none false q =
        let l = ltb-false j n q in
        let same : j ≡ n = omega (arith, l, low) in
        absurd (known (subst (λ (m : ℕ). get_or fails m None ≡ None) same none))

-- and one where it isn't is added
pub unknown_more : (fails : List (Option ℕ)) (places new : List ℕ) (n : ℕ) → AreUnknownTo fails places n → n < length fails → new ≡ places ++ n ∷ [] →
    AreUnknownTo fails new (n + 1)
unknown_more fails places new n h inside e = subst (λ (ps : List ℕ). AreUnknownTo fails ps (n + 1)) (sym e) (record {
  low = λ k d low. in_both k d low (nat_lt k (length places)) refl;
  all = λ j low none. go j low none (nat_lt j n) refl;
})
  where
    size : length (places ++ n ∷ []) ≡ length places + 1
    size = length-append places (n ∷ [])

    last : (d : ℕ) → get_or (places ++ n ∷ []) (length places) d ≡ n
    last d =
        let at : length places + 0 ≡ length places = omega arith in
        ap (λ (m : ℕ). get_or (places ++ n ∷ []) m d) (sym at) ∙ get_or-append-add places (n ∷ []) 0 d

    in_both : (k d : ℕ) → k < length (places ++ n ∷ []) → (b : Bool) → nat_lt k (length places) ≡ b → get_or (places ++ n ∷ []) k d < length fails
    in_both k d low true q =
        let l = ltb-true k (length places) q in
        subst (λ (m : ℕ). m < length fails) (sym (get_or_append_left places (n ∷ []) d k l)) (h.low k d l)
    in_both k d low false q =
        let l = ltb-false k (length places) q in
        let same : length places ≡ k = omega (arith, l, low, size) in
        subst (λ (m : ℕ). get_or (places ++ n ∷ []) m d < length fails) same (subst (λ (m : ℕ). m < length fails) (sym (last d)) inside)

    go : (j : ℕ) → j < n + 1 → get_or fails j None ≡ None → (b : Bool) → nat_lt j n ≡ b →
        (k : ℕ) × (k < length (places ++ n ∷ [])) × (get_or (places ++ n ∷ []) k 0 ≡ j)
    go j low none true q =
        let was = h.all j (ltb-true j n q) none in
        let l = was.1 in
        (was.0, omega (arith, l, size), get_or_append_left places (n ∷ []) 0 was.0 was.1 ∙ was.2)
    go j low none false q =
        let l = ltb-false j n q in
        let same : n ≡ j = omega (arith, l, low) in
        (length places, omega (arith, size), last 0 ∙ same)

-- ---- failures that are noted

-- at first none is noted
pub noted_none : (places : List ℕ) (failures : List (Option Failure)) (old : List (Option ℕ)) → AreNotedTo places failures old old 0
noted_none places failures old = record {
  length_is = refl;
  each = λ j. inl refl;
  noted = λ k low. absurd (omega (arith, low));
}

-- where there is no failure, nothing changes
pub noted_kept : (places : List ℕ) (failures : List (Option Failure)) (old new : List (Option ℕ)) (n : ℕ) → AreNotedTo places failures old new n →
    get_or failures n None ≡ None → AreNotedTo places failures old new (n + 1)
noted_kept places failures old new n h none = record {
  length_is = h.length_is;
  each = λ j. more (h.each j);
  noted = λ k low q. go k low q (nat_lt k n) refl;
}
  where
    more : {j : ℕ} → (get_or new j None ≡ get_or old j None)
        ⊎ ((k : ℕ) × (k < n) × (get_or places k 0 ≡ j) × (f : Failure) × (get_or failures k None ≡ Some f) × (get_or new j None ≡ Some f.at)) →
        (get_or new j None ≡ get_or old j None)
        ⊎ ((k : ℕ) × (k < n + 1) × (get_or places k 0 ≡ j) × (f : Failure) × (get_or failures k None ≡ Some f) × (get_or new j None ≡ Some f.at))
    more (inl same) = inl same
    more (inr by) = let low = by.1 in inr (by.0, omega (arith, low), by.2, by.3, by.4, by.5)

    go : (k : ℕ) → k < n + 1 → get_or new (get_or places k 0) None ≡ None → (b : Bool) → nat_lt k n ≡ b → get_or failures k None ≡ None
    go k low q true t = h.noted k (ltb-true k n t) q
    go k low q false t =
        let l = ltb-false k n t in
        let same : n ≡ k = omega (arith, l, low) in
        subst (λ (m : ℕ). get_or failures m None ≡ None) same none

-- where there is one, its number is noted
pub noted_more : (places : List ℕ) (failures : List (Option Failure)) (old mid new : List (Option ℕ)) (n place : ℕ) (f : Failure) →
    AreNotedTo places failures old mid n → place ≡ get_or places n 0 → place < length old → get_or failures n None ≡ Some f →
    new ≡ set mid place (Some f.at) → AreNotedTo places failures old new (n + 1)
noted_more places failures old mid new n place f h is low one e = subst (λ (fs : List (Option ℕ)). AreNotedTo places failures old fs (n + 1)) (sym e) (record {
  length_is = length-set mid place (Some f.at) ∙ h.length_is;
  each = λ j. at j (j == place) refl (h.each j);
  noted = λ k l q. go k l q (nat_lt k n) refl (get_or places k 0 == place) refl;
})
  where
    there : place < length mid
    there = let same = h.length_is in omega (arith, low, same)

    here : get_or (set mid place (Some f.at)) place None ≡ Some f.at
    here = get_or-set_same mid place (Some f.at) None there

    other : (j : ℕ) → (j == place) ≡ false → get_or (set mid place (Some f.at)) j None ≡ get_or mid j None
    other j q = get_or-set_other mid place j (Some f.at) None (λ same. let t = q in grind (arith, nat_tests, same, t))

    clash : {x : ℕ} (o : Option ℕ) → o ≡ Some x → o ≡ None → ⊥
    clash o a b = cc

    at : (j : ℕ) (b : Bool) → (j == place) ≡ b → (get_or mid j None ≡ get_or old j None)
        ⊎ ((k : ℕ) × (k < n) × (get_or places k 0 ≡ j) × (g : Failure) × (get_or failures k None ≡ Some g) × (get_or mid j None ≡ Some g.at)) →
        (get_or (set mid place (Some f.at)) j None ≡ get_or old j None)
        ⊎ ((k : ℕ) × (k < n + 1) × (get_or places k 0 ≡ j) × (g : Failure) × (get_or failures k None ≡ Some g)
        × (get_or (set mid place (Some f.at)) j None ≡ Some g.at))
    at j true q was =
        let same : place ≡ j = grind (arith, nat_tests, q) in
        inr (n, omega arith, sym is ∙ same, f, one, subst (λ (m : ℕ). get_or (set mid place (Some f.at)) m None ≡ Some f.at) same here)
    at j false q (inl same) = inl (other j q ∙ same)
    at j false q (inr by) = let l = by.1 in inr (by.0, omega (arith, l), by.2, by.3, by.4, other j q ∙ by.5)

    go : (k : ℕ) → k < n + 1 → get_or (set mid place (Some f.at)) (get_or places k 0) None ≡ None → (b : Bool) → nat_lt k n ≡ b → (c : Bool) →
        (get_or places k 0 == place) ≡ c → get_or failures k None ≡ None
    go k l q b t true u =
        let same : place ≡ get_or places k 0 = grind (arith, nat_tests, u) in
        absurd (clash (get_or (set mid place (Some f.at)) (get_or places k 0) None)
        (subst (λ (m : ℕ). get_or (set mid place (Some f.at)) m None ≡ Some f.at) same here) q)
    go k l q true t false u = h.noted k (ltb-true k n t) (sym (other (get_or places k 0) u) ∙ q)
    go k l q false t false u =
        let m = ltb-false k n t in
        let same : n ≡ k = omega (arith, m, l) in
        let hit : get_or places k 0 ≡ place = ap (λ (i : ℕ). get_or places i 0) (sym same) ∙ sym is in
        absurd (grind (arith, nat_tests, hit, u))

-- in either case
pub noted_either : (places : List ℕ) (failures : List (Option Failure)) (old mid new : List (Option ℕ)) (n : ℕ) → AreNotedTo places failures old mid n →
    get_or places n 0 < length old → (get_or failures n None ≡ None → new ≡ mid) →
    ((f : Failure) → get_or failures n None ≡ Some f → new ≡ set mid (get_or places n 0) (Some f.at)) → AreNotedTo places failures old new (n + 1)
noted_either places failures old mid new n h low kept noted = go (get_or failures n None) refl
  where
    go : (o : Option Failure) → get_or failures n None ≡ o → AreNotedTo places failures old new (n + 1)
    go None q = subst (λ (fs : List (Option ℕ)). AreNotedTo places failures old fs (n + 1)) (sym (kept q)) (noted_kept places failures old mid n h q)
    go (Some f) q = noted_more places failures old mid new n (get_or places n 0) f h refl low q (noted f q)

-- what is known once they are noted
pub known_on : (s : Script) (xs : List Expectation) (places : List ℕ) (failures : List (Option Failure)) (old new : List (Option ℕ)) →
    AreKnown s xs old → AreUnknown old places → AreNotedAt places failures old new →
    ((k : ℕ) (d : Expectation) (f : Failure) → k < length (at_places xs places) → get_or failures k None ≡ Some f →
    FailsAt s (get_or (at_places xs places) k d) f.at) → AreKnown s xs new
known_on s xs places failures old new known unknown noted fails = record { count = noted.length_is ∙ known.count; each = λ j d low. go j d low (noted.each j) }
  where
    go : (j : ℕ) (d : Expectation) → j < length xs → (get_or new j None ≡ get_or old j None)
        ⊎ ((k : ℕ) × (k < length places) × (get_or places k 0 ≡ j) × (f : Failure) × (get_or failures k None ≡ Some f) × (get_or new j None ≡ Some f.at)) →
        IsKnown s (get_or xs j d) (get_or new j None)
    go j d low (inl same) = subst (IsKnown s (get_or xs j d)) (sym same) (known.each j d low)
    go j d low (inr by) =
        let size = length-map places (λ i. get_or xs i AlwaysEnds) in
        let inside = by.1 in
        let one = fails by.0 AlwaysEnds by.3 (omega (arith, inside, size)) by.4 in
        let here : get_or (at_places xs places) by.0 AlwaysEnds ≡ get_or xs j AlwaysEnds =
        at_place xs places by.0 AlwaysEnds by.1 ∙ ap (λ (i : ℕ). get_or xs i AlwaysEnds) by.2 in
        subst (IsKnown s (get_or xs j d)) (sym by.5)
        (subst (λ (x : Expectation). FailsAt s x by.3.at) (here ∙ get_or_default xs j AlwaysEnds d low) one)

-- and where all states were searched for those of which it was not known, the others hold
pub hold_on : (s : Script) (whole : Bool) (xs : List Expectation) (places : List ℕ) (failures : List (Option Failure)) (old new : List (Option ℕ)) →
    length old ≡ length xs → AreUnknown old places → AreNotedAt places failures old new →
    (whole ≡ true → EachUnnoted (λ e. (e ≡ AlwaysEnds → ⊥) → Fails s e → ⊥) (at_places xs places) failures) → HoldTheOthers s whole xs new
hold_on s whole xs places failures old new count unknown noted holds q j d low none = go (noted.each j)
  where
    clash : {x : ℕ} (o : Option ℕ) → o ≡ Some x → o ≡ None → ⊥
    clash o a b = cc

    go : (get_or new j None ≡ get_or old j None)
        ⊎ ((k : ℕ) × (k < length places) × (get_or places k 0 ≡ j) × (f : Failure) × (get_or failures k None ≡ Some f) × (get_or new j None ≡ Some f.at)) →
        (get_or xs j d ≡ AlwaysEnds → ⊥) → Fails s (get_or xs j d) → ⊥
    go (inr by) = absurd (clash (get_or new j None) by.5 none)
    go (inl same) =
        let at = unknown.all j (omega (arith, low, count)) (sym same ∙ none) in
        let size = length-map places (λ i. get_or xs i AlwaysEnds) in
        let inside = at.1 in
        let free = noted.noted at.0 at.1 (subst (λ (i : ℕ). get_or new i None ≡ None) (sym at.2) none) in
        let here : get_or (at_places xs places) at.0 AlwaysEnds ≡ get_or xs j d =
        at_place xs places at.0 AlwaysEnds at.1 ∙ ap (λ (i : ℕ). get_or xs i AlwaysEnds) at.2 ∙ get_or_default xs j AlwaysEnds d low in
        subst (λ (x : Expectation). (x ≡ AlwaysEnds → ⊥) → Fails s x → ⊥) here (holds q at.0 AlwaysEnds (omega (arith, inside, size)) free)

-- of no places none are known
pub no_places : (fails : List (Option ℕ)) → AreUnknownTo fails [] 0
no_places fails = record { low = λ k d low. absurd (omega (arith, low)); all = λ j low. absurd (omega (arith, low)) }
