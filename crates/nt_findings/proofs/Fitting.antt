-- That lists of expectations fit, and what stands in them.
use Rattle.std.proofs.Common.{[], arith, inl, inr, subst, sym, ◌∙◌}
use Rattle.std.proofs.lemmas.Bool.{and_from, and_parts, ltb-false, ltb-true}
use Rattle.std.proofs.lemmas.List.{get_or-append-add, get_or-map, get_or_append_left, get_or_default, length-append, length-map}
use Rattle.std.specs.Prelude.{All, Bool, List, false, get_or, length, map, nat_lt, refl, suc, true, ℕ, ◌++◌, ◌+◌, ◌<◌, ◌∷◌, ◌≡◌}
use Rattle.nt_event.specs.declared.scripts.Script.{Script}
use Rattle.nt_alike.specs.Lists.{Among}
use Rattle.nt_expect.specs.declared.expectations.Expectation.{Expectation}
use Rattle.nt_expect.specs.declared.expectations.Expectation.TheVariants.{Always, AlwaysEnds, Never, NeverAbove, NeverAfter, NeverBefore, NeverBlocked}
use Rattle.nt_expect.specs.declared.expectations.Expectation.TheVariants.{NeverOn, NeverSpins, NeverTwice, NeverWaitsApc, NeverWaitsDpc, NeverWith}
use Rattle.nt_expect.specs.declared.expectations.Watched.{Watched}
use Rattle.nt_expect.specs.Expectations.{expectation_fits, expectations_fit, watched_fits}
use Rattle.nt_search.proofs.Judged.{named_at}
use Rattle.nt_verdict.specs.Closed.{watched_by}
use Rattle.nt_findings.specs.declared.spoken.Spoken.{Spoken}
use Rattle.nt_findings.specs.Known.{at_places}
use Rattle.nt_findings.specs.Spoken.{IsSpoken, with_events}

-- if each of them fits, the list does
fit_all : (s : Script) (xs : List Expectation) → ((k : ℕ) → k < length xs → expectation_fits s (get_or xs k AlwaysEnds) ≡ true) →
    expectations_fit s xs ≡ true
fit_all s [] h = refl
fit_all s (x ∷ xs) h =
    and_from (expectation_fits s x) (expectations_fit s xs) (h 0 (omega arith)) (fit_all s xs (λ k low. h (suc k) (omega (arith, low))))

-- if the list fits, each of them does
pub fit_at : (s : Script) (xs : List Expectation) (j : ℕ) → expectations_fit s xs ≡ true → j < length xs →
    expectation_fits s (get_or xs j AlwaysEnds) ≡ true
fit_at s xs j fit low = named_at s xs j (get_or xs j AlwaysEnds) fit low (get_or_default xs j AlwaysEnds (get_or xs j AlwaysEnds) low)

-- those at some places of a list that fits fit
pub places_fit : (s : Script) (xs : List Expectation) (places : List ℕ) → expectations_fit s xs ≡ true → All (λ j. j < length xs) places →
    expectations_fit s (at_places xs places) ≡ true
places_fit s xs places fit low = fit_all s (at_places xs places) each
  where
    each : (k : ℕ) → k < length (at_places xs places) → expectation_fits s (get_or (at_places xs places) k AlwaysEnds) ≡ true
    each k inside =
        let size = length-map places (λ j. get_or xs j AlwaysEnds) in
        let here : k < length places = omega (arith, inside, size) in
        subst (λ (x : Expectation). expectation_fits s x ≡ true) (sym (get_or-map (λ j. get_or xs j AlwaysEnds) places k 0 AlwaysEnds here))
        (fit_at s xs (get_or places k 0) fit (low k 0 here))

-- the one at a place of the list of some places
pub at_place : (xs : List Expectation) (places : List ℕ) (k : ℕ) (d : Expectation) → k < length places →
    get_or (at_places xs places) k d ≡ get_or xs (get_or places k 0) AlwaysEnds
at_place xs places k d low = get_or-map (λ j. get_or xs j AlwaysEnds) places k 0 d low

-- an event of which an expectation that fits speaks fits
pub watched_fit : (s : Script) (x : Expectation) (e : Watched) → expectation_fits s x ≡ true → Among (λ y. e ≡ y) (watched_by x) → watched_fits s e ≡ true
watched_fit s (Never a) e fit (inl is) = subst (λ (w : Watched). watched_fits s w ≡ true) (sym is) fit
watched_fit s (Never a) e fit (inr is) = absurd is
watched_fit s (NeverAfter a b) e fit (inl is) =
    subst (λ (w : Watched). watched_fits s w ≡ true) (sym is) (and_parts (watched_fits s a) (watched_fits s b) fit).0
watched_fit s (NeverAfter a b) e fit (inr (inl is)) =
    subst (λ (w : Watched). watched_fits s w ≡ true) (sym is) (and_parts (watched_fits s a) (watched_fits s b) fit).1
watched_fit s (NeverAfter a b) e fit (inr (inr is)) = absurd is
watched_fit s (NeverBefore a b) e fit (inl is) =
    subst (λ (w : Watched). watched_fits s w ≡ true) (sym is) (and_parts (watched_fits s a) (watched_fits s b) fit).0
watched_fit s (NeverBefore a b) e fit (inr (inl is)) =
    subst (λ (w : Watched). watched_fits s w ≡ true) (sym is) (and_parts (watched_fits s a) (watched_fits s b) fit).1
watched_fit s (NeverBefore a b) e fit (inr (inr is)) = absurd is
watched_fit s (NeverTwice a) e fit (inl is) = subst (λ (w : Watched). watched_fits s w ≡ true) (sym is) fit
watched_fit s (NeverTwice a) e fit (inr is) = absurd is
watched_fit s (NeverAbove a level) e fit (inl is) = subst (λ (w : Watched). watched_fits s w ≡ true) (sym is) fit
watched_fit s (NeverAbove a level) e fit (inr is) = absurd is
watched_fit s (NeverOn a p) e fit (inl is) =
    subst (λ (w : Watched). watched_fits s w ≡ true) (sym is) (and_parts (watched_fits s a) _ fit).0
watched_fit s (NeverOn a p) e fit (inr is) = absurd is
watched_fit s (NeverWith b c) e fit is = absurd is
watched_fit s (NeverWaitsDpc d) e fit is = absurd is
watched_fit s (NeverWaitsApc a) e fit is = absurd is
watched_fit s (NeverBlocked t) e fit is = absurd is
watched_fit s (NeverSpins k) e fit is = absurd is
watched_fit s (Always a) e fit (inl is) = subst (λ (w : Watched). watched_fits s w ≡ true) (sym is) fit
watched_fit s (Always a) e fit (inr is) = absurd is
watched_fit s AlwaysEnds e fit is = absurd is

-- an event that is kept fits
pub spoken_fit : (s : Script) (xs : List Expectation) (y : Spoken) → expectations_fit s xs ≡ true → IsSpoken xs y → watched_fits s y.event ≡ true
spoken_fit s xs y fit is = watched_fit s (get_or xs y.of AlwaysEnds) y.event (fit_at s xs y.of fit is.0) is.1

-- the expectations with the events behind them fit
pub events_fit : (s : Script) (xs : List Expectation) (ys : List Spoken) → expectations_fit s xs ≡ true → All (IsSpoken xs) ys →
    expectations_fit s (with_events xs ys) ≡ true
events_fit s xs ys fit are = go xs fit
  where
    spoken : (ys : List Spoken) → ((k : ℕ) (d : Spoken) → k < length ys → IsSpoken xs (get_or ys k d)) →
        expectations_fit s (map (λ y. Never y.event) ys) ≡ true
    spoken [] are = refl
    spoken (y ∷ ys) are =
        and_from (watched_fits s y.event) (expectations_fit s (map (λ z. Never z.event) ys)) (spoken_fit s xs y fit (are 0 y (omega arith)))
        (spoken ys (λ k d low. are (suc k) d (omega (arith, low))))

    go : (zs : List Expectation) → expectations_fit s zs ≡ true → expectations_fit s (zs ++ map (λ y. Never y.event) ys) ≡ true
    go [] h = spoken ys are
    go (z ∷ zs) h =
        let p = and_parts (expectation_fits s z) (expectations_fit s zs) h in
        and_from (expectation_fits s z) (expectations_fit s (zs ++ map (λ y. Never y.event) ys)) p.0 (go zs p.1)

-- the first of them are the expectations
pub first_of_all : (xs : List Expectation) (ys : List Spoken) (j : ℕ) (d : Expectation) → j < length xs → get_or (with_events xs ys) j d ≡ get_or xs j d
first_of_all xs ys j d low = get_or_append_left xs (map (λ y. Never y.event) ys) d j low

-- and behind them stands of each event that it never comes
pub event_of_all : (xs : List Expectation) (ys : List Spoken) (k : ℕ) (d : Expectation) (e : Spoken) → k < length ys →
    get_or (with_events xs ys) (length xs + k) d ≡ Never (get_or ys k e).event
event_of_all xs ys k d e low =
    get_or-append-add xs (map (λ y. Never y.event) ys) k d ∙ get_or-map (λ y. Never y.event) ys k e d low

-- as many as there are expectations and events
pub all_length : (xs : List Expectation) (ys : List Spoken) → length (with_events xs ys) ≡ length xs + length ys
all_length xs ys =
    let size = length-append xs (map (λ y. Never y.event) ys) in
    let more = length-map ys (λ y. Never y.event) in
    omega (arith, size, more)

-- with one event more that an expectation speaks of, they speak of each
pub spoken_more : (xs : List Expectation) (ys : List Spoken) (y : Spoken) → All (IsSpoken xs) ys → IsSpoken xs y → All (IsSpoken xs) (ys ++ y ∷ [])
spoken_more xs ys y are is k d low = go (nat_lt k (length ys)) refl
  where
    size : length (ys ++ y ∷ []) ≡ length ys + 1
    size = length-append ys (y ∷ [])

    go : (b : Bool) → nat_lt k (length ys) ≡ b → IsSpoken xs (get_or (ys ++ y ∷ []) k d)
    go true q =
        let l = ltb-true k (length ys) q in
        subst (IsSpoken xs) (sym (get_or_append_left ys (y ∷ []) d k l)) (are k d l)
    go false q =
        let l = ltb-false k (length ys) q in
        let same : length ys + 0 ≡ k = omega (arith, l, low, size) in
        subst (λ (m : ℕ). IsSpoken xs (get_or (ys ++ y ∷ []) m d)) same (subst (IsSpoken xs) (sym (get_or-append-add ys (y ∷ []) 0 d)) is)
