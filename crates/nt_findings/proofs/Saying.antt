-- What is said of expectations, by what is known.
use Rattle.std.proofs.Common.{[], ap, arith, subst, sym, ◌∙◌}
use Rattle.std.proofs.lemmas.Bool.{ltb-false, ltb-true}
use Rattle.std.proofs.lemmas.Bool.Decides.{nat_tests}
use Rattle.std.proofs.lemmas.List.{get_or-append-add, get_or-set_other, get_or-set_same, get_or_append_left, get_or_default, length-set}
use Rattle.std.specs.Prelude.{All, Bool, List, None, Option, Some, false, get_or, length, nat_lt, not, refl, set, true, ℕ, ◌++◌, ◌+◌, ◌<◌, ◌==◌, ◌∷◌}
use Rattle.std.specs.Prelude.{◌≡◌}
use Rattle.nt_event.specs.declared.scripts.Script.{Script}
use Rattle.nt_alike.specs.Lists.{Among}
use Rattle.nt_ask.specs.declared.answer.Verdict.{Verdict}
use Rattle.nt_ask.specs.declared.answer.Verdict.TheVariants as said
use Rattle.nt_expect.specs.declared.expectations.Expectation.{Expectation}
use Rattle.nt_expect.specs.declared.expectations.Expectation.TheVariants.{AlwaysEnds, Never}
use Rattle.nt_expect.specs.declared.expectations.Watched.{Watched}
use Rattle.nt_search.specs.Failures.{FailsAt}
use Rattle.nt_verdict.specs.Closed.{watched_by}
use Rattle.nt_verdict.specs.Fails.{Fails, IsEndless}
use Rattle.nt_findings.specs.declared.spoken.Spoken.{Spoken}
use Rattle.nt_findings.specs.Known.{AreKnown, HoldTheOthers, IsKnown}
use Rattle.nt_findings.specs.Spoken.{IsSpoken, with_events}
use Rattle.nt_findings.specs.Verdicts.{AreSaid, EndWithin, IsSaid, IsVerdict, TellsOf, TellsOfAll}
use Rattle.nt_findings.proofs.Fitting.{all_length, event_of_all, first_of_all, fit_at, watched_fit}
use Rattle.nt_ask.specs.Answers.{VerdictFits}
use Rattle.nt_expect.specs.Expectations.{expectation_fits, expectations_fit}

-- of the first expectations, so many, what is said is so
abbrev pub AreSaidTo : Script → Bool → List Expectation → List Verdict → ℕ → Type 0
AreSaidTo s is_cut xs vs n = (j : ℕ) (d : Expectation) (v : Verdict) → j < n → IsSaid s is_cut (get_or xs j d) (get_or vs j v)

-- if the first verdicts are right, and one more is right of the next expectation, all of them are
pub one_more : (s : Script) (is_cut : Bool) (xs : List Expectation) (vs : List Verdict) (n : ℕ) (said : Verdict) → length vs ≡ n →
    AreSaidTo s is_cut xs vs n → ((d : Expectation) → IsSaid s is_cut (get_or xs n d) said) → AreSaidTo s is_cut xs (vs ++ said ∷ []) (n + 1)
one_more s is_cut xs vs n said count are last j d v low = go (nat_lt j n) refl
  where
    here : get_or (vs ++ said ∷ []) n v ≡ said
    here =
        let at : length vs + 0 ≡ n = omega (arith, count) in
        ap (λ (m : ℕ). get_or (vs ++ said ∷ []) m v) (sym at) ∙ get_or-append-add vs (said ∷ []) 0 v

    go : (b : Bool) → nat_lt j n ≡ b → IsSaid s is_cut (get_or xs j d) (get_or (vs ++ said ∷ []) j v)
    go true q =
        let l = ltb-true j n q in
        subst (IsSaid s is_cut (get_or xs j d)) (sym (get_or_append_left vs (said ∷ []) v j (omega (arith, l, count)))) (are j d v l)
    go false q =
        let l = ltb-false j n q in
        let same : n ≡ j = omega (arith, l, low) in
        subst (λ (m : ℕ). IsSaid s is_cut (get_or xs m d) (get_or (vs ++ said ∷ []) m v)) same
        (subst (IsSaid s is_cut (get_or xs n d)) (sym here) (last d))

-- what is told of one expectation, by what is known of it
pub told : (s : Script) (whole : Bool) (xs : List Expectation) (fails : List (Option ℕ)) (n : ℕ) (x : Expectation) → n < length xs → x ≡ get_or xs n x →
    TellsOfAll s whole xs fails → TellsOf s whole x (get_or fails n None)
told s whole xs fails n x low is all = subst (λ (y : Expectation). TellsOf s whole y (get_or fails n None)) (sym is) (all n x low)

-- what is known tells of each expectation
pub told_of_all : (s : Script) (whole : Bool) (xs : List Expectation) (ys : List Spoken) (fails : List (Option ℕ)) →
    AreKnown s (with_events xs ys) fails → HoldTheOthers s whole (with_events xs ys) fails → TellsOfAll s whole xs fails
told_of_all s whole xs ys fails known holds j d low = go (get_or fails j None) refl
  where
    inside : j < length (with_events xs ys)
    inside = let size = all_length xs ys in omega (arith, low, size)

    go : (o : Option ℕ) → get_or fails j None ≡ o → TellsOf s whole (get_or xs j d) o
    go (Some at) q =
        subst (λ (x : Expectation). FailsAt s x at) (first_of_all xs ys j d low)
        (subst (IsKnown s (get_or (with_events xs ys) j d)) q (known.each j d inside))
    go None q = λ all not failing.
        subst (λ (x : Expectation). (x ≡ AlwaysEnds → ⊥) → Fails s x → ⊥) (first_of_all xs ys j d low) (holds all j d inside q) not failing

-- an event of which it isn't known that it comes never does, where all states were searched
pub never_comes : (s : Script) (whole : Bool) (xs : List Expectation) (ys : List Spoken) (fails : List (Option ℕ)) →
    HoldTheOthers s whole (with_events xs ys) fails → (k : ℕ) (d : Spoken) → k < length ys → get_or fails (length xs + k) None ≡ None →
    not whole ≡ false → Fails s (Never (get_or ys k d).event) → ⊥
never_comes s whole xs ys fails holds k d low none cut failing =
    let size = all_length xs ys in
    let is = event_of_all xs ys k AlwaysEnds d low in
    subst (λ (x : Expectation). (x ≡ AlwaysEnds → ⊥) → Fails s x → ⊥) is
    (holds (all whole cut) (length xs + k) AlwaysEnds (omega (arith, low, size)) none) differ failing
  where
    all : (b : Bool) → not b ≡ false → b ≡ true
    all true q = refl
    all false q = cc

    differ : {y : Watched} → Never y ≡ AlwaysEnds → ⊥
    differ q = cc

-- a verdict that is replaced by one that is so leaves all of them so
pub said_at : (s : Script) (is_cut : Bool) (xs : List Expectation) (vs new : List Verdict) (place : ℕ) (v : Verdict) → place < length vs →
    new ≡ set vs place v → AreSaid s is_cut xs vs → IsSaid s is_cut (get_or xs place AlwaysEnds) v → AreSaid s is_cut xs new
said_at s is_cut xs vs new place v low e are one = subst (AreSaid s is_cut xs) (sym e) (record {
  count = length-set vs place v ∙ are.count;
  each = λ j d w inside. go j d w inside (j == place) refl;
})
  where
    go : (j : ℕ) (d : Expectation) (w : Verdict) → j < length xs → (b : Bool) → (j == place) ≡ b →
        IsSaid s is_cut (get_or xs j d) (get_or (set vs place v) j w)
    go j d w inside true q =
        let same : place ≡ j = grind (arith, nat_tests, q) in
        let x_is : get_or xs place AlwaysEnds ≡ get_or xs j d =
        ap (λ (m : ℕ). get_or xs m AlwaysEnds) same ∙ get_or_default xs j AlwaysEnds d inside in
        let v_is : get_or (set vs place v) j w ≡ v = ap (λ (m : ℕ). get_or (set vs place v) m w) (sym same) ∙ get_or-set_same vs place v w low in
        subst (IsSaid s is_cut (get_or xs j d)) (sym v_is) (subst (λ (x : Expectation). IsSaid s is_cut x v) x_is one)
    go j d w inside false q =
        let other : j ≡ place → ⊥ = λ same. grind (arith, nat_tests, same, q) in
        subst (IsSaid s is_cut (get_or xs j d)) (sym (get_or-set_other vs place j v w other)) (are.each j d w inside)

-- where no run is longer than some number, there are no runs of every length
pub within_ends : (s : Script) (events : ℕ) → EndWithin s events → IsEndless s → ⊥
within_ends s events within endless =
    let run = endless (events + 1) in
    let low = within run.0 run.1 run.2 run.3 in
    let size = run.4 in
    omega (arith, low, size)

-- the first verdicts, so many, with what is said of the events so far
pub record AreSaidOf (xs : List Expectation) (ys : List Spoken) (known : ℕ → Option ℕ) (old new : List Verdict) : Type 0 where
  pub count : length new ≡ length old
  pub said : (s : Script) (is_cut : Bool) → AreSaid s is_cut xs old → All (IsSpoken xs) ys →
      ((k : ℕ) (d : Spoken) → k < length ys → known k ≡ None → is_cut ≡ false → Fails s (Never (get_or ys k d).event) → ⊥) →
      AreSaid s is_cut xs new

-- one more event, of which it is said that it never comes where it doesn't
pub said_on : (xs : List Expectation) (ys : List Spoken) (known : ℕ → Option ℕ) (old mid new : List Verdict) (i : ℕ) (y : Spoken) (v w : Verdict)
    (o : Option ℕ) → i < length ys → y ≡ get_or ys i y → v ≡ get_or mid y.of v → o ≡ known i → y.of < length mid →
    ((s : Script) (is_cut : Bool) (x : Expectation) → IsSaid s is_cut x v → (o ≡ None → is_cut ≡ false → Fails s (Never y.event) → ⊥) →
    Among (λ z. y.event ≡ z) (watched_by x) → IsSaid s is_cut x w) → new ≡ set mid y.of w → AreSaidOf xs ys known old mid → AreSaidOf xs ys known old new
said_on xs ys known old mid new i y v w o low is was at inside one e h = record {
  count = ap length e ∙ length-set mid y.of w ∙ h.count;
  said = λ s is_cut are speaks never.
      let said = h.said s is_cut are speaks never in
      let speak : IsSpoken xs y = subst (IsSpoken xs) (sym is) (speaks i y low) in
      let here : IsSaid s is_cut (get_or xs y.of AlwaysEnds) v =
      subst (IsSaid s is_cut (get_or xs y.of AlwaysEnds)) (sym was) (said.each y.of AlwaysEnds v speak.0) in
      said_at s is_cut xs mid new y.of w inside e said
      (one s is_cut (get_or xs y.of AlwaysEnds) here
      (λ none cut. subst (λ (z : Spoken). Fails s (Never z.event) → ⊥) (sym is) (never i y low (sym at ∙ none) cut)) speak.1);
}

-- what is said of expectations that fit names only events that fit
pub verdicts_fit : (s : Script) (is_cut : Bool) (xs : List Expectation) (vs : List Verdict) → expectations_fit s xs ≡ true → AreSaid s is_cut xs vs →
    All (VerdictFits s) vs
verdicts_fit s is_cut xs vs fit are k v low =
    let count = are.count in
    let inside : k < length xs = omega (arith, low, count) in
    go (get_or vs k v) (fit_at s xs k fit inside) (are.each k AlwaysEnds v inside).0
  where
    go : (w : Verdict) → expectation_fits s (get_or xs k AlwaysEnds) ≡ true → IsVerdict s (get_or xs k AlwaysEnds) w → VerdictFits s w
    go said.Holds fits is = tt
    go (said.HoldsWithin events) fits is = tt
    go (said.HoldsWithout event) fits is = watched_fit s (get_or xs k AlwaysEnds) event fits is.1
    go (said.FailsAt number) fits is = tt
    go said.Unknown fits is = tt
