-- Expectations that are judged one after another.
use Rattle.std.proofs.Common.{ap, arith, drop, subst, sym, take, ◌∙◌}
use Rattle.std.proofs.lemmas.Bool.{ltb-false, ltb-true}
use Rattle.std.proofs.lemmas.Grind.{flat_map-append}
use Rattle.std.proofs.lemmas.List.{drop_more, get_or-set_other, get_or-set_same, get_or_default, length-append, length-set, take-append-drop, take_more}
use Rattle.std.specs.List.{flat_map}
use Rattle.std.specs.Prelude.{Bool, List, None, Option, Some, [], false, get_or, is_none, is_some, length, nat_lt, not, refl, set, suc, true, zero, ℕ, ◌++◌}
use Rattle.std.specs.Prelude.{◌+◌, ◌-◌, ◌<◌, ◌∷◌, ◌≡◌, ◌≤◌}
use Rattle.nt_event.specs.declared.events.Event.{Event}
use Rattle.nt_expect.specs.declared.expectations.Expectation.{Expectation}
use Rattle.nt_expect.specs.declared.expectations.Watched.{Watched}
use Rattle.nt_event.specs.declared.scripts.Script.{Script}
use Rattle.nt_event.proofs.Options.{both}
use Rattle.nt_expect.specs.Expectations.{expectation_fits, expectations_fit}
use Rattle.nt_verdict.specs.Closed.{watched_by}
use Rattle.nt_shows.specs.Tells.{AreCame, Tells}
use Rattle.nt_search.specs.declared.failures.Failure.{Failure}
use Rattle.nt_search.specs.Failures.{AreJudged, IsJudgedOne}

-- those before this place are judged, and from there on all is as it was
pub record AreJudgedTo (P : Expectation → Type 0) (f : Failure) (xs : List Expectation) (old now : List (Option Failure)) (i : ℕ) : Type 0 where
  pub count : length now ≡ length old
  pub done : (j : ℕ) (d : Expectation) → j < i → j < length xs → IsJudgedOne P f (get_or xs j d) (get_or old j None) (get_or now j None)
  pub rest : (j : ℕ) → i ≤ j → get_or now j None ≡ get_or old j None

-- before any expectation is judged, all noted failures are as they were
pub none_judged : (P : Expectation → Type 0) (f : Failure) (xs : List Expectation) (old : List (Option Failure)) → AreJudgedTo P f xs old old 0
none_judged P f xs old = record { count = refl; done = λ j d l low. absurd (omega (arith, l)); rest = λ j l. refl }

-- once the place is at the end of the list, all expectations are judged
pub all_judged : (P : Expectation → Type 0) (f : Failure) (xs : List Expectation) (old now : List (Option Failure)) (i : ℕ) → length xs ≤ i →
    AreJudgedTo P f xs old now i → AreJudged P f xs old now
all_judged P f xs old now i all h = record { count = h.count; each = λ j d l. h.done j d (omega (arith, all, l)) l }

module _ (P : Expectation → Type 0) (f : Failure) (xs : List Expectation) (old now : List (Option Failure)) (i : ℕ) (h : AreJudgedTo P f xs old now i)
    (low : i < length xs) where
  -- the next one, as it is judged
  one_more : (new : Option Failure) → ((d : Expectation) → IsJudgedOne P f (get_or xs i d) (get_or old i None) new) → (list : List (Option Failure)) →
      length list ≡ length now → get_or list i None ≡ new → ((j : ℕ) → ((j ≡ i) → ⊥) → get_or list j None ≡ get_or now j None) →
      AreJudgedTo P f xs old list (i + 1)
  one_more new judged list count here others = record {
    count = count ∙ h.count;
    done = λ j d l inside. go j d (nat_lt j i) refl l inside;
    rest = λ j l. others j (λ e. omega (arith, l, e)) ∙ h.rest j (omega (arith, l));
  }
    where
      go : (j : ℕ) (d : Expectation) (t : Bool) → nat_lt j i ≡ t → j < i + 1 → j < length xs →
          IsJudgedOne P f (get_or xs j d) (get_or old j None) (get_or list j None)
      go j d true q l inside =
          let m = ltb-true j i q in
          subst (IsJudgedOne P f (get_or xs j d) (get_or old j None)) (sym (others j (λ e. omega (arith, m, e)))) (h.done j d m inside)
      go j d false q l inside =
          let m = ltb-false j i q in
          let same : i ≡ j = omega (arith, m, l) in
          subst (λ (n : ℕ). IsJudgedOne P f (get_or xs n d) (get_or old n None) (get_or list n None)) same
          (subst (IsJudgedOne P f (get_or xs i d) (get_or old i None)) (sym here) (judged d))

  -- one of which a failure was noted
  pub was_noted : (g : Failure) → get_or now i None ≡ Some g → AreJudgedTo P f xs old now (i + 1)
  was_noted g e =
      let before : get_or old i None ≡ Some g = sym (h.rest i (omega arith)) ∙ e in
      one_more (Some g) (λ d. subst (λ (o : Option Failure). IsJudgedOne P f (get_or xs i d) o (Some g)) (sym before) refl) now refl e (λ j ne. refl)

  -- one that is shown to fail
  pub is_shown : (x : Expectation) → get_or now i None ≡ None → x ≡ get_or xs i x → P x → i < length now →
      AreJudgedTo P f xs old (set now i (Some f)) (i + 1)
  is_shown x e is shown within =
      let before : get_or old i None ≡ None = sym (h.rest i (omega arith)) ∙ e in
      one_more (Some f)
      (λ d. subst (λ (o : Option Failure). IsJudgedOne P f (get_or xs i d) o (Some f)) (sym before)
      (refl, subst P (is ∙ get_or_default xs i x d low) shown)) (set now i (Some f)) (length-set now i (Some f))
      (get_or-set_same now i (Some f) None within) (λ j ne. get_or-set_other now i j (Some f) None ne)

  -- one that is not
  pub is_silent : (x : Expectation) → get_or now i None ≡ None → x ≡ get_or xs i x → (P x → ⊥) → AreJudgedTo P f xs old now (i + 1)
  is_silent x e is not =
      let before : get_or old i None ≡ None = sym (h.rest i (omega arith)) ∙ e in
      one_more None
      (λ d. subst (λ (o : Option Failure). IsJudgedOne P f (get_or xs i d) o None) (sym before)
      (λ p. not (subst P (sym (is ∙ get_or_default xs i x d low)) p))) now refl e (λ j ne. refl)

-- ---- the flags of an expectation among those of all

-- flags of what came of two joined lists are those of the first and then of the second list
came_parts : (us vs : List Watched) (past : List Event) (flags : List Bool) → AreCame (us ++ vs) past flags →
    AreCame us past (take (length us) flags) × AreCame vs past (drop (length us) flags)
came_parts [] vs past flags a = (tt, a)
came_parts (x ∷ us) vs past [] a = absurd a
came_parts (x ∷ us) vs past (f ∷ flags) a = let rest = came_parts us vs past flags a.1 in ((a.0, rest.0), rest.1)

-- those of the expectation at this place stand behind those of the expectations before it
flat_parts : (xs : List Expectation) (i : ℕ) (x : Expectation) → i < length xs → flat_map watched_by xs
    ≡ flat_map watched_by (take i xs) ++ (watched_by (get_or xs i x) ++ flat_map watched_by (drop (i + 1) xs))
flat_parts xs i x low =
    ap (flat_map watched_by) (sym (take-append-drop i xs) ∙ ap (λ (ys : List Expectation). take i xs ++ ys) (drop_more xs i x low))
    ∙ flat_map-append watched_by (take i xs) (get_or xs i x ∷ drop (i + 1) xs)

module _ (xs : List Expectation) (i place next : ℕ) (x : Expectation) (low : i < length xs) (is : x ≡ get_or xs i x)
    (at : place ≡ length (flat_map watched_by (take i xs))) (to : next ≡ place + length (watched_by x)) where
  -- where the flags of the next one begin
  pub next_is : next ≡ length (flat_map watched_by (take (i + 1) xs))
  next_is =
      let more = ap (flat_map watched_by) (take_more xs i x low) ∙ flat_map-append watched_by (take i xs) (get_or xs i x ∷ []) in
      let size = ap length more ∙ length-append (flat_map watched_by (take i xs)) (flat_map watched_by (get_or xs i x ∷ [])) in
      let one : length (flat_map watched_by (get_or xs i x ∷ [])) ≡ length (watched_by x) =
      length-append (watched_by (get_or xs i x)) [] ∙ ap (λ (y : Expectation). length (watched_by y) + 0) (sym is) ∙ plus_none (length (watched_by x)) in
      omega (arith, at, to, size, one)
    where
      plus_none : (n : ℕ) → n + 0 ≡ n
      plus_none n = omega arith

  -- they are within
  pub within : next ≤ length (flat_map watched_by xs)
  within =
      let size = ap length (flat_parts xs i x low)
      ∙ length-append (flat_map watched_by (take i xs)) (watched_by (get_or xs i x) ++ flat_map watched_by (drop (i + 1) xs)) in
      let rest = length-append (watched_by (get_or xs i x)) (flat_map watched_by (drop (i + 1) xs)) in
      let one = ap (λ (y : Expectation). length (watched_by y)) is in
      omega (arith, at, to, size, rest, one)

  -- and tell of what it watches for
  pub flags_of : (past : List Event) (flags : List Bool) → AreCame (flat_map watched_by xs) past flags →
      AreCame (watched_by x) past (take (length (watched_by x)) (drop place flags))
  flags_of past flags a =
      let parts = subst (λ (ws : List Watched). AreCame ws past flags) (flat_parts xs i x low) a in
      let behind = (came_parts (flat_map watched_by (take i xs)) (watched_by (get_or xs i x) ++ flat_map watched_by (drop (i + 1) xs)) past flags parts).1 in
      let here = (came_parts (watched_by (get_or xs i x)) (flat_map watched_by (drop (i + 1) xs)) past _ behind).0 in
      subst (λ (n : ℕ). AreCame (watched_by x) past (take (length (watched_by x)) (drop n flags))) (sym at)
      (subst (λ (y : Expectation). AreCame (watched_by y) past (take (length (watched_by y)) (drop (length (flat_map watched_by (take i xs))) flags)))
      (sym is) here)

-- ---- the failure at a place, as it is read

-- if none is read at a place of the noted failures, none is noted there
pub read_none : (now : List (Option Failure)) (i : ℕ) (o : Option Failure) → o ≡ get_or now i o → is_none o ≡ true → get_or now i None ≡ None
read_none now i None e q = sym e
read_none now i (Some g) e q = cc

-- if one is read at a place of the noted failures, a failure is noted there
pub read_some : (now : List (Option Failure)) (i : ℕ) (o : Option Failure) → i < length now → o ≡ get_or now i o → is_none o ≡ false →
    (g : Failure) × (get_or now i None ≡ Some g)
read_some now i None l e q = cc
read_some now i (Some g) l e q = (g, get_or_default now i None (Some g) l ∙ sym e)

-- the flags of a part
pub part_came : (x : Expectation) (past : List Event) (flags : List Bool) (place next : ℕ) → next ≡ place + length (watched_by x) →
    AreCame (watched_by x) past (take (length (watched_by x)) (drop place flags)) → AreCame (watched_by x) past (take (next - place) (drop place flags))
part_came x past flags place next to a =
    let count : length (watched_by x) ≡ next - place = omega (arith, to) in
    subst (λ (n : ℕ). AreCame (watched_by x) past (take n (drop place flags))) count a

-- what was told of it
pub told_true : (P : Type 0) (b : Bool) → b ≡ true → Tells b P → P
told_true P true q t = t
told_true P false q t = cc

-- a test that is false tells that what it tests does not hold
pub told_false : (P : Type 0) (b : Bool) → b ≡ false → Tells b P → P → ⊥
told_false P false q t = t
told_false P true q t = cc

-- an expectation of a list that fits fits
pub named_at : (s : Script) (xs : List Expectation) (i : ℕ) (x : Expectation) → expectations_fit s xs ≡ true → i < length xs → x ≡ get_or xs i x →
    expectation_fits s x ≡ true
named_at s [] i x fit low is = absurd (omega (arith, low))
named_at s (y ∷ xs) zero x fit low is =
    subst (λ (z : Expectation). expectation_fits s z ≡ true) (sym is) (both (expectation_fits s y) (expectations_fit s xs) fit).0
named_at s (y ∷ xs) (suc i) x fit low is =
    named_at s xs i x (both (expectation_fits s y) (expectations_fit s xs) fit).1 (omega (arith, low)) is

-- what is_none answers
pub none_is : (o : Option Failure) (b : Bool) → is_some o ≡ not b → b ≡ true → is_none o ≡ true
none_is None b e q = refl
none_is (Some g) true e q = cc
none_is (Some g) false e q = cc

-- if the test whether a failure is noted answers yes, the test whether none is answers no
pub some_is : (o : Option Failure) (b : Bool) → is_some o ≡ not b → b ≡ false → is_none o ≡ false
some_is None true e q = cc
some_is None false e q = cc
some_is (Some g) b e q = refl
