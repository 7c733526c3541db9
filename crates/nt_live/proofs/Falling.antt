-- The events of a processor, the newest first: their numbers fall, and so each list of those below a number is an end of them.
use Rattle.std.proofs.Common.{ap, arith, inl, inr, sym, ◌∙◌}
use Rattle.std.proofs.lemmas.Bool.{le-ltb, lt-ltb, ltb-false, ltb-true}
use Rattle.std.proofs.lemmas.List.Elements.{Contains-append_right}
use Rattle.std.specs.Prelude.{Bool, Contains, List, [], false, if◌then◌else◌, nat_lt, refl, suc, true, ℕ, ◌++◌, ◌<◌, ◌∷◌, ◌≡◌, ◌≤◌, ◌⊎◌}
use Rattle.nt_event.specs.declared.numbers.CpuNo.{CpuNo}
use Rattle.nt_event.specs.declared.scripts.Script.{Script}
use Rattle.nt_mark.proofs.Sums.{first_or_rest, in_first, in_none, in_rest}
use Rattle.nt_mark.specs.declared.view.View.{View}
use Rattle.nt_compose.specs.Parts.{IsTail, Numbered}
use Rattle.nt_live.specs.Workers.{AreBelow, AreSteps, IsStep}

abbrev pub Falls : List Numbered → Type 0
Falls [] = Unit {0}
Falls (m ∷ ms) = AreBelow m.number ms × Falls ms

-- those with numbers below k
abbrev pub below : ℕ → List Numbered → List Numbered
below k [] = []
below k (m ∷ ms) = if nat_lt m.number k then (m ∷ ms) else below k ms

-- if the newest event's number is below a bound, the events below it are the whole list
below_yes : (k : ℕ) (m : Numbered) (ms : List Numbered) → m.number < k → below k (m ∷ ms) ≡ m ∷ ms
below_yes k m ms h = ap (λ (b : Bool). if b then (m ∷ ms) else below k ms) (lt-ltb m.number k h)

-- if the newest event's number is not below a bound, the events below it are those of the rest
below_no : (k : ℕ) (m : Numbered) (ms : List Numbered) → k ≤ m.number → below k (m ∷ ms) ≡ below k ms
below_no k m ms h = ap (λ (b : Bool). if b then (m ∷ ms) else below k ms) (le-ltb m.number k h)

-- no event of a list has a number below zero
pub below_zero : (ms : List Numbered) → below 0 ms ≡ []
below_zero [] = refl
below_zero (m ∷ ms) = below_no 0 m ms (omega arith) ∙ below_zero ms

-- if all events of a list have numbers below a bound, those below the bound are the whole list
pub below_all : (k : ℕ) (ms : List Numbered) → AreBelow k ms → below k ms ≡ ms
below_all k [] h = refl
below_all k (m ∷ ms) h = below_yes k m ms (h m (in_first m ms))

-- an event is above those after it
above : (front : List Numbered) (x m : Numbered) (past : List Numbered) → AreBelow x.number (front ++ m ∷ past) → m.number < x.number
above front x m past h = h m (Contains-append_right front (m ∷ past) m (in_first m past))

-- those below the number after an event's: the event and those before it
pub below_with : (front : List Numbered) (m : Numbered) (past : List Numbered) → Falls (front ++ m ∷ past) →
    below (suc m.number) (front ++ m ∷ past) ≡ m ∷ past
below_with [] m past f = below_yes (suc m.number) m past (omega arith)
below_with (x ∷ front) m past f =
    let l = above front x m past f.0 in
    below_no (suc m.number) x (front ++ m ∷ past) (omega (arith, l)) ∙ below_with front m past f.1

-- those below an event's number: those before it
pub below_it : (front : List Numbered) (m : Numbered) (past : List Numbered) → Falls (front ++ m ∷ past) → below m.number (front ++ m ∷ past) ≡ past
below_it [] m past f = below_no m.number m past (omega arith) ∙ below_all m.number past f.0
below_it (x ∷ front) m past f =
    let l = above front x m past f.0 in
    below_no m.number x (front ++ m ∷ past) (omega (arith, l)) ∙ below_it front m past f.1

-- where no event has the number, none is between
pub none_between : (k : ℕ) (ms : List Numbered) → ((m : Numbered) → Contains ms m → m.number ≡ k → ⊥) → below (suc k) ms ≡ below k ms
none_between k [] h = refl
none_between k (m ∷ ms) h = go (nat_lt m.number k) refl (none_between k ms (λ x p. h x (in_rest m ms x p)))
  where
    go : (b : Bool) → nat_lt m.number k ≡ b → below (suc k) ms ≡ below k ms → below (suc k) (m ∷ ms) ≡ below k (m ∷ ms)
    go true e more = let l = ltb-true m.number k e in below_yes (suc k) m ms (omega (arith, l)) ∙ sym (below_yes k m ms l)
    go false e more =
        let l = ltb-false m.number k e in
        let ne = h m (in_first m ms) in
        below_no (suc k) m ms (omega (arith, l, ne)) ∙ (more ∙ sym (below_no k m ms l))

-- ---- tails

-- an event of a list, with those before it
pub tail_at : (ms : List Numbered) (m : Numbered) → Contains ms m → (past : List Numbered) × IsTail (m ∷ past) ms
tail_at [] m h = absurd (in_none m h)
tail_at (x ∷ ms) m h = go (first_or_rest x ms m h) (λ r. tail_at ms m r)
  where
    go : (m ≡ x) ⊎ Contains ms m → (Contains ms m → (past : List Numbered) × IsTail (m ∷ past) ms) → (past : List Numbered) × IsTail (m ∷ past) (x ∷ ms)
    go (inl e) more = (ms, ([], ap (λ (z : Numbered). z ∷ ms) (sym e)))
    go (inr r) more = let t = more r in (t.0, (x ∷ t.1.0, ap (λ (zs : List Numbered). x ∷ zs) t.1.1))

-- no list with an element is an end of the empty list
pub no_tail : (m : Numbered) (past : List Numbered) → IsTail (m ∷ past) [] → ⊥
no_tail m past ([], e) = cc
no_tail m past (x ∷ front, e) = cc

module _ (s : Script) (limit : ℕ) (p : CpuNo) (v : View) where
  -- the numbers of the events that one processor made fall from the newest to the oldest
  pub steps_fall : (ms : List Numbered) → AreSteps s limit p v ms → Falls ms
  steps_fall [] h = tt
  steps_fall (m ∷ ms) h = (h.0.above, steps_fall ms h.1)

  -- an event inside a processor's list is a step of the processor after those before it
  pub step_at : (front : List Numbered) (m : Numbered) (past : List Numbered) → AreSteps s limit p v (front ++ m ∷ past) → IsStep s limit p v m past
  step_at [] m past h = h.0
  step_at (x ∷ front) m past h = step_at front m past h.1
