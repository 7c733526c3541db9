-- Histories in a line: each goes on to the next one alone, and the last one not at all. They are a closed list, with how
-- many events are still to come as ranks.
use Rattle.std.proofs.Common.{ap, arith, inl, inr, subst, sym, ◌∙◌}
use Rattle.std.proofs.lemmas.Bool.{leb-true}
use Rattle.std.specs.Prelude.{Bool, List, [], false, length, nat_le, refl, suc, true, ℕ, ◌-◌, ◌<◌, ◌∷◌, ◌≡◌, ◌≤◌}
use Rattle.nt_event.specs.declared.events.Event.{Event}
use Rattle.nt_event.specs.declared.scripts.Script.{Script}
use Rattle.nt_alike.specs.Free.{IsFreeRun, MayCome}
use Rattle.nt_alike.specs.Lists.{Among, Each}
use Rattle.nt_alike.specs.Monitors.{AlikeWith, Monitor}
use Rattle.nt_alike.specs.Ranks.{IsRanked, LeadsDown}
use Rattle.nt_alike.proofs.Lists.{among_map}
use Rattle.nt_alike.proofs.Relation.{alike_self}

-- the one history goes on to the other alone
abbrev pub OnlyTo : Script → List Event → List Event → Type 0
OnlyTo s k to = (f : Event) → MayCome s f k → f ∷ k ≡ to

abbrev pub ToNone : Script → List Event → Type 0
ToNone s k = (f : Event) → MayCome s f k → ⊥

-- a history, and those that it goes on to one after the other
pub data Line (s : Script) : List Event → List (List Event) → Type 0 where
  EndsAt : {k : List Event} → IsFreeRun s k → ToNone s k → Line s k []
  GoesTo : {k to : List Event} {more : List (List Event)} → IsFreeRun s k → OnlyTo s k to → Line s to more → Line s k (to ∷ more)

-- where a test of histories finds none of those to come, no event leads to one that it finds
pub none_found : (s : Script) (test : List Event → Bool) (k : List Event) (more : List (List Event)) → Line s k more → Each (λ h. test h ≡ false) more →
    Each (λ h. (f : Event) → MayCome s f h → test (f ∷ h) ≡ false) (k ∷ more)
none_found s test k [] (EndsAt r none) h = (λ f m. absurd (none f m), tt)
none_found s test k (to ∷ more) (GoesTo r on line) h = (λ f m. ap test (on f m) ∙ h.0, none_found s test to more line h.1)

module _ (s : Script) (monitor : Monitor) (bound : ℕ) (all : List (List Event)) where
  self : (h : List Event) → AlikeWith s monitor h h
  self h = (alike_self s h, refl)

  lower : (k to x : List Event) (f : Event) → length to ≤ bound → x ≡ to → f ∷ k ≡ to → bound - length x < bound - length k
  lower k to x f short e on =
      let a : length x ≡ length to = ap length e in
      let b : suc (length k) ≡ length to = ap length on in
      omega (arith, short, a, b)

  -- each of a line of no more than the bound, all of them in the list, leads down in it
  down : (k : List Event) (more : List (List Event)) → Line s k more → Each (λ h. nat_le (length h) bound ≡ true) more →
      ((x : List Event) → Among (λ y. y ≡ x) (k ∷ more) → Among (λ y. y ≡ x) all) → Each (LeadsDown s monitor (λ h. bound - length h) all) (k ∷ more)
  down k [] (EndsAt r none) short inside = ((r, λ f m. absurd (none f m)), tt)
  down k (to ∷ more) (GoesTo r on line) short inside = (
    (
      r,
      λ f m. among_map (λ y. y ≡ to) (λ x. AlikeWith s monitor (f ∷ k) x × (bound - length x < bound - length k)) all
          (λ x e. (
            subst (λ h. AlikeWith s monitor (f ∷ k) h) (on f m ∙ sym e) (self (f ∷ k)),
            lower k to x f (leb-true (length to) bound short.0) e (on f m),
          )) (inside to (inr (inl refl))),
    ),
    down to more line short.1 (λ x a. inside x (inr a)),
  )

-- a line from the empty history on is closed, with these ranks
pub line_ranked : (s : Script) (monitor : Monitor) (bound : ℕ) (more : List (List Event)) → Line s [] more → Each (λ h. nat_le (length h) bound ≡ true) more →
    IsRanked s monitor (λ h. bound - length h) bound ([] ∷ more)
line_ranked s monitor bound more line short =
    record {
      opening = inl (self s monitor bound more [], omega arith);
      each = down s monitor bound ([] ∷ more) [] more line short (λ x a. a);
    }
