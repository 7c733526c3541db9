-- The looks of a run: what rises in them, and where they have a value of each class.
use Rattle.std.proofs.Common.{arith}
use Rattle.std.proofs.lemmas.Bool.Decides.{nat_tests}
use Rattle.std.proofs.lemmas.Bool.{eqb-true}
use Rattle.std.specs.List.{AllByRecursion, list_any}
use Rattle.std.specs.Prelude.{Bool, List, [], false, length, nat_lt, not, refl, suc, true, ℕ, ◌&&◌, ◌==◌, ◌||◌, ◌∷◌, ◌≡◌, ◌≤◌}
use Rattle.nt_event.specs.declared.events.Event.{Event}
use Rattle.nt_event.specs.declared.numbers.CpuNo.{CpuNo}
use Rattle.nt_event.specs.declared.scripts.Script.{Script}
use Rattle.nt_event.specs.Lists.{value_at}
use Rattle.nt_event.specs.Own.{Own}
use Rattle.nt_event.specs.Step.{good_rises, was_asked}
use Rattle.nt_event.proofs.Options.{both}
use Rattle.nt_runs.proofs.Settled.{asked_below, was_asked_below}

-- each value of a look that is accepted is at most the number of events before it
pub rises_below : (s : Script) (p : CpuNo) (c : ℕ) (vs : List ℕ) (x : Own) (past : List Event) → good_rises s p c vs x past ≡ true →
    AllByRecursion (λ v. v ≤ length past) vs
rises_below s p c [] x past h = tt
rises_below s p c (v ∷ vs) x past h =
    let parts = both ((v == 0) || (nat_lt (value_at x.seen c) v && was_asked s p c v past)) (good_rises s p (suc c) vs x past) h in
    (go (v == 0) (nat_lt (value_at x.seen c) v) (was_asked s p c v past) refl refl parts.0, rises_below s p (suc c) vs x past parts.1)
  where
    go : (z l w : Bool) → (v == 0) ≡ z → was_asked s p c v past ≡ w → (z || (l && w)) ≡ true → v ≤ length past
    go true l w e a k = let none = eqb-true v 0 e in omega (arith, none)
    go false true true e a k =
        let asked = was_asked_below s p c v past a in let most = asked_below s p c past in omega (arith, asked, most)
    go false true false e a k = cc
    go false false w e a k = cc

-- both ways to say that some value rises are one
pub some_rises : (vs : List ℕ) → list_any (λ v. not (v == 0)) vs ≡ list_any (λ v. nat_lt 0 v) vs
some_rises [] = refl
some_rises (v ∷ vs) = rw (positive v, some_rises vs) refl
  where
    positive : (v : ℕ) → not (v == 0) ≡ nat_lt 0 v
    positive v = go (v == 0) (nat_lt 0 v) refl refl
      where
        go : (z l : Bool) → (v == 0) ≡ z → nat_lt 0 v ≡ l → not z ≡ l
        go true true e k = absurd (grind (arith, nat_tests))
        go true false e k = refl
        go false true e k = refl
        go false false e k = absurd (grind (arith, nat_tests))
