-- The turns of the robin rule are taken.
use Rattle.std.proofs.Common.{ap, subst, sym, ◌∙◌}
use Rattle.std.specs.Prelude.{Bool, IfSome, List, None, Ok, Option, Some, false, is_none, not, refl, true, ℕ, ◌||◌, ◌≡◌}
use Rattle.nt_event.specs.declared.events.Event.{Event}
use Rattle.nt_event.specs.declared.events.Turn.{Turn}
use Rattle.nt_event.specs.declared.numbers.CpuNo.{CpuNo}
use Rattle.nt_event.specs.declared.scripts.Script.{Script}
use Rattle.nt_event.specs.Lists.{when}
use Rattle.nt_event.specs.Own.{own_of}
use Rattle.nt_event.specs.Robin.{is_done_with, robin_of}
use Rattle.nt_event.specs.Script.{has_cpu}
use Rattle.nt_event.specs.Step.{IsRun, is_cut, step}
use Rattle.nt_event.proofs.Options.{Holds, holds_when}
use Rattle.nt_runs.proofs.Robin.{robin_at_accepted}
use Rattle.nt_runs.proofs.Settled.{robin_of_done}

-- a processor has no turn exactly where the script hasn't it, or it is done with
pub none_of : (s : Script) (limit : ℕ) (p : CpuNo) (past : List Event) (o : Option Turn) → IsRun s limit past → o
    ≡ when (has_cpu s p) (robin_of s limit p past) → is_none o ≡ (not (has_cpu s p) || is_done_with s limit p past)
none_of s limit p past o r h = ap (λ (x : Option Turn). is_none x) h ∙ go (has_cpu s p)
  where
    go : (b : Bool) → is_none (when b (robin_of s limit p past)) ≡ (not b || is_done_with s limit p past)
    go true = robin_of_done s limit p past r
    go false = refl

-- its turn is taken
abbrev Taken : Script → ℕ → List Event → Turn → Type 0
Taken s limit past t = (e : Event) × (step s limit t past ≡ Ok e)

-- a test fails if its negation holds
not_true : (b : Bool) → not b ≡ true → b ≡ false
not_true true h = absurd cc
not_true false h = refl

-- what holds of an option where it is there holds of it if it is some
if_some : {A : Type 0} (P : A → Type 0) (o : Option A) → Holds P o → IfSome o P
if_some P None h = tt
if_some P (Some x) h = h

-- after a run, the robin rule's turn for a processor of the script is taken by a step, if it has one
pub taken_of : (s : Script) (limit : ℕ) (p : CpuNo) (past : List Event) (o : Option Turn) → IsRun s limit past → o
    ≡ when (has_cpu s p) (robin_of s limit p past) → IfSome o (λ t. (e : Event) × (step s limit t past ≡ Ok e))
taken_of s limit p past o r h =
    subst (λ (x : Option Turn). IfSome x (Taken s limit past)) (sym h)
    (if_some (Taken s limit past) _ (holds_when (Taken s limit past) (has_cpu s p) _
    (λ b. holds_when (Taken s limit past) (not (is_cut limit (own_of s p past))) _
    (λ u. robin_at_accepted s limit p past r b (not_true (is_cut limit (own_of s p past)) u)))))
