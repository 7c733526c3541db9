-- The lines `cut` of a report of a run name the processors that are cut.
use Rattle.std.proofs.Common.{ap, arith, sym, ◌∙◌}
use Rattle.std.proofs.lemmas.Bool.Decides.{nat_tests}
use Rattle.std.proofs.lemmas.List.Recursion.{is_count_by}
use Rattle.std.specs.Prelude.{Bool, List, [], cond, count_by, false, if◌then◌else◌, nat_le, refl, reverse, true, ℕ, ◌+◌, ◌==◌, ◌∷◌, ◌≡◌, ◌≤◌}
use Rattle.nt_event.specs.declared.events.Event.{Event}
use Rattle.nt_event.specs.declared.events.History.{History}
use Rattle.nt_event.specs.declared.scripts.Script.{Script}
use Rattle.nt_event.specs.Numbers.{cpu}
use Rattle.nt_event.specs.Own.{made, own_of}
use Rattle.nt_event.specs.Step.{IsRun, is_cut}
use Rattle.nt_event.proofs.Reversed.{count_by-reverse}
use Rattle.nt_laws.proofs.Counts.{made_limit}
use Rattle.nt_print.specs.Report.{cut_of, cut_row, made as printed_made}

-- how many events a processor made is the count of the events with its number
made_counts : (p : ℕ) (past : List Event) → made (cpu p) past ≡ count_by (λ e. e.cpu.0 == p) past
made_counts p past =
    is_count_by (λ (past : List Event). made (cpu p) past) (λ (e : Event). e.cpu.0 == p) refl
    (λ e es. step (e.cpu.0 == p) (made (cpu p) es)) past
  where
    step : (b : Bool) (n : ℕ) → (if b then n + 1 else n) ≡ cond b (1 + n) n
    step true n = omega arith
    step false n = refl

-- a report's count of the events of a processor is the number of events that it made
pub counts_are_made : (p : ℕ) (events : List Event) → printed_made p events ≡ made (cpu p) (reverse events)
counts_are_made p events = sym (made_counts p (reverse events) ∙ count_by-reverse (λ (e : Event). e.cpu.0 == p) events)

-- what makes at most a limit is at the limit where the limit is at most that
at_limit : (n limit : ℕ) → n ≤ limit → (n == limit) ≡ nat_le limit n
at_limit n limit h = go (n == limit) (nat_le limit n) refl refl
  where
    go : (a b : Bool) → (n == limit) ≡ a → nat_le limit n ≡ b → a ≡ b
    go true true i j = refl
    go true false i j = absurd (grind (arith, nat_tests))
    go false true i j = absurd (grind (arith, nat_tests))
    go false false i j = refl

-- in a run, a processor made as many events as the limit exactly where it is cut
pub made_is_cut : (s : Script) (h : History) (p : ℕ) → IsRun s h.turns (reverse h.events) → (printed_made p h.events == h.turns)
    ≡ is_cut h.turns (own_of s (cpu p) (reverse h.events))
made_is_cut s h p r =
    let most : made (cpu p) (reverse h.events) ≤ h.turns = made_limit s h.turns (cpu p) (reverse h.events) r in
    ap (λ (n : ℕ). n == h.turns) (counts_are_made p h.events) ∙ at_limit (made (cpu p) (reverse h.events)) h.turns most

-- in a report of a run a processor has a line `cut` exactly if it is cut
pub cut_lines_name_the_cut : (s : Script) (h : History) (p : ℕ) → IsRun s h.turns (reverse h.events) → cut_of h p
    ≡ (if is_cut h.turns (own_of s (cpu p) (reverse h.events)) then cut_row p ∷ [] else [])
cut_lines_name_the_cut s h p r = ap (λ (b : Bool). if b then cut_row p ∷ [] else []) (made_is_cut s h p r)
