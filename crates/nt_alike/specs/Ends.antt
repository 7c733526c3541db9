-- Quiet histories: each processor rests or spins still, and has seen what was asked. These are the settled ones in
-- which no processor was cut.
use Rattle.std.specs.List.{list_all}
use Rattle.std.specs.Prelude.{Bool, List, false, true, ℕ, ◌&&◌, ◌≡◌}
use Rattle.nt_event.specs.declared.events.Event.{Event}
use Rattle.nt_event.specs.declared.scripts.Script.{Script}
use Rattle.nt_event.specs.Jobs.{is_still}
use Rattle.nt_event.specs.Lists.{table}
use Rattle.nt_event.specs.Numbers.{cpu}
use Rattle.nt_event.specs.Own.{own_of}
use Rattle.nt_event.specs.Requests.{asked}
use Rattle.nt_event.specs.Robin.{has_seen}
use Rattle.nt_event.specs.Step.{IsRun}
use Rattle.nt_alike.specs.Alike.{Alike}
use Rattle.nt_alike.specs.Free.{IsFreeRun, LooksAreShort}
use Rattle.nt_alike.specs.Lists.{Each}
use Rattle.nt_alike.specs.Monitors.{IsClosedWith, Monitor, kept}

abbrev pub is_quiet : Script → List Event → Bool
is_quiet s past =
    list_all (λ quiet. quiet)
    (table s.cpus (λ p. is_still (own_of s (cpu p) past)
    && has_seen (own_of s (cpu p) past) (λ c. asked s (cpu p) c past)))

abbrev pub AlikeAreQuiet : Type 0
AlikeAreQuiet = (s : Script) (h k : List Event) → IsFreeRun s h → IsFreeRun s k → Alike s h k →
    is_quiet s h ≡ is_quiet s k

-- where none of a closed list is quiet with the monitor keeping what is bad, no run ends quietly so, at any limit
abbrev pub ClosedListsTellOfEnds : Type 0
ClosedListsTellOfEnds = (s : Script) (monitor : Monitor) (bad : ℕ → Bool) (all : List (List Event)) →
    IsClosedWith s monitor all → Each (λ k. is_quiet s k ≡ true → bad (kept monitor k) ≡ false) all →
    (limit : ℕ) (past : List Event) → IsRun s limit past → LooksAreShort past → is_quiet s past ≡ true →
    bad (kept monitor past) ≡ false
