-- Where a closed list has ranks that fall, no run is longer than the bound: its length and the rank of what it is like
-- are together at most the bound.
use Rattle.std.proofs.Common.{arith}
use Rattle.std.specs.Prelude.{List, [], length, ℕ, ◌+◌, ◌<◌, ◌∷◌, ◌≤◌}
use Rattle.nt_event.specs.declared.events.Event.{Event}
use Rattle.nt_event.specs.declared.scripts.Script.{Script}
use Rattle.nt_event.specs.Step.{IsRun}
use Rattle.nt_alike.specs.Free.{IsFreeRun, LooksAreShort}
use Rattle.nt_alike.specs.Lists.{Among}
use Rattle.nt_alike.specs.Monitors.{AlikeWith, IsClosedWith, LeadsToWith, Monitor}
use Rattle.nt_alike.specs.Ranks.{IsRanked, LeadsDown, Rank}
use Rattle.nt_alike.proofs.Free.{runs_free}
use Rattle.nt_alike.proofs.Lists.{among_map, at_one, each_map, found}
use Rattle.nt_alike.proofs.Monitors.{leads_on}

module _ (s : Script) (monitor : Monitor) (rank : Rank) (bound : ℕ) (all : List (List Event)) (ranked : IsRanked s monitor rank bound all) where
  abbrev Fits : List Event → List Event → Type 0
  Fits h x = AlikeWith s monitor h x × (length h + rank x ≤ bound)

  held : (h : List Event) → IsFreeRun s h → Among (λ x. Fits h x) all
  held [] r =
      among_map (λ x. AlikeWith s monitor [] x × (rank x ≤ bound)) (λ x. Fits [] x) all
      (λ x m. let l = m.1 in (m.0, omega (arith, l))) ranked.opening
  held (e ∷ h) r =
      found (LeadsDown s monitor rank all) (λ x. Fits h x) all (Among (λ x. Fits (e ∷ h) x) all) ranked.each (held h r.1)
      (λ k to fit. among_map (λ x. AlikeWith s monitor (e ∷ h) x × (rank x < rank k)) (λ x. Fits (e ∷ h) x) all
      (λ x m. let l = m.1 in let b = fit.1 in (m.0, omega (arith, l, b)))
      (leads_on s monitor all (λ x. rank x < rank k) h k e r to.0 fit.0 to.1))

  -- no run is longer than the bound of a ranked list, if each of its Looks has at most 16 values
  pub no_longer : (limit : ℕ) (past : List Event) → IsRun s limit past → LooksAreShort past → length past ≤ bound
  no_longer limit past r l =
      at_one (λ x. Fits past x) all (length past ≤ bound) (held past (runs_free s limit past r l)) (λ x m. let b = m.1 in omega (arith, b))

-- what has ranks is closed
pub closed_of : (s : Script) (monitor : Monitor) (rank : Rank) (bound : ℕ) (all : List (List Event)) → IsRanked s monitor rank bound all →
    IsClosedWith s monitor all
closed_of s monitor rank bound all ranked =
    record {
      opening = among_map (λ x. AlikeWith s monitor [] x × (rank x ≤ bound)) (λ x. AlikeWith s monitor [] x) all (λ x m. m.0) ranked.opening;
      each = each_map (LeadsDown s monitor rank all) (LeadsToWith s monitor all) all
          (λ k to. (
            to.0,
            λ f m. among_map (λ x. AlikeWith s monitor (f ∷ k) x × (rank x < rank k)) (λ x. AlikeWith s monitor (f ∷ k) x) all (λ x l. l.0) (to.1 f m),
          )) ranked.each;
    }
