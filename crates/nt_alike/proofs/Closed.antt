-- Closed lists: they are closed with a monitor that keeps nothing.
use Rattle.std.proofs.Common.{sym, ◌∙◌}
use Rattle.std.specs.Prelude.{Bool, List, [], false, refl, ℕ, ◌∷◌, ◌≡◌}
use Rattle.nt_event.specs.declared.events.Event.{Event}
use Rattle.nt_event.specs.declared.scripts.Script.{Script}
use Rattle.nt_event.specs.Step.{IsRun}
use Rattle.nt_alike.specs.Alike.{Alike}
use Rattle.nt_alike.specs.Bare.{bare_event}
use Rattle.nt_alike.specs.Closed.{IsClosedList, LeadsTo, NoneShows}
use Rattle.nt_alike.specs.Free.{LooksAreShort}
use Rattle.nt_alike.specs.Monitors.{AlikeWith, IsClosedWith, LeadsToWith, Monitor, kept}
use Rattle.nt_alike.proofs.Free.{runs_free}
use Rattle.nt_alike.proofs.Lists.{among_map, each_map}
use Rattle.nt_alike.proofs.Monitors.{never_with}

abbrev pub nothing : Monitor
nothing n e = 0

-- the monitor that keeps nothing keeps zero after each history
keeps_nothing : (h : List Event) → kept nothing h ≡ 0
keeps_nothing [] = refl
keeps_nothing (e ∷ h) = refl

-- histories that are alike are alike with the monitor that keeps nothing
with_nothing : (s : Script) (h k : List Event) → Alike s h k → AlikeWith s nothing h k
with_nothing s h k al = (al, keeps_nothing h ∙ sym (keeps_nothing k))

-- a closed list is closed with the monitor that keeps nothing
closed_with : (s : Script) (all : List (List Event)) → IsClosedList s all → IsClosedWith s nothing all
closed_with s all closed =
    record {
      opening = among_map (λ x. Alike s [] x) (λ x. AlikeWith s nothing [] x) all (λ x m. with_nothing s [] x m) closed.opening;
      each = each_map (LeadsTo s all) (LeadsToWith s nothing all) all
          (λ k to. (to.0, λ f m. among_map (λ x. Alike s (f ∷ k) x) (λ x. AlikeWith s nothing (f ∷ k) x) all (λ x l. with_nothing s (f ∷ k) x l) (to.1 f m)))
          closed.each;
    }

-- what is closed with a monitor is closed
pub closed_without : (s : Script) (monitor : Monitor) (all : List (List Event)) → IsClosedWith s monitor all → IsClosedList s all
closed_without s monitor all closed =
    record {
      opening = among_map (λ x. AlikeWith s monitor [] x) (λ x. Alike s [] x) all (λ x m. m.0) closed.opening;
      each = each_map (LeadsToWith s monitor all) (LeadsTo s all) all
          (λ k to. (to.0, λ f m. among_map (λ x. AlikeWith s monitor (f ∷ k) x) (λ x. Alike s (f ∷ k) x) all (λ x l. l.0) (to.1 f m))) closed.each;
    }

-- if no history of a closed list can go on by a bad event, no run of the script has one
pub never_in_runs : (s : Script) (bad : Event → Bool) (all : List (List Event)) → IsClosedList s all → NoneShows s bad all →
    (limit : ℕ) (e : Event) (past : List Event) → IsRun s limit (e ∷ past) → LooksAreShort (e ∷ past) → bad (bare_event e) ≡ false
never_in_runs s bad all closed none limit e past r l =
    never_with s nothing all (closed_with s all closed) (λ n f. bad f) none e past (runs_free s limit (e ∷ past) r l)
