-- The history of a machine has a report.
use Rattle.std.proofs.Common.{ap, subst, sym, ◌∙◌}
use Rattle.std.proofs.lemmas.List.{reverse-reverse}
use Rattle.std.specs.Prelude.{List, reverse, true, ℕ, ◌≡◌}
use Rattle.nt_event.specs.declared.events.Event.{Event}
use Rattle.nt_event.specs.declared.scripts.Script.{Script}
use Rattle.nt_event.specs.Fitting.{events_fit}
use Rattle.nt_event.specs.Script.{fits}
use Rattle.nt_event.specs.Step.{IsRun}
use Rattle.nt_laws.proofs.Named.RunFits.{run_fits}

-- the events of a machine are a run of the script, if the events it has made are
run_so_far : (s t : Script) (limit : ℕ) (past events : List Event) → t ≡ s → IsRun t limit past → events ≡ reverse past → IsRun s limit (reverse events)
run_so_far s t limit past events same r e =
    subst (λ (xs : List Event). IsRun s limit xs) (sym (ap reverse e ∙ reverse-reverse past)) (subst (λ (x : Script). IsRun x limit past) same r)

-- the events of a machine whose script fits are events that fit the script
pub history_fits : (s t : Script) (limit : ℕ) (past events : List Event) → t ≡ s → fits s ≡ true → IsRun t limit past → events ≡ reverse past →
    events_fit s events ≡ true
history_fits s t limit past events same f r e = run_fits s limit events f (run_so_far s t limit past events same r e)
