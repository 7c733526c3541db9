-- Turns that show that an expectation fails, and their schedule.
use Rattle.std.proofs.Common.{[], inl, inr, reverse, subst, sym}
use Rattle.std.proofs.lemmas.List.{reverse-reverse}
use Rattle.std.specs.Prelude.{IsTrue, List, true, ◌++◌, ◌≡◌}
use Rattle.nt_event.specs.declared.events.Event.{Event}
use Rattle.nt_event.specs.declared.events.Turn.{Turn}
use Rattle.nt_event.specs.declared.scripts.Script.{Script}
use Rattle.nt_event.specs.Script.{fits}
use Rattle.nt_event.specs.Step.{IsRun}
use Rattle.nt_core.proofs.Replaying.{replays_run}
use Rattle.nt_expect.specs.declared.expectations.Expectation.{Expectation}
use Rattle.nt_laws.proofs.Named.RunFits.{run_fits}
use Rattle.nt_log.specs.declared.schedules.Schedule.{Schedule}
use Rattle.nt_log.specs.Schedules.{turns_fit}
use Rattle.nt_print.proofs.Turns.{turns_of_fit}
use Rattle.nt_witness.specs.Leads.{Lead}
use Rattle.nt_witness.specs.Witnesses.{IsWitness}
use Rattle.nt_lab.specs.Witnesses.{Show}

-- turns that show it lead somewhere
pub leads : (s : Script) (x : Expectation) (turns : List Turn) → Show s x turns → (h : List Event) × Lead s turns [] h
leads s x turns (inl show) = (show.1.history, show.1.lead)
leads s x turns (inr show) = let round = show.1.2 in (round.around ++ round.before, round.lead)

-- the turns of a witness take threads of the script
pub witness_fits : (s : Script) (h : List Event) (w : Schedule) → IsTrue (fits s) → IsWitness s h w → turns_fit s w.list ≡ true
witness_fits s h w fit is =
    let run = replays_run s w.turns w.list is.history is.replay in
    let back : reverse (reverse is.history) ≡ is.history = reverse-reverse is.history in
    let fits = run_fits s w.turns (reverse is.history) fit (subst (IsRun s w.turns) (sym back) run.run) in
    subst (λ (ts : List Turn). turns_fit s ts ≡ true) run.turns_are (turns_of_fit s (reverse is.history) fits)
