-- Robin runs and replays are runs that have a report, and a report is of one history alone.
use Rattle.std.proofs.Common.{subst}
use Rattle.std.proofs.lemmas.List.{reverse-reverse}
use Rattle.std.specs.Prelude.{refl, reverse, ◌≡◌, ◌≤◌}
use Rattle.nt_event.specs.declared.events.History.{History}
use Rattle.nt_event.specs.Robin.{IsRobin}
use Rattle.nt_event.specs.Step.{IsRun}
use Rattle.nt_script.specs.declared.walk.Input.{Input}
use Rattle.nt_script.specs.Sound.{IsSound}
use Rattle.nt_log.specs.Schedules.{schedule_of, turn_bound, IsPlain as ScheduleIsPlain}
use Rattle.nt_print.proofs.OneReport.{one_history}
use Rattle.nt_print.specs.Report.{report_text}
use Rattle.nt_ranges.specs.Looks.{LooksAreWhole}
use Rattle.nt_ranges.specs.Plain.{IsRunOf}
use Rattle.nt_ranges.proofs.Reports.{a_run_has_a_report}
use Rattle.nt_ranges.proofs.Whole.{a_robin_run_looks_whole, turns_whole}

-- a robin run of a sound input with a turn limit in its range is a run of the input
pub a_robin_run_is_one : (input : Input) (h : History) → IsSound input → (1 ≤ h.turns) × (h.turns ≤ turn_bound input.script.cpus) →
    IsRun input.script h.turns (reverse h.events) → IsRobin input.script h.turns (reverse h.events) →
    IsRunOf input h
a_robin_run_is_one input h sound limit run robin =
    record {
      sound = sound;
      limit = limit;
      run = run;
      looks = subst LooksAreWhole (reverse-reverse h.events) (a_robin_run_looks_whole input.script h.turns (reverse h.events) robin);
    }

-- a run of a sound input whose schedule a text may have is a run of the input
pub a_replay_is_one : (input : Input) (h : History) → IsSound input → IsRun input.script h.turns (reverse h.events) →
    ScheduleIsPlain input (schedule_of h) → IsRunOf input h
a_replay_is_one input h sound run plain =
    record { sound = sound; limit = plain.limit; run = run; looks = turns_whole input h.events plain.turns }

-- two runs of an input with the same report are the same history
pub one_report_one_history : (input : Input) (h g : History) → IsRunOf input h → IsRunOf input g → report_text input h ≡ report_text input g → h ≡ g
one_report_one_history input h g a b same =
    one_history (report_text input h) input h g (record { sound = a.sound; plain = a_run_has_a_report input h a; text = refl })
    (record { sound = b.sound; plain = a_run_has_a_report input g b; text = same })
