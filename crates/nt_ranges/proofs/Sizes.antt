-- The texts of a run have not too many bytes for an input.
use Rattle.std.proofs.Common.{arith, subst}
use Rattle.std.proofs.lemmas.List.{length-append}
use Rattle.std.specs.List.{AllByRecursion, list_any}
use Rattle.std.specs.Prelude.{List, [], length, nat_lt, refl, reverse, ℕ, ◌∷◌, ◌≡◌, ◌≤◌}
use Rattle.nt_event.specs.declared.events.Event.{Event}
use Rattle.nt_event.specs.declared.events.History.{History}
use Rattle.nt_event.specs.declared.events.What.{What}
use Rattle.nt_event.specs.declared.events.What.TheVariants.{Look}
use Rattle.nt_event.specs.declared.scripts.Script.{Script}
use Rattle.nt_event.specs.Own.{own_of}
use Rattle.nt_event.specs.Step.{IsRun, good_rises, step, turn_at}
use Rattle.nt_event.proofs.Options.{both}
use Rattle.nt_runs.proofs.Steps.{Gives, look_gives}
use Rattle.nt_log.specs.Schedules.{schedule_of, schedule_text}
use Rattle.nt_print.specs.Report.{report_text}
use Rattle.nt_script.specs.declared.walk.Input.{Input}
use Rattle.nt_script.specs.Text.{text}
use Rattle.nt_ranges.specs.Plain.{IsRunOf}
use Rattle.nt_ranges.specs.Sizes.{FitsTheInput}
use Rattle.nt_ranges.proofs.EventWidths.{LookIsLow}
use Rattle.nt_ranges.proofs.Lists.{all_in_order, all_then}
use Rattle.nt_ranges.proofs.Looks.{rises_below}
use Rattle.nt_ranges.proofs.ReportSizes.{report_size}
use Rattle.nt_ranges.proofs.Reports.{a_run_has_a_report, few_events}
use Rattle.nt_ranges.proofs.ScriptSizes.{script_size}

-- a look finds at most as much as there are events before it
looks_low : (s : Script) (limit : ℕ) (past : List Event) → length past ≤ 160000 → IsRun s limit past → AllByRecursion (λ e. LookIsLow e.what) past
looks_low s limit [] few r = tt
looks_low s limit (e ∷ past) few r = (go e.what refl, looks_low s limit past (omega (arith, few)) r.1)
  where
    go : (w : What) → e.what ≡ w → LookIsLow w
    go (Look x) k =
        let turn : Gives (step s limit (turn_at e.cpu (Look x)) past) e = subst (λ (v : What). Gives (step s limit (turn_at e.cpu v) past) e) k r.0 in
        let good = (look_gives s limit e.cpu x past e turn).0 in
        let rise = (both (list_any (λ v. nat_lt 0 v) x.value) (good_rises s e.cpu 0 x.value (own_of s e.cpu past) past) good).1 in
        all_then (λ v. v ≤ length past) (λ v. v ≤ 160000) (λ v h. omega (arith, h, few)) x.value
        (rises_below s e.cpu 0 x.value (own_of s e.cpu past) past rise)
    go w k = tt

-- the script of a run followed by its report or by its schedule is short enough for an input
pub texts_fit_the_input : (input : Input) (h : History) → IsRunOf input h → FitsTheInput input h
texts_fit_the_input input h r =
    let few = few_events input h r in
    let low = all_in_order (λ (e : Event). LookIsLow e.what) h.events (looks_low input.script h.turns (reverse h.events) (omega (arith, few)) r.run) in
    let script = script_size input r.sound in
    let report = report_size input h r.sound (a_run_has_a_report input h r) low in
    let most = report.0 in
    let less = report.1 in
    let with_report = length-append (text input) (report_text input h) in
    let with_schedule = length-append (text input) (schedule_text input (schedule_of h)) in
    record { report = omega (arith, script, most, with_report); schedule = omega (arith, script, most, less, with_schedule) }
