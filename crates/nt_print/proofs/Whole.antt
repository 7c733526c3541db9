-- A report, whose parts were put one behind the other.
use Rattle.std.proofs.Common.{◌≡◌, ◌∙◌, ℕ, List, [], ◌∷◌, ◌++◌, reverse, codes, ap, refl}
use Rattle.nt_event.specs.declared.events.Event.{Event}
use Rattle.nt_event.specs.declared.events.History.{History}
use Rattle.nt_log.specs.Schedules.{schedule_of, schedule_rows}
use Rattle.nt_script.specs.declared.walk.Input.{Input}
use Rattle.nt_text.specs.Lines.{Row, row_text, rows_text}
use Rattle.nt_text.proofs.RowTexts.{rows_put}
use Rattle.nt_print.specs.Report.{cut_rows, event_rows, report_text, spin_rows, wait_rows}

-- the first row, events, cuts, spins, waits and schedule put one behind the other are the report
pub report_put : (input : Input) (h : History) (events : List Event) (first lines cuts spins waits whole : List ℕ) → events ≡ h.events →
    first ≡ row_text (codes "report" ∷ []) → lines ≡ first ++ rows_text (event_rows input 0 events) →
    cuts ≡ lines ++ rows_text (cut_rows h 0 input.script.cpus) → spins ≡ cuts ++ rows_text (spin_rows input.names h 0 input.script.cpus) →
    waits ≡ spins ++ rows_text (wait_rows input.names (reverse events)) →
    whole ≡ waits ++ rows_text (schedule_rows input.names (schedule_of h)) → whole ≡ report_text input h
report_put input h events first lines cuts spins waits whole all head events_put cuts_put spins_put waits_put schedule_put =
    let text : List ℕ = report_text input h in
    let event_lines : List Row = event_rows input 0 h.events in
    let cut : List Row = cut_rows h 0 input.script.cpus in
    let spinning : List Row = spin_rows input.names h 0 input.script.cpus in
    let waiting : List Row = wait_rows input.names (reverse h.events) in
    let schedule : List Row = schedule_rows input.names (schedule_of h) in
    let behind_head : first ++ rows_text (event_lines ++ (cut ++ (spinning ++ (waiting ++ schedule)))) ≡ text =
    ap (λ (xs : List ℕ). xs ++ rows_text (event_lines ++ (cut ++ (spinning ++ (waiting ++ schedule))))) head in
    let behind_events : lines ++ rows_text (cut ++ (spinning ++ (waiting ++ schedule))) ≡ text =
    rows_put first lines text event_lines (cut ++ (spinning ++ (waiting ++ schedule))) (event_lines ++ (cut ++ (spinning ++ (waiting ++ schedule))))
    refl behind_head
    (events_put ∙ ap (λ (es : List Event). first ++ rows_text (event_rows input 0 es)) all) in
    let behind_cuts : cuts ++ rows_text (spinning ++ (waiting ++ schedule)) ≡ text =
    rows_put lines cuts text cut (spinning ++ (waiting ++ schedule)) (cut ++ (spinning ++ (waiting ++ schedule))) refl behind_events cuts_put in
    let behind_spins : spins ++ rows_text (waiting ++ schedule) ≡ text =
    rows_put cuts spins text spinning (waiting ++ schedule) (spinning ++ (waiting ++ schedule)) refl behind_cuts spins_put in
    schedule_put
    ∙ rows_put spins waits text waiting schedule (waiting ++ schedule) refl behind_spins
    (waits_put ∙ ap (λ (es : List Event). spins ++ rows_text (wait_rows input.names (reverse es))) all)
