-- A report has no version: inputs that differ in it alone have the same report.
use Rattle.std.proofs.Common.{◌≡◌, ◌∙◌, ℕ, ◌+◌, List, [], ◌∷◌, ◌++◌, reverse, refl, ap}
use Rattle.std.specs.Prelude.{codes, decimal}
use Rattle.nt_event.specs.declared.events.Begun.{Begun}
use Rattle.nt_event.specs.declared.events.Begun.TheVariants as begun
use Rattle.nt_event.specs.declared.events.Event.{Event}
use Rattle.nt_event.specs.declared.events.History.{History}
use Rattle.nt_event.specs.declared.events.What.{What}
use Rattle.nt_event.specs.declared.events.What.TheVariants.{Begin, Look}
use Rattle.nt_script.specs.declared.walk.Input.{Input}
use Rattle.nt_text.specs.Lines.{Row, rows_text}
use Rattle.nt_log.specs.Schedules.{schedule_of, schedule_rows}
use Rattle.nt_print.specs.Report.{begun_row, cut_rows, event_rows, line_rows, report_text, show_processor, show_running, spin_rows, used, wait_rows, what_row}

abbrev of_version : ℕ → Input → Input
of_version version input = record input { version = version }

-- the row of an activity that begins does not depend on the version
begun_same : (version : ℕ) (input : Input) (b : Begun) → begun_row (of_version version input) b ≡ begun_row input b
begun_same version input (begun.Int level) = refl
begun_same version input (begun.Dpc d) = refl
begun_same version input (begun.Threaded d) = refl
begun_same version input (begun.Apc a) = refl

-- the row of an action does not depend on the version
what_same : (version : ℕ) (input : Input) (w : What) → what_row (of_version version input) w ≡ what_row input w
what_same version input (Begin b from) = ap (λ (row : Row). codes "begin" ∷ (row ++ used from)) (begun_same version input b)
what_same version input w = refl

-- the rows of one event do not depend on the version
line_same : (version : ℕ) (input : Input) (n : ℕ) (e : Event) (w : What) → line_rows (of_version version input) n e w ≡ line_rows input n e w
line_same version input n e (Look rises) = refl
line_same version input n e w =
    ap (λ (row : Row). (decimal n ∷ show_processor e.cpu.0 ∷ show_running input.names e.thread ∷ decimal e.level ∷ row) ∷ [])
    (what_same version input e.what)

-- the rows of a list of events do not depend on the version
events_same : (version : ℕ) (input : Input) (n : ℕ) (es : List Event) → event_rows (of_version version input) n es ≡ event_rows input n es
events_same version input n [] = refl
events_same version input n (e ∷ es) =
    ap (λ (rows : List Row). rows ++ event_rows (of_version version input) (n + 1) es) (line_same version input n e e.what)
    ∙ ap (λ (rows : List Row). line_rows input n e e.what ++ rows) (events_same version input (n + 1) es)

-- the version of an input makes no difference to the report
pub one_report : (version : ℕ) (input : Input) (h : History) → report_text (of_version version input) h ≡ report_text input h
one_report version input h =
    ap (λ (events : List Row). rows_text ((codes "report" ∷ []) ∷ (events ++ rest))) (events_same version input 0 h.events)
  where
    rest : List Row
    rest = cut_rows h 0 input.script.cpus ++ (spin_rows input.names h 0 input.script.cpus
        ++ (wait_rows input.names (reverse h.events) ++ schedule_rows input.names (schedule_of h)))
