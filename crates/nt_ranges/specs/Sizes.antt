-- How many bytes texts have.
use Rattle.std.specs.Prelude.{length, ◌++◌, ◌≤◌}
use Rattle.nt_event.specs.declared.events.History.{History}
use Rattle.nt_log.specs.Schedules.{schedule_of, schedule_text}
use Rattle.nt_print.specs.Report.{report_text}
use Rattle.nt_ranges.specs.Plain.{IsRunOf}
use Rattle.nt_script.specs.declared.walk.Input.{Input}
use Rattle.nt_script.specs.Text.{text}
use Rattle.nt_text.specs.declared.lines.TheConstants.{INPUT_LIMIT}

-- the script's text with the history's report behind it, or with its schedule behind it, has not too many bytes for an
-- input
pub record FitsTheInput (input : Input) (h : History) : Type 0 where
  pub report : length (text input ++ report_text input h) ≤ INPUT_LIMIT
  pub schedule : length (text input ++ schedule_text input (schedule_of h)) ≤ INPUT_LIMIT

-- the texts of each run do so
abbrev pub TextsFitTheInput : Type 0
TextsFitTheInput = (input : Input) (h : History) → IsRunOf input h → FitsTheInput input h
