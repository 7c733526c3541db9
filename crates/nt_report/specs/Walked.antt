-- What was read of a report so far.
use Rattle.std.specs.Prelude.{List}
use Rattle.nt_log.specs.declared.walk.ScheduleWalk.{ScheduleWalk}
use Rattle.nt_report.specs.declared.events.EventLine.{EventLine}
use Rattle.nt_report.specs.declared.places.ReportPlace.{ReportPlace}

-- the part that was read last, the event lines that are kept, and what was read of the schedule
pub record Walked : Type 0 where
  pub place : ReportPlace
  pub lines : List EventLine
  pub schedule : ScheduleWalk
