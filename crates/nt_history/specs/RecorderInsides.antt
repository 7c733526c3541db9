-- What contracts see of a recorder's fields, and what holds of them.
use Rattle.std.specs.Prelude.{length, vec_capacity, ◌≤◌}
use Rattle.nt_history.specs.declared.recorder.Recorder.TheInside.{Inside}
use Rattle.nt_history.specs.Briefs.{HasEach, events_in}
use Rattle.nt_history.specs.Recorded.{Recorded}

abbrev pub recorded_in : Inside → Recorded
recorded_in a = record { events = events_in a.briefs.items a.rises.items; room = a.room }

pub record IsSoundInside (a : Inside) : Type 0 where
  pub each : HasEach a.briefs.items a.rises.items
  pub fewer : length a.rises.items ≤ length a.briefs.items
  pub briefs : a.room ≤ vec_capacity a.briefs
  pub rises : a.room ≤ vec_capacity a.rises
