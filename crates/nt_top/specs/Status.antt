-- The exit statuses.
use Rattle.std.specs.Prelude.{ℕ}
use Rattle.nt_top.specs.declared.status.Status.{Status}
use Rattle.nt_top.specs.declared.status.Status.TheVariants.{Ok, Usage, Script, Schedule, Read, Write, Memory, TooLong}
use Rattle.nt_top.specs.declared.status.Status.TheVariants.{Illegal, NoGoal, NotDelivered, TooMany}

abbrev pub status_number : Status → ℕ
status_number Ok = 0
status_number Usage = 1
status_number Script = 2
status_number Schedule = 3
status_number Read = 4
status_number Write = 5
status_number Memory = 6
status_number TooLong = 7
status_number Illegal = 8
status_number NoGoal = 9
status_number NotDelivered = 10
status_number TooMany = 11
