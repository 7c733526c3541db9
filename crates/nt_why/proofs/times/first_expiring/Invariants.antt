use Rattle.std.proofs.Common.{◌≡◌}
use Rattle.nt_why.specs.Courses.{past_on}
use Rattle.nt_why.specs.Timers.{expires_next, first_cpu}
use Rattle.nt_why.proofs.times.first_expiring.Given as goal

abbrev pub invariant-loop-n : goal.invariant-loop-n
invariant-loop-n l = l.first ≡ first_cpu (expires_next l.course.script.now l.course.turns (past_on l.course) l.t) l.n
