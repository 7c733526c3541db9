use Rattle.std.proofs.Common.{◌≡◌}
use Rattle.nt_why.specs.Courses.{past_on}
use Rattle.nt_why.specs.Timers.{first_cpu, owes}
use Rattle.nt_why.proofs.times.first_sweeping.Given as goal

abbrev pub invariant-loop-n : goal.invariant-loop-n
invariant-loop-n l = l.first ≡ first_cpu (owes l.course.script.now (past_on l.course)) l.n
