use Rattle.std.proofs.Common.{sym, ◌∙◌}
use Rattle.nt_why.specs.Courses.{past_on}
use Rattle.nt_why.specs.Timers.{expires_next, owes}
use Rattle.nt_why.proofs.TimerLines.{first_cpu_within}
use Rattle.nt_why.proofs.timers.put_found.Goals as goal

pub put_spoken-requires-clause-cpu : goal.put_spoken-requires-clause-cpu
put_spoken-requires-clause-cpu c =
    let q = c.args.course.now in
    first_cpu_within (expires_next q.script.now q.turns (past_on q) c.args.t) q.script.now.cpus c.in-Some.p (sym c.requires.expiring ∙ c.in-Some.is)

pub put_spoken-requires-in-Some-sweeping-clause-cpu : goal.put_spoken-requires-in-Some-sweeping-clause-cpu
put_spoken-requires-in-Some-sweeping-clause-cpu c =
    let q = c.args.course.now in
    first_cpu_within (owes q.script.now (past_on q)) q.script.now.cpus c.in-Some-sweeping.p (c.requires.times.sweep ∙ c.in-Some-sweeping.is)
