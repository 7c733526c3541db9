use Rattle.std.proofs.Common.{ap, sym, ◌∙◌}
use Rattle.std.specs.Option.{option_or}
use Rattle.std.specs.Prelude.{Bool, None, Option, Some, if◌then◌else◌}
use Rattle.nt_event.specs.declared.numbers.CpuNo.{CpuNo}
use Rattle.nt_event.specs.Numbers.{cpu}
use Rattle.nt_why.specs.Courses.{past_on}
use Rattle.nt_why.specs.Timers.{expires_next, first_cpu}
use Rattle.nt_why.proofs.TimerLines.{first_cpu_more}
use Rattle.nt_why.proofs.times.first_expiring.Goals as goal

pub loop-n-preserved : goal.loop-n-preserved
loop-n-preserved c =
    let q = c.args.course.now in
    let n = c.loop-n.n in
    let f = expires_next q.script.now q.turns (past_on q) c.args.t in
    c.first_with-first.ensures
    ∙ ap (λ (z : Option CpuNo). option_or z (if c.in_ok-is_so.is_so then Some (cpu n) else None)) c.loop-n.invariant
    ∙ ap (λ (b : Bool). option_or (first_cpu f n) (if b then Some (cpu n) else None)) c.in_ok-is_so.ensures
    ∙ sym (first_cpu_more f n)
