use Rattle.std.proofs.Common.{ap, sym, ◌∙◌}
use Rattle.std.specs.Option.{option_or}
use Rattle.std.specs.Prelude.{Bool, None, Option, Some, if◌then◌else◌}
use Rattle.nt_event.specs.declared.numbers.CpuNo.{CpuNo}
use Rattle.nt_event.specs.declared.scripts.Script.{Script}
use Rattle.nt_event.specs.Numbers.{cpu}
use Rattle.nt_event.specs.Own.{own_of}
use Rattle.nt_cpu.specs.States.{CpuState}
use Rattle.nt_why.specs.Courses.{past_on}
use Rattle.nt_why.specs.Timers.{first_cpu, owes}
use Rattle.nt_why.proofs.TimerLines.{first_cpu_more}
use Rattle.nt_why.proofs.times.first_sweeping.Goals as goal

pub loop-n-preserved : goal.loop-n-preserved
loop-n-preserved c =
    let q = c.args.course.now in
    let past = past_on q in
    let n = c.loop-n.n in
    let f = owes q.script.now past in
    let so =
    c.owes_sweep-owes.ensures ∙ ap (λ (x : CpuState). x.own.sweep) (c.cpu_of.ensures past c.requires.every)
    ∙ ap (λ (s : Script). (own_of s (cpu n) past).sweep) c.requires.script in
    c.first_with-first.ensures
    ∙ ap (λ (z : Option CpuNo). option_or z (if c.owes_sweep-owes.result then Some (cpu n) else None)) c.loop-n.invariant
    ∙ ap (λ (b : Bool). option_or (first_cpu f n) (if b then Some (cpu n) else None)) so
    ∙ sym (first_cpu_more f n)
