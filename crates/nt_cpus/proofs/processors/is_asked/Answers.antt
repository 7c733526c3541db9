use Rattle.std.proofs.Common.{arith, subst, sym, ◌∙◌, ◌≡◌, ◌<◌}
use Rattle.nt_event.specs.declared.events.Turn.{Turn}
use Rattle.nt_event.specs.Step.{cpu_at}
use Rattle.nt_cpu.specs.Runs.{is_asked}
use Rattle.nt_cpus.proofs.Floors.{marked_asked}
use Rattle.nt_cpus.proofs.processors.is_asked.Goals as goal

pub returns-in-Look : goal.returns-in-Look
returns-in-Look g c s past f b =
    let n = c.were_asked.ensures.classes in
    let here = subst (λ (t : Turn). (cpu_at t).0 < s.cpus) c.in-Look.is b in
    let e = c.were_asked.ensures.value ∙ marked_asked s past _ c.in-Look.cpu 0 c.in-Look.rises.value f here (omega (arith, n)) in
    subst (λ (t : Turn). c.were_asked.result ≡ is_asked s t past) (sym c.in-Look.is) e
