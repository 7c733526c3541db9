use Rattle.std.proofs.Common.{ap, ◌∙◌}
use Rattle.nt_cpu.specs.States.{CpuState}
use Rattle.nt_left.specs.Walks.{past_of}
use Rattle.nt_left.proofs.Standing.{cpu_place, own_at}
use Rattle.nt_left.proofs.ending.End.cpu.Goals as goal

pub bounds-cpus-place : goal.bounds-cpus-place
bounds-cpus-place c =
    let e = c.args.self.now in
    cpu_place e.script.now e.limit (past_of e.events) e.cpus.now c.args.cpu c.from-place.result c.requires.end.cpus c.requires.cpu c.from-place.ensures

pub returns : goal.returns
returns c =
    let e = c.args.self.now in
    ap (λ (x : CpuState). x.own) c.index-cpus-place.is
    ∙ own_at e.script.now e.limit (past_of e.events) e.cpus.now c.args.cpu c.from-place.result c.index-cpus-place.result c.requires.end.cpus c.requires.cpu
    c.from-place.ensures
