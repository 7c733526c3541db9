use Rattle.std.proofs.Common.{subst, sym, ◌<◌, ◌∙◌}
use Rattle.nt_event.specs.declared.numbers.CpuNo.{CpuNo}
use Rattle.nt_cpu.specs.Choices.{turn_by}
use Rattle.nt_cpus.specs.States.{CpusState}
use Rattle.nt_cpus.proofs.Turning.{rule_accepted, taken_asked, turn_cpu}
use Rattle.nt_cpus.proofs.processors.Processors.make.Goals as goal

pub take-requires-clause-asked : goal.take-requires-clause-asked
take-requires-clause-asked g c past h =
    let s : CpusState = c.args.self.now in
    let t = turn_by c.args.cpu c.args.choice.now in
    let b = subst (λ (p : CpuNo). p.0 < s.script.cpus) (turn_cpu c.args.cpu c.args.choice.now) c.requires.below in
    let k = rule_accepted s.script s.limit c.args.cpu past t h.run c.requires.below (c.requires.own past h) in
    taken_asked s.script s.limit t past k.0 b k.1

pub unreachable-requires : goal.unreachable-requires
unreachable-requires g c =
    let s : CpusState = c.args.self.now in
    let past = c.requires.sound.0 in
    let h = c.requires.sound.1 in
    let k = rule_accepted s.script s.limit c.args.cpu past (turn_by c.args.cpu c.args.choice.now) h.run c.requires.below (c.requires.own past h) in
    let e = sym k.1 ∙ c.in-Err.ensures.err past h in
    cc
