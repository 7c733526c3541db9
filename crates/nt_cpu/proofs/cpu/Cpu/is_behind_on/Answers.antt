use Rattle.std.proofs.Common.{ap, ◌∙◌}
use Rattle.nt_floor.specs.Seen.{has_unseen}
use Rattle.nt_cpu.specs.States.{CpuState}
use Rattle.nt_cpu.proofs.cpu.Cpu.is_behind_on.Goals as goal

pub returns : goal.returns
returns g c =
    c.asks_more.ensures ∙ ap (λ (x : CpuState). has_unseen x.own.seen ((g.F.Words.view c.args.floor.now).value c.args.p)) c.self.view_is
