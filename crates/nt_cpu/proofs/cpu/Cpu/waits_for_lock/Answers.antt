use Rattle.std.proofs.Common.{subst}
use Rattle.std.specs.Prelude.{◌≡◌}
use Rattle.nt_cpu.specs.Sound.{IsSound}
use Rattle.nt_cpu.specs.States.{CpuState}
use Rattle.nt_cpu.proofs.Unlocked.{never_waits}
use Rattle.nt_cpu.proofs.cpu.Cpu.waits_for_lock.Goals as goal

pub returns-then-self-eq0 : goal.returns-then-self-eq0
returns-then-self-eq0 c =
    let s : CpuState = c.args.self.now in
    let sound : IsSound s = subst IsSound c.self.view_is c.self.invariant.sound in
    let none : s.script.locks ≡ 0 = subst (λ (x : CpuState). x.script.locks ≡ 0) c.self.view_is c.if-self-eq0.true in
    never_waits s sound none
