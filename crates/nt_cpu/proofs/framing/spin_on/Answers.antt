use Rattle.nt_cpu.proofs.FramesLeft.{never_spins}
use Rattle.nt_cpu.proofs.framing.spin_on.Goals as goal

pub returns-in_default : goal.returns-in_default
returns-in_default c = never_spins c.args.command.now c.args.frames.now c.in_default.not-Acquire
