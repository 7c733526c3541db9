use Rattle.std.specs.Prelude.{false}
use Rattle.nt_event.specs.Frames.{thread_part}
use Rattle.nt_event.specs.Regions.{regions_of}
use Rattle.nt_cpu.proofs.Planned.{refusal_same}
use Rattle.nt_cpu.proofs.tasks.regions_for.Goals as goal

pub returns : goal.returns
returns c level own f =
    refusal_same c.args.command.now (record { crit = 0; guard = 0; busy = false }) (regions_of (thread_part c.args.frames.now)) level own f
    c.in_default.not-ToUser
