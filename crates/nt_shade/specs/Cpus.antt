-- What a shade says of a processor, in the words of the machine's definitions.
use Rattle.std.specs.Prelude.{None, [], length, map, ◌<◌, ◌^◌}
use Rattle.nt_event.specs.Frames.{Frames}
use Rattle.nt_event.specs.Own.{Own}
use Rattle.nt_cpu.specs.States.{CpuState}
use Rattle.nt_alike.specs.Bare.{bare_own}
use Rattle.nt_shade.specs.declared.cpus.ShadeCpu.{ShadeCpu}
use Rattle.nt_shade.specs.Frames.{part_said}

abbrev pub frames_said : ShadeCpu → Frames
frames_said x =
    record { own = part_said x.own.items; running = x.running; threads = map (λ t. part_said t.items) x.threads.items }

-- what a processor keeps, without numbers and without which classes are due: these are told by the counts of what was
-- asked
abbrev pub kept_but_dues : Own → Own
kept_but_dues x = record (bare_own x) { seen = []; served = [] }

abbrev pub cpu_said : ShadeCpu → Own
cpu_said x =
    record {
      made = 0;
      frames = frames_said x;
      seen = [];
      served = [];
      rested = x.rested;
      took = None;
      fire = x.fire;
      sweep = x.sweep;
    }

-- a thread's number has two bytes
abbrev pub HasFewThreads : CpuState → Type 0
HasFewThreads c = length c.own.frames.threads < 2 ^ 16
