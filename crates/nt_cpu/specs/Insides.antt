-- The record that contracts see of a processor's fields.
use Rattle.std.specs.Prelude.{◌≡◌}
use Rattle.nt_cpu.specs.Due.{greatest_due}
use Rattle.nt_cpu.specs.declared.cpu.Cpu.TheInside.{Inside}
use Rattle.nt_cpu.specs.Sound.{IsSound}
use Rattle.nt_cpu.specs.States.{CpuState}

abbrev pub state_in : Inside → CpuState
state_in a =
    record {
      script = a.script.now;
      cpu = a.cpu;
      limit = a.limit;
      own = record {
        made = a.made;
        frames = a.frames;
        seen = a.seen;
        served = a.kept.served;
        rested = a.kept.rested;
        took = a.kept.took;
        fire = a.kept.fire;
        sweep = a.kept.sweep;
      };
    }

pub record IsSoundInside (a : Inside) : Type 0 where
  pub sound : IsSound (state_in a)
  pub due : a.due ≡ greatest_due a.seen a.kept.served
