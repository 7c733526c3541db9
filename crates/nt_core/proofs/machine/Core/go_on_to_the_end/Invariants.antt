use Rattle.std.proofs.Common.{length, ◌*◌, ◌-◌, ◌≡◌}
use Rattle.nt_event.specs.Robin.{IsRobin}
use Rattle.nt_cpus.specs.Cycles.{last_cpu}
use Rattle.nt_core.proofs.machine.Core.go_on_to_the_end.Given as goal

abbrev pub invariant-loop-event : goal.invariant-loop-event
invariant-loop-event l = record {
  script : l.self.script ≡ l.fn.self.script;
  limit : l.self.limit ≡ l.fn.self.limit;
  robin : IsRobin l.fn.self.script l.fn.self.limit l.self.past;
  last : l.last ≡ last_cpu l.self.past;
}

abbrev pub decreases-loop-event : goal.decreases-loop-event
decreases-loop-event l = l.self.script.cpus * l.self.limit - length l.self.past
