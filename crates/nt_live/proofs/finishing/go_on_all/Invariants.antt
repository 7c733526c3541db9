use Rattle.std.proofs.Common.{length, reverse, ◌*◌, ◌-◌, ◌≡◌}
use Rattle.nt_plain.specs.States.{view_of}
use Rattle.nt_cpus.specs.Following.{AreAfter}
use Rattle.nt_live.specs.Gathered.{GoesByRobin}
use Rattle.nt_live.proofs.finishing.go_on_all.Given as goal

abbrev pub invariant-loop-made : goal.invariant-loop-made
invariant-loop-made l = record {
  after : AreAfter (reverse l.events) l.processors l.floor.script (view_of l.floor);
  script : l.processors.script ≡ l.fn.processors.script;
  limit : l.processors.limit ≡ l.fn.processors.limit;
  added : GoesByRobin l.fn.processors.script l.fn.processors.limit (reverse l.fn.events) (reverse l.events);
}

abbrev pub decreases-loop-made : goal.decreases-loop-made
decreases-loop-made l = l.processors.script.cpus * l.processors.limit - length l.events
