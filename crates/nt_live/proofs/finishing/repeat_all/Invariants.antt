use Rattle.std.proofs.Common.{◌≡◌}
use Rattle.nt_plain.specs.States.{view_of}
use Rattle.nt_cpus.specs.Following.{AreAfter}
use Rattle.nt_live.proofs.AddedTurns.{past_at}
use Rattle.nt_live.proofs.finishing.repeat_all.Given as goal

abbrev pub invariant-loop-number : goal.invariant-loop-number
invariant-loop-number l = record {
  after : AreAfter (past_at l.number l.events) l.processors l.floor.script (view_of l.floor);
  script : l.processors.script ≡ l.fn.processors.script;
  limit : l.processors.limit ≡ l.fn.processors.limit;
}
