use Rattle.std.proofs.Common.{length, ◌≡◌}
use Rattle.nt_core.specs.Replays.{replayed, replayed_from}
use Rattle.nt_core.proofs.machine.Core.take_all.Given as goal

abbrev pub invariant-loop-walk : goal.invariant-loop-walk
invariant-loop-walk l = record {
  script : l.self.script ≡ l.fn.self.script;
  limit : l.self.limit ≡ l.fn.self.limit;
  rest :
      replayed l.fn.self.script l.fn.self.limit l.list
      ≡ replayed_from l.fn.self.script l.fn.self.limit (length l.self.past) l.self.past l.walk;
}

abbrev pub decreases-loop-walk : goal.decreases-loop-walk
decreases-loop-walk l = length l.walk
