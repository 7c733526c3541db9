use Rattle.std.proofs.Common.{length, ◌*◌, ◌-◌, ◌≡◌}
use Rattle.nt_orders.proofs.randoms.draw_on.Given as goal

abbrev pub invariant-loop-usual : goal.invariant-loop-usual
invariant-loop-usual l = record {
  script : l.core.script ≡ l.fn.core.script;
  limit : l.core.limit ≡ l.fn.core.limit;
}

abbrev pub decreases-loop-usual : goal.decreases-loop-usual
decreases-loop-usual l = l.core.script.cpus * l.core.limit - length l.core.past
