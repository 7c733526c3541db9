use Rattle.std.proofs.Common.{◌≡◌, ◌++◌}
use Rattle.nt_event.specs.Numbers.{thread}
use Rattle.nt_event.specs.Own.{own_of}
use Rattle.nt_event.specs.Routines.{cpu_of}
use Rattle.nt_event.specs.Waits.{facts}
use Rattle.nt_left.specs.Items.{apc_items}
use Rattle.nt_left.specs.Lists.{joined}
use Rattle.nt_left.specs.Walks.{past_of}
use Rattle.nt_left.proofs.gathering.put_apcs.Given as goal

abbrev pub invariant-loop-number : goal.invariant-loop-number
invariant-loop-number l = l.out.items ≡ l.fn.out.items ++ joined l.number
    (λ t.
    apc_items l.end.limit (own_of l.end.script.now (cpu_of l.end.script.now (thread t)) (past_of l.end.events)) (thread t)
    (facts l.end.script.now (thread t) (past_of l.end.events)))
