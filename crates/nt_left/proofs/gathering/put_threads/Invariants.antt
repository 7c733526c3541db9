use Rattle.std.proofs.Common.{◌≡◌, ◌++◌}
use Rattle.nt_event.specs.Numbers.{thread}
use Rattle.nt_left.specs.Items.{thread_at}
use Rattle.nt_left.specs.Lists.{as_list, joined}
use Rattle.nt_left.specs.Walks.{past_of}
use Rattle.nt_left.proofs.gathering.put_threads.Given as goal

abbrev pub invariant-loop-number : goal.invariant-loop-number
invariant-loop-number l = l.out.items ≡ l.fn.out.items ++ joined l.number
    (λ t. as_list (thread_at l.end.script.now (past_of l.end.events) (thread t)))
