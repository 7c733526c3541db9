use Rattle.std.proofs.Common.{◌≡◌, ◌++◌}
use Rattle.nt_event.specs.Numbers.{timer}
use Rattle.nt_event.specs.Timers.{timer_setting}
use Rattle.nt_left.specs.Items.{timer_item}
use Rattle.nt_left.specs.Lists.{as_list, joined}
use Rattle.nt_left.specs.Walks.{past_of}
use Rattle.nt_left.proofs.gathering.put_timers.Given as goal

abbrev pub invariant-loop-number : goal.invariant-loop-number
invariant-loop-number l = l.out.items ≡ l.fn.out.items ++ joined l.number
    (λ t. as_list (timer_item (timer t) (timer_setting (timer t) (past_of l.end.events))))
