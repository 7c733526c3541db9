use Rattle.std.proofs.Common.{◌≡◌, ◌++◌}
use Rattle.nt_event.specs.Numbers.{dpc}
use Rattle.nt_event.specs.Objects.{standing}
use Rattle.nt_left.specs.Items.{dpc_item}
use Rattle.nt_left.specs.Lists.{as_list, joined}
use Rattle.nt_left.specs.Walks.{past_of}
use Rattle.nt_left.proofs.gathering.put_dpcs.Given as goal

abbrev pub invariant-loop-number : goal.invariant-loop-number
invariant-loop-number l = l.out.items ≡ l.fn.out.items ++ joined l.number
    (λ d. as_list (dpc_item l.end.script.now l.end.limit (past_of l.end.events) (dpc d) (standing (dpc d) (past_of l.end.events))))
