use Rattle.std.proofs.Common.{◌≡◌, ◌++◌}
use Rattle.nt_event.specs.Numbers.{cpu}
use Rattle.nt_event.specs.Own.{own_of}
use Rattle.nt_left.specs.Items.{cpu_item}
use Rattle.nt_left.specs.Lists.{as_list, joined}
use Rattle.nt_left.specs.Walks.{past_of}
use Rattle.nt_left.proofs.gathering.put_cpus.Given as goal

abbrev pub invariant-loop-number : goal.invariant-loop-number
invariant-loop-number l = l.out.items ≡ l.fn.out.items ++ joined l.number
    (λ p. as_list (cpu_item l.end.limit (cpu p) (own_of l.end.script.now (cpu p) (past_of l.end.events))))
