use Rattle.std.proofs.Common.{◌≡◌}
use Rattle.nt_event.specs.Lists.{table}
use Rattle.nt_event.specs.Locks.{free_lock}
use Rattle.nt_plain.proofs.locks.Locks.new.Given as goal

abbrev pub invariant-loop : goal.invariant-loop
invariant-loop l = l.locks.items ≡ table l.counter (λ k. free_lock l.fn.script)
