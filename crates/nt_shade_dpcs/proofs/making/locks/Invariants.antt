use Rattle.std.specs.Prelude.{map, ◌≡◌}
use Rattle.nt_event.specs.Lists.{table}
use Rattle.nt_event.specs.Locks.{free_lock}
use Rattle.nt_shade_dpcs.specs.Shades.{lock_said}
use Rattle.nt_shade_dpcs.proofs.making.locks.Given as goal

abbrev pub invariant-loop : goal.invariant-loop
invariant-loop l = map lock_said l.locks.items ≡ table l.counter (λ k. free_lock l.fn.script)
