use Rattle.std.proofs.Common.{take, ◌≡◌}
use Rattle.nt_plain.proofs.locks.Locks.copy.Given as goal

abbrev pub invariant-loop-lock : goal.invariant-loop-lock
invariant-loop-lock l = l.locks.items ≡ take l.lock-index l.self
