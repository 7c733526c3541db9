use Rattle.std.proofs.Common.{nat_le, reverse, false, ℕ, ◌<◌, ◌≡◌}
use Rattle.nt_event.specs.Numbers.{cpu}
use Rattle.nt_event.specs.Own.{made}
use Rattle.nt_witness.proofs.counting.some_is_cut.Given as goal

abbrev pub invariant-loop-cpu : goal.invariant-loop-cpu
invariant-loop-cpu l = (p : ℕ) → p < l.cpu → nat_le l.history.turns (made (cpu p) (reverse l.history.events)) ≡ false
