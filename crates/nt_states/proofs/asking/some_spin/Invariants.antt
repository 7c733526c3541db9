use Rattle.std.proofs.Common.{drop, ◌≡◌}
use Rattle.std.specs.List.{list_any}
use Rattle.std.specs.Prelude.{◌||◌}
use Rattle.nt_states.proofs.asking.some_spin.Given as goal

abbrev pub invariant-loop-spins : goal.invariant-loop-spins
invariant-loop-spins l = (l.some || list_any (λ b. b) (drop l.spins-index l.spinners)) ≡ list_any (λ b. b) l.spinners
