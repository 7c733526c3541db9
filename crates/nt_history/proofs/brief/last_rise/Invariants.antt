use Rattle.std.proofs.Common.{ℕ, ◌+◌, ◌≤◌, ◌≡◌}
use Rattle.nt_event.specs.Lists.{value_at}
use Rattle.nt_history.proofs.brief.last_rise.Given as goal

abbrev pub invariant-loop-passed : goal.invariant-loop-passed
invariant-loop-passed l = (c : ℕ) → 16 ≤ c + l.passed → value_at l.rises.value c ≡ 0
