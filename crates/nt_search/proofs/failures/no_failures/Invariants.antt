use Rattle.std.proofs.Common.{None, get_or, length, ℕ, ◌≡◌}
use Rattle.nt_search.proofs.failures.no_failures.Given as goal

abbrev pub invariant-loop-place : goal.invariant-loop-place
invariant-loop-place l = (length l.failures.items ≡ l.place) × ((j : ℕ) → get_or l.failures.items j None ≡ None)
