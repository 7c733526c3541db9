use Rattle.std.proofs.Common.{get_or, length, ℕ, ◌<◌}
use Rattle.nt_rounds.proofs.known.first_unknown.Given as goal

abbrev pub invariant-loop-place : goal.invariant-loop-place
invariant-loop-place l = (k : ℕ) → k < l.place → get_or l.depths k 0 < length l.depths
