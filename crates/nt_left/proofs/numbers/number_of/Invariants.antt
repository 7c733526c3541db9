use Rattle.std.proofs.Common.{◌≡◌}
use Rattle.nt_left.specs.Walks.{lent, number_of, past_at}
use Rattle.nt_left.proofs.numbers.number_of.Given as goal

abbrev pub invariant-loop-number : goal.invariant-loop-number
invariant-loop-number l = l.found ≡ number_of l.dpc (past_at l.number (lent l.events))
