use Rattle.nt_print.specs.Lent.{lent}
use Rattle.nt_print.specs.Tally.{Tallies}
use Rattle.nt_print.proofs.tally.tally_of.Given as goal

abbrev pub invariant-loop-number : goal.invariant-loop-number
invariant-loop-number l = Tallies l.script (lent l.events) l.number l.tally
