use Rattle.nt_findings.proofs.Saying.{AreSaidOf}
use Rattle.nt_expect.specs.declared.expectations.Expectation.{Expectation}
use Rattle.std.specs.Prelude.{List, None, get_or, ◌+◌}
use Rattle.nt_findings.proofs.answering.say_without.Given as goal

abbrev pub invariant-loop-index : goal.invariant-loop-index
invariant-loop-index l = (xs : List Expectation) → AreSaidOf xs l.spoken (λ k. get_or l.fails (l.first + k) None) l.fn.verdicts.items l.verdicts.items
