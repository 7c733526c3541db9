use Rattle.nt_findings.specs.Known.{AreKnown}
use Rattle.nt_findings.proofs.question.Question.hunt.Given as goal

abbrev pub invariant-loop-preemptions : goal.invariant-loop-preemptions
invariant-loop-preemptions l = AreKnown l.self.script.now l.self.expectations.now l.fails.items
