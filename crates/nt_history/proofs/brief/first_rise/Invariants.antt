use Rattle.nt_history.specs.Briefs.{NoneBelow}
use Rattle.nt_history.proofs.brief.first_rise.Given as goal

abbrev pub invariant-loop-class : goal.invariant-loop-class
invariant-loop-class l = NoneBelow l.class l.rises
