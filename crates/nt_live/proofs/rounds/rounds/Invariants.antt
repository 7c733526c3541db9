use Rattle.nt_live.specs.Rounds.{GoOn}
use Rattle.nt_live.proofs.rounds.rounds.Given as goal

abbrev pub invariant-loop : goal.invariant-loop
invariant-loop g l = GoOn l.initial.workers l.workers
