use Rattle.std.proofs.Common.{take, ◌≡◌}
use Rattle.test_base.proofs.rounds.close_with.Given as goal

abbrev pub invariant-loop-state : goal.invariant-loop-state
invariant-loop-state l = l.graph ≡ record l.fn.graph { opened = take l.state-index l.states }
