use Rattle.std.proofs.Common.{take, ◌≡◌}
use Rattle.nt_thread_lanes.proofs.threads.Threads.copy.Given as goal

abbrev pub invariant-loop-state : goal.invariant-loop-state
invariant-loop-state l = l.states.items ≡ take l.state-index l.self.facts
