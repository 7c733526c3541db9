use Rattle.std.proofs.Common.{map, take, ◌≡◌}
use Rattle.nt_alike.specs.Bare.{bare_facts}
use Rattle.nt_shade.specs.Threads.{thread_said}
use Rattle.nt_shade.proofs.threads.threads_of.Given as goal

abbrev pub invariant-loop-state : goal.invariant-loop-state
invariant-loop-state l = map thread_said l.threads.items ≡ map bare_facts (take l.state-index l.states)
