use Rattle.std.proofs.Common.{◌≡◌, replicate}
use Rattle.nt_event.specs.Threads.{start_facts}
use Rattle.nt_thread_lanes.proofs.threads.start_states.Given as goal

abbrev pub invariant-loop-thread : goal.invariant-loop-thread
invariant-loop-thread l = l.states.items ≡ replicate l._thread start_facts
