-- The new parts are those of the script before any event.
use Rattle.std.proofs.Common.{ap}
use Rattle.nt_states.specs.DpcLanes.{DpcLanes}
use Rattle.nt_states.specs.ThreadLanes.{ThreadLanes}
use Rattle.nt_plain.proofs.StartStates.{start_locks, start_sized, start_states}
use Rattle.nt_plain.proofs.states.States.new.Goals as goal

pub invariant_of-result : goal.invariant_of-result
invariant_of-result c = record {
  sound = record {
    script = c.requires;
    timers = start_sized c.args.script.now c.in_ok-timers.timers c.timer_count.result c.thread_count.result c.in_ok-timers.ensures c.timer_count.ensures
        c.thread_count.ensures;
  };
  dpcs = ap (λ (d : DpcLanes). d.script) c.in_ok-dpcs.ensures;
  threads = ap (λ (t : ThreadLanes). t.script) c.in_ok-threads.ensures;
  locks = rw c.in_ok-locks.ensures (start_locks c.args.script.now);
}

pub returns : goal.returns
returns c =
    start_states c.args.script.now c.in_ok-dpcs.dpcs c.in_ok-threads.threads c.in_ok-timers.timers c.in_ok-locks.locks c.timer_count.result
    c.thread_count.result c.in_ok-dpcs.ensures c.in_ok-threads.ensures c.in_ok-timers.ensures c.timer_count.ensures c.thread_count.ensures
    c.in_ok-locks.ensures
