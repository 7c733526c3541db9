use Rattle.std.proofs.Common.{◌≤◌, arith, length, subst}
use Rattle.nt_states.specs.ThreadLanes.{ThreadLanes}
use Rattle.nt_thread_lanes.proofs.Numbers.{few_threads}
use Rattle.nt_thread_lanes.proofs.threads.Threads.thread_at.Goals as goal

pub overflow_cast-result : goal.overflow_cast-result
overflow_cast-result c =
    let few : length c.args.self.now.script.threads ≤ 64 = subst (λ (x : ThreadLanes). length x.script.threads ≤ 64) c.self.view_is
    (few_threads c.self.inside.script.now c.self.invariant.sound.script) in
    omega arith
