use Rattle.std.proofs.Common.{ap, ◌∙◌}
use Rattle.nt_event.specs.declared.numbers.CpuNo.{CpuNo}
use Rattle.nt_event.specs.Numbers.{thread}
use Rattle.nt_event.specs.Own.{Own, own_of}
use Rattle.nt_event.specs.Routines.{cpu_of}
use Rattle.nt_event.specs.Threads.{ThreadFacts}
use Rattle.nt_event.specs.Waits.{facts}
use Rattle.nt_left.specs.Items.{apc_items}
use Rattle.nt_left.specs.Walks.{past_of}
use Rattle.nt_left.proofs.Lists.{joined_on}
use Rattle.nt_left.proofs.gathering.put_apcs.Goals as goal

pub loop-number-preserved : goal.loop-number-preserved
loop-number-preserved c =
    let e = c.args.end.now in
    let s = e.script.now in
    let past = past_of e.events in
    let n = c.loop-number.number in
    joined_on n (λ t. apc_items e.limit (own_of s (cpu_of s (thread t)) past) (thread t) (facts s (thread t) past)) _ _ _
    (apc_items e.limit c.cpu-cpu.result.now.own (thread n) c.thread.result.now) c.loop-number.invariant c.in_ok-put_picks.ensures
    (ap (λ (x : Own). apc_items e.limit x (thread n) c.thread.result.now)
    (c.cpu-cpu.ensures ∙ ap (λ (p : CpuNo). own_of s p past) c.cpu_of.ensures.cpu)
    ∙ ap (λ (y : ThreadFacts). apc_items e.limit (own_of s (cpu_of s (thread n)) past) (thread n) y) c.thread.ensures)
