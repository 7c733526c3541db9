use Rattle.std.proofs.Common.{ap, ◌∙◌}
use Rattle.std.specs.Prelude.{List, ℕ}
use Rattle.nt_event.specs.Threads.{ThreadFacts, start_facts}
use Rattle.nt_event.specs.Lists.{table}
use Rattle.nt_thread_lanes.proofs.Ours.{starts}
use Rattle.nt_thread_lanes.proofs.Whole.{holds_start}
use Rattle.nt_thread_lanes.proofs.threads.Threads.new.Goals as goal

pub returns : goal.returns
returns c =
    let states = c.in_ok-states.ensures ∙ starts c.len.result in
    let threads = states ∙ ap (λ (n : ℕ). table n (λ t. start_facts)) c.len.ensures in
    ap (λ (fs : List ThreadFacts). record { script = c.args.script.now; facts = fs }) threads

pub invariant_of-result : goal.invariant_of-result
invariant_of-result c =
    let h = holds_start c.args.script.now c.len.result c.len-3.result c.in_ok-states.states.items c.in_ok-inserted.inserted.items c.requires
    c.in_ok-states.ensures c.len.ensures c.in_ok-inserted.ensures c.len-3.ensures in
    record { sound = h.sound; marked = h.marked }
