use Rattle.std.proofs.Common.{Some, ◌≡◌, ◌++◌}
use Rattle.nt_event.specs.Frames.{thread_frames}
use Rattle.nt_event.specs.Numbers.{thread}
use Rattle.nt_left.specs.Items.{frames_items}
use Rattle.nt_left.specs.Lists.{joined}
use Rattle.nt_left.specs.Walks.{past_of}
use Rattle.nt_left.proofs.gathering.put_threads_on.Given as goal

abbrev pub invariant-loop-number : goal.invariant-loop-number
invariant-loop-number l = l.out.items ≡ l.fn.out.items ++ joined l.number
    (λ t. frames_items l.cpu (Some (thread t)) (thread_frames l.end.script.now l.cpu (thread t) (past_of l.end.events)))
