use Rattle.std.proofs.Common.{◌≡◌, ◌++◌}
use Rattle.nt_event.specs.Numbers.{cpu}
use Rattle.nt_left.specs.Items.{frames_on}
use Rattle.nt_left.specs.Lists.{joined}
use Rattle.nt_left.specs.Walks.{past_of}
use Rattle.nt_left.proofs.gathering.put_frames.Given as goal

abbrev pub invariant-loop-number : goal.invariant-loop-number
invariant-loop-number l = l.out.items ≡ l.fn.out.items ++ joined l.number (λ p. frames_on l.end.script.now (past_of l.end.events) (cpu p))
