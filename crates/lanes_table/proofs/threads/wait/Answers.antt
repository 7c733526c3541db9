use Rattle.std.proofs.Common.{[], List, arith, length, subst, sym, ◌<◌}
use Rattle.nt_event.specs.Frame.{Frame}
use Rattle.nt_event.specs.Frames.{Frames}
use Rattle.nt_event.proofs.Tables.{length-table_from}
use Rattle.lanes_table.proofs.threads.wait.Goals as goal

pub switch_to-requires-clause-thread : goal.switch_to-requires-clause-thread
switch_to-requires-clause-thread c =
    subst (λ (x : Frames). c.args.t.0 < length x.threads) (sym c.in_ok-frames.ensures.none)
    (let three = length-table_from {A = List Frame} 0 3 (λ _. []) in let below = c.requires.three in omega (arith, three, below))
