use Rattle.std.proofs.Common.{arith, get_or, max, ◌+◌}
use Rattle.nt_event.specs.Lists.{value_at}
use Rattle.nt_event.proofs.Tables.{is_table}
use Rattle.nt_lane_record.proofs.record.raise_from.Goals as goal

pub returns : goal.returns
returns c =
    is_table c.loop-i.values 16 (λ k. max (get_or c.args.told.now (c.args.first + k) 0) (value_at c.args.values.now k)) c.loop-i.invariant.len
    (λ k h. c.loop-i.invariant.low k (omega arith))
