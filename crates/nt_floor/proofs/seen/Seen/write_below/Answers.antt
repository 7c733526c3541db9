use Rattle.std.proofs.Common.{arith, nat_lt}
use Rattle.std.specs.Prelude.{if◌then◌else◌}
use Rattle.nt_event.specs.Lists.{value_at}
use Rattle.nt_event.proofs.Tables.{is_table}
use Rattle.nt_floor.proofs.seen.Seen.write_below.Goals as goal

pub returns : goal.returns
returns c =
    is_table c.loop-i.rises.value 16 (λ k. if nat_lt (value_at c.args.self.now k) (value_at c.args.values.now k) then value_at c.args.values.now k
    else 0) c.loop-i.invariant.len (λ k h. c.loop-i.invariant.low k (omega arith))
