use Rattle.std.proofs.Common.{arith, ap, reverse, length}
use Rattle.std.proofs.lemmas.List.{length-reverse}
use Rattle.nt_dpc.proofs.Once.{length-each_once}
use Rattle.nt_dpc.proofs.queues.DpcQueue.depth.Goals as goal

pub overflow_cast-result : goal.overflow_cast-result
overflow_cast-result c =
    let items = c.self.inside.items.items in
    omega (
      arith,
      length-each_once c.self.inside.count (reverse items) c.self.invariant.2,
      length-reverse items,
      c.as_slice.ensures.len,
      c.depth.ensures.bound,
      ap length c.as_slice.ensures.value,
    )
