use Rattle.std.proofs.Common.{ap, arith, length}
use Rattle.nt_rounds.specs.Graph.{Drawn}
use Rattle.nt_rounds.proofs.Cutting.{length-cut}
use Rattle.nt_rounds.proofs.graph.Graph.after.Goals as goal

pub part-requires-clause-place : goal.part-requires-clause-place
part-requires-clause-place c =
    let size = length-cut c.self.inside.to.items 0 c.self.inside.ends.items in
    let same = ap (λ (x : Drawn). length x.closed) c.self.view_is in
    omega (arith, size, same, c.requires, ap length c.as_slice-2.ensures.value)
