use Rattle.std.proofs.Common.{ap, arith, length, ◌∙◌, ◌≡◌}
use Rattle.nt_rounds.specs.Graph.{edge_count}
use Rattle.nt_rounds.proofs.Cutting.{edges_are}
use Rattle.nt_rounds.proofs.graph.Graph.edges.Goals as goal

pub returns : goal.returns
returns c =
    let size : c.len.result ≡ length c.self.inside.to.items = omega arith in
    size ∙ edges_are c.self.inside.to.items c.self.inside.ends.items c.self.invariant ∙ ap edge_count c.self.view_is
