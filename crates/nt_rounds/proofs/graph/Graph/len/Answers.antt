use Rattle.std.proofs.Common.{ap, arith, length, sym, ◌∙◌, ◌≡◌}
use Rattle.nt_rounds.specs.Graph.{Drawn}
use Rattle.nt_rounds.proofs.Cutting.{length-cut}
use Rattle.nt_rounds.proofs.graph.Graph.len.Goals as goal

pub returns : goal.returns
returns c =
    let size : c.len.result ≡ length c.self.inside.ends.items = omega arith in
    size ∙ sym (length-cut c.self.inside.to.items 0 c.self.inside.ends.items) ∙ ap (λ (x : Drawn). length x.closed) c.self.view_is
