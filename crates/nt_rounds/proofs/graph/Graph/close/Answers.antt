use Rattle.std.proofs.Common.{[], ap, arith, length, ◌++◌, ◌∙◌, ◌∷◌, ◌≡◌}
use Rattle.nt_rounds.specs.Graph.{Drawn}
use Rattle.nt_rounds.proofs.Cutting.{drawn_close, ends_closed}
use Rattle.nt_rounds.proofs.graph.Graph.close.Goals as goal

pub invariant_of-self-2 : goal.invariant_of-self-2
invariant_of-self-2 c =
    let size : c.len.result ≡ length c.self.inside.to.items = omega arith in
    ends_closed c.self.inside.to.items c.self.inside.ends.items c.push.new.self.items c.len.result c.in_ok-push.ensures.items size c.self.invariant

pub returns-clause-ok : goal.returns-clause-ok
returns-clause-ok c =
    let size : c.len.result ≡ length c.self.inside.to.items = omega arith in
    let along : Drawn → Drawn = λ x. record { closed = x.closed ++ x.opened ∷ []; opened = [] } in
    drawn_close c.self.inside.to.items c.self.inside.ends.items c.push.new.self.items c.len.result c.in_ok-push.ensures.items size c.self.invariant
    ∙ ap along c.self.view_is
