use Rattle.std.proofs.Common.{ap, [], ◌++◌, ◌∙◌, ◌∷◌}
use Rattle.nt_rounds.specs.Graph.{Drawn}
use Rattle.nt_rounds.proofs.Cutting.{drawn_push, ends_push}
use Rattle.nt_rounds.proofs.graph.Graph.push.Goals as goal

pub invariant_of-self-2 : goal.invariant_of-self-2
invariant_of-self-2 c =
    ends_push c.self.inside.to.items c.push.new.self.items c.args.to c.self.inside.ends.items c.in_ok-push.ensures.items c.self.invariant

pub returns-clause-ok : goal.returns-clause-ok
returns-clause-ok c =
    drawn_push c.self.inside.to.items c.push.new.self.items c.args.to c.self.inside.ends.items c.in_ok-push.ensures.items c.self.invariant
    ∙ ap (λ (x : Drawn). record x { opened = x.opened ++ c.args.to ∷ [] }) c.self.view_is
