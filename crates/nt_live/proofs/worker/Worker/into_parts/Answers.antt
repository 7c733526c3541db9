use Rattle.std.proofs.Common.{List, subst, sym, ℕ}
use Rattle.nt_event.specs.declared.events.Event.{Event}
use Rattle.nt_live.proofs.Keeping.{taken_apart}
use Rattle.nt_live.specs.Turning.{IsTakenApart}
use Rattle.nt_live.proofs.worker.Worker.into_parts.Goals as goal

pub returns : goal.returns
returns g c =
    let i = c.self.inside in
    subst (λ (xs : List (ℕ × Event)). IsTakenApart g.N.Shared.table g.N.Plan.script g.N.Plan.turns c.args.self i.cpu c.in-Some.pass xs)
    (sym c.finish.ensures)
    (taken_apart g.N.Shared.table g.N.Plan.script g.N.Plan.turns c.args.self i.cpu i.pass i.list.pairs c.in-Some.pass c.self.invariant c.in-Some.is
    c.self.view_is)
