use Rattle.std.proofs.Common.{ap, sym, ◌∙◌, reverse}
use Rattle.std.specs.Option.{is_some}
use Rattle.nt_dpc.proofs.Fewer.{first_below}
use Rattle.nt_dpc.proofs.First.{is_some-first_dpc}
use Rattle.nt_dpc.proofs.queues.DpcQueue.first.Goals as goal

pub returns-in-Some-clause-found : goal.returns-in-Some-clause-found
returns-in-Some-clause-found c =
    rw (← c.self.view_is, ← c.as_slice.ensures.value) (ap is_some (sym c.in-Some.is ∙ c.first.ensures)
    ∙ is_some-first_dpc c.args.part (reverse c.as_slice.result.now))

pub returns-in-None-clause-found : goal.returns-in-None-clause-found
returns-in-None-clause-found c =
    rw (← c.self.view_is, ← c.as_slice.ensures.value) (ap is_some (sym c.in-None.is ∙ c.first.ensures)
    ∙ is_some-first_dpc c.args.part (reverse c.as_slice.result.now))

pub returns-in-Some-clause-below : goal.returns-in-Some-clause-below
returns-in-Some-clause-below c =
    rw (← c.self.view_is) (first_below c.args.part (reverse c.as_slice.result.now) c.self.inside.count c.in-Some.x
    (rw c.as_slice.ensures.value c.self.invariant.2) (sym (sym c.in-Some.is ∙ c.first.ensures)))
