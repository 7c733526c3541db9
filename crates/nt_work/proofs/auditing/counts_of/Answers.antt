use Rattle.std.proofs.Common.{IfOk, List, reverse, subst, ◌≡◌}
use Rattle.nt_event.specs.declared.events.Event.{Event}
use Rattle.nt_work.specs.Audits.{waitings}
use Rattle.nt_work.proofs.auditing.counts_of.Goals as goal

pub returns : goal.returns
returns c = subst (λ (es : List Event). IfOk c.waiting_counts.result (λ v. v.items ≡ waitings (reverse es))) c.lend.ensures.events c.waiting_counts.ensures
