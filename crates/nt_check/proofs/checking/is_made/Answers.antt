use Rattle.std.proofs.Common.{ap, sym, ◌∙◌}
use Rattle.std.specs.Prelude.{Ok, Some}
use Rattle.nt_event.specs.declared.events.Event.{Event}
use Rattle.nt_check.proofs.Stepping.{same_ok, same_some}
use Rattle.nt_check.proofs.checking.is_made.Goals as goal

pub returns-in-Ok : goal.returns-in-Ok
returns-in-Ok c = λ e h. (
  λ b. rw c.in-Ok.is (ap (λ (x : Event). Ok x) (same_some _ e (sym (c.is_event.ensures.0 b) ∙ h))),
  λ k. c.is_event.ensures.1 (h ∙ ap (λ (x : Event). Some x) (sym (same_ok c.args.taken.now c.in-Ok.field-0 c.args.made.now e c.in-Ok.is k))),
)
