use Rattle.std.proofs.Common.{Option, ap, sym, ◌∙◌}
use Rattle.nt_apc.specs.Firsts.{may_begin}
use Rattle.nt_event.specs.declared.commands.ApcKind.{ApcKind}
use Rattle.nt_apc.proofs.Firsts.{deliverable-with}
use Rattle.nt_apc.proofs.queues.ApcQueues.deliverable_with.Goals as goal

pub returns : goal.returns
returns c = λ a n.
    c.may_begin.ensures ∙ ap (λ (k : Option ApcKind). may_begin c.args.regions c.args.level k) c.first_kind_with.ensures
    ∙ sym (deliverable-with (record { apc = a; kind = c.args.kind; number = n }) c.args.self.now c.args.regions c.args.level)
