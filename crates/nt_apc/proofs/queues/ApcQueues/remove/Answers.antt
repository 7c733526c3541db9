use Rattle.std.proofs.Common.{◌∙◌}
use Rattle.nt_apc.proofs.Fewer.{fewer_if}
use Rattle.nt_apc.proofs.Views.{is_inserted-seen, seen, seen-same, seen-without}
use Rattle.nt_apc.proofs.queues.ApcQueues.remove.Goals as goal

pub returns-clause-answer : goal.returns-clause-answer
returns-clause-answer c =
    c.take_out.ensures.answer ∙ is_inserted-seen c.args.a c.self.inside.items.items c.self.inside.closed c.args.self.now c.self.view_is

pub returns-clause-after : goal.returns-clause-after
returns-clause-after c =
    seen-without c.args.a c.self.inside.items.items c.take_out.new.items.items c.self.inside.closed c.args.self.now c.self.view_is c.take_out.ensures.after

pub returns-clause-no : goal.returns-clause-no
returns-clause-no c =
    seen-same c.args.a c.self.inside.items.items c.take_out.new.items.items c.self.inside.closed c.args.self.now c.take_out.result c.self.view_is
    c.take_out.ensures.after c.take_out.ensures.answer

pub returns-clause-fewer : goal.returns-clause-fewer
returns-clause-fewer c =
    fewer_if c.args.a c.args.self.now (seen c.take_out.new.items.items c.self.inside.closed) c.take_out.result
    (seen-without c.args.a c.self.inside.items.items c.take_out.new.items.items c.self.inside.closed c.args.self.now c.self.view_is c.take_out.ensures.after)
    (c.take_out.ensures.answer ∙ is_inserted-seen c.args.a c.self.inside.items.items c.self.inside.closed c.args.self.now c.self.view_is)
