use Rattle.std.proofs.Common.{◌∙◌}
use Rattle.nt_thread.proofs.Quiet.{accepted-put, quiet-accepted}
use Rattle.nt_thread.proofs.state.ThreadState.accept.Goals as goal

pub invariant_of-self : goal.invariant_of-self
invariant_of-self c =
    let put : _ = accepted-put c.args.pick c.args.self.now _ c.args.ended c.insert.new.self c.insert.result
    (c.self.view_is ∙ c.end_where.ensures) c.requires.open_for c.insert.ensures.answer c.insert.ensures.yes in
    quiet-accepted c.args.pick c.args.self.now _ c.args.ended c.insert.new.self c.requires.quiet c.requires.ends (c.self.view_is ∙ c.end_where.ensures) put

pub returns-clause-quiet : goal.returns-clause-quiet
returns-clause-quiet c =
    let put : _ = accepted-put c.args.pick c.args.self.now _ c.args.ended c.insert.new.self c.insert.result
    (c.self.view_is ∙ c.end_where.ensures) c.requires.open_for c.insert.ensures.answer c.insert.ensures.yes in
    quiet-accepted c.args.pick c.args.self.now _ c.args.ended c.insert.new.self c.requires.quiet c.requires.ends (c.self.view_is ∙ c.end_where.ensures) put
