use Rattle.std.proofs.Common.{Bool, ap, ◌||◌}
use Rattle.nt_shrink.proofs.Machines.{refused_one, taken_one}
use Rattle.nt_shrink.proofs.machine.Machine.take.Goals as goal

pub returns-in-Ok-clause-taken : goal.returns-in-Ok-clause-taken
returns-in-Ok-clause-taken c f s limit past h =
    taken_one s limit c.args.goal c.args.turn.now c.turn.new.event past c.args.self.now _ h c.in-Ok.ensures.ok c.in-Ok.ensures.kept
    (ap (λ (b : Bool). c.args.self.now.is_met || b) c.is_begun_by.ensures)

pub returns-in-Err-clause-refused : goal.returns-in-Err-clause-refused
returns-in-Err-clause-refused c f s limit past h =
    refused_one s limit c.args.goal c.args.turn.now c.in-Err.field-0 past c.args.self.now h c.in-Err.ensures.err
