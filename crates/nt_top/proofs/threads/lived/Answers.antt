use Rattle.nt_top.specs.Answer.{text_of}
use Rattle.nt_top.specs.declared.task.Task.TheVariants as task
use Rattle.nt_top.proofs.Done.{events_of}
use Rattle.nt_top.proofs.Found.{reported_done}
use Rattle.nt_top.proofs.threads.lived.Goals as goal

pub reported-requires-clause-fit : goal.reported-requires-clause-fit
reported-requires-clause-fit g c =
    events_of (task.Live c.args.input.now c.args.turns) c.in-Ok.history (record { sound = c.requires.sound; limit = c.requires.limit }) c.in-Ok.ensures

pub returns-in-Ok : goal.returns-in-Ok
returns-in-Ok g c =
    reported_done (task.Live c.args.input.now c.args.turns) c.in-Ok.history c.reported.result.status (text_of c.reported.result.text) c.in-Ok.ensures
    c.reported.ensures
