use Rattle.nt_top.specs.Answer.{text_of}
use Rattle.nt_top.specs.declared.task.Task.TheVariants as task
use Rattle.nt_top.proofs.Done.{fit_made, replay_bad}
use Rattle.nt_top.proofs.Found.{made_done}
use Rattle.nt_top.proofs.answer.replayed.Goals as goal

pub made-requires-clause-fit : goal.made-requires-clause-fit
made-requires-clause-fit c =
    fit_made (task.Replay c.args.input.now c.args.schedule.now) c.schedule_run-history.result
    (record { sound = c.requires.sound; limit = c.requires.limit }) c.schedule_run-history.ensures.ok

pub returns : goal.returns
returns c =
    made_done (task.Replay c.args.input.now c.args.schedule.now) c.schedule_run-history.result c.made.result.status (text_of c.made.result.text)
    c.schedule_run-history.ensures.ok
    (replay_bad c.args.input.now c.args.schedule.now c.schedule_run-history.result c.schedule_run-history.ensures.err) c.made.ensures
