use Rattle.nt_shows.proofs.Begun.{begun_before, begun_now}
use Rattle.nt_shows.proofs.watching.begins_thread.Goals as goal

pub returns-then-not-came : goal.returns-then-not-came
returns-then-not-came c = λ past came.
    begun_now c.args.thread c.args.event.now past c.args.came c.takes.result c.if-not-came.true came c.takes.ensures

pub returns-else-not-came : goal.returns-else-not-came
returns-else-not-came c = λ past came. begun_before c.args.thread c.args.event.now past c.args.came c.if-not-came.false came
