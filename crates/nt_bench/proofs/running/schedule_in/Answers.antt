use Rattle.nt_bench.proofs.Shown.{turns_named}
use Rattle.nt_bench.proofs.running.schedule_in.Goals as goal

pub put_schedule_of-requires-clause-fit : goal.put_schedule_of-requires-clause-fit
put_schedule_of-requires-clause-fit c = turns_named c.args.run.now c.requires
