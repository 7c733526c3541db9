use Rattle.nt_ranges.proofs.Reports.{few_cpus, few_turns}
use Rattle.nt_top.proofs.answer.schedule_run.Goals as goal

pub replay-requires-clause-all : goal.replay-requires-clause-all
replay-requires-clause-all c =
    few_turns c.args.input.now.script.cpus c.args.schedule.now.turns (few_cpus c.args.input.now c.requires.sound) c.requires.limit.1
