use Rattle.nt_ranges.proofs.Reports.{few_cpus, few_turns}
use Rattle.nt_top.proofs.answer.robin_run.Goals as goal

pub run-requires-clause-all : goal.run-requires-clause-all
run-requires-clause-all c =
    few_turns c.args.input.now.script.cpus c.args.turns (few_cpus c.args.input.now c.requires.sound) c.requires.limit.1
