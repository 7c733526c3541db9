use Rattle.nt_ranges.proofs.Reports.{few_cpus, few_turns}
use Rattle.nt_top.proofs.threads.few_events.Goals as goal

pub returns : goal.returns
returns c = few_turns c.args.input.now.script.cpus c.args.turns (few_cpus c.args.input.now c.requires.sound) c.requires.limit.1
