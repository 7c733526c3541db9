use Rattle.nt_ranges.proofs.Reports.{few_cpus, few_turns}
use Rattle.machine_table.proofs.forms.settled.Goals as goal

pub replay-requires-clause-all : goal.replay-requires-clause-all
replay-requires-clause-all c =
    let input = c.args.input.now in
    few_turns input.script.cpus c.args.schedule.now.turns (few_cpus input c.requires.sound) c.requires.turns.1
