use Rattle.nt_ranges.proofs.Reports.{few_cpus, few_turns}
use Rattle.machine_table.proofs.forms.checked.Goals as goal

pub check-verdict-requires-clause-all : goal.check-verdict-requires-clause-all
check-verdict-requires-clause-all c =
    let input = c.args.input.now in
    let h = c.in-Ok.history in
    few_turns input.script.cpus h.turns (few_cpus input c.requires.sound) c.in-Ok.ensures.found.plain.limit.1
