use Rattle.nt_ranges.proofs.Reports.{its_schedule_is_plain as proved, its_turns_are_of_processors}
use Rattle.nt_ranges.proofs.its_schedule_is_plain.Goals as goal

pub returns-clause-plain : goal.returns-clause-plain
returns-clause-plain c = proved

pub returns-clause-processors : goal.returns-clause-processors
returns-clause-processors c = its_turns_are_of_processors
