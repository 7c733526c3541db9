use Rattle.nt_ranges.proofs.Spinners.{spins_lines_name_the_locks, spins_lines_name_the_spinners}
use Rattle.nt_ranges.proofs.a_report_names_the_spinners.Goals as goal

pub returns-clause-processors : goal.returns-clause-processors
returns-clause-processors c = spins_lines_name_the_spinners

pub returns-clause-locks : goal.returns-clause-locks
returns-clause-locks c = spins_lines_name_the_locks
