use Rattle.nt_ranges.proofs.Cuts.{counts_are_made, cut_lines_name_the_cut}
use Rattle.nt_ranges.proofs.a_report_names_the_cut.Goals as goal

pub returns-clause-counts : goal.returns-clause-counts
returns-clause-counts c = counts_are_made

pub returns-clause-lines : goal.returns-clause-lines
returns-clause-lines c = cut_lines_name_the_cut
