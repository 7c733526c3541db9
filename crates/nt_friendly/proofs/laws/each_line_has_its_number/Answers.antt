use Rattle.nt_friendly.proofs.Numbers.{lines_numbered}
use Rattle.nt_friendly.proofs.laws.each_line_has_its_number.Goals as goal

pub returns : goal.returns
returns c = lines_numbered
