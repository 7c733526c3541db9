use Rattle.nt_script.proofs.Behind.{behind}
use Rattle.nt_script.proofs.laws.what_stands_behind_is_found.Goals as goal

pub returns : goal.returns
returns c = behind
