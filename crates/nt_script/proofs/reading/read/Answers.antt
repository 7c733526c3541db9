use Rattle.std.proofs.Common.{subst}
use Rattle.nt_script.specs.Gives.{GivesRead}
use Rattle.nt_script.proofs.Contract.{is_found, text_is_read}
use Rattle.nt_script.proofs.reading.read.Goals as goal

pub returns-clause-found : goal.returns-clause-found
returns-clause-found c = is_found c.args.bytes.now c.read_all.result c.read_all.ensures

pub returns-clause-only : goal.returns-clause-only
returns-clause-only c = λ input t. subst (GivesRead c.read_all.result) (text_is_read c.args.bytes.now input t) c.read_all.ensures
