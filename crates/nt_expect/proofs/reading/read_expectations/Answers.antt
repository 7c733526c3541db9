use Rattle.std.proofs.Common.{subst}
use Rattle.nt_expect.specs.Gives.{GivesRead}
use Rattle.nt_expect.proofs.Contract.{is_fit, is_found, text_is_read}
use Rattle.nt_expect.proofs.reading.read_expectations.Goals as goal

pub returns-clause-found : goal.returns-clause-found
returns-clause-found c =
    is_found c.args.bytes.now c.args.input.now c.args.first_line c.read_lines.result c.requires.sound c.read_lines.ensures

pub returns-clause-only : goal.returns-clause-only
returns-clause-only c = λ es t. subst (GivesRead c.read_lines.result) (text_is_read c.args.bytes.now c.args.input.now c.args.first_line es t)
    c.read_lines.ensures

pub returns-clause-fit : goal.returns-clause-fit
returns-clause-fit c =
    is_fit c.args.bytes.now c.args.input.now c.args.first_line c.read_lines.result c.requires.sound c.read_lines.ensures
