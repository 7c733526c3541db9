use Rattle.nt_report.proofs.AgainWhole.{is_only}
use Rattle.nt_report.proofs.Contract.{is_fit, is_found}
use Rattle.nt_report.proofs.reading.read_report.Goals as goal

pub returns-clause-found : goal.returns-clause-found
returns-clause-found c = is_found c.args.input.now c.requires.sound c.args.first_line c.args.bytes.now c.read_all.result c.read_all.ensures

pub returns-clause-fits : goal.returns-clause-fits
returns-clause-fits c = is_fit c.args.input.now c.requires.sound c.args.first_line c.args.bytes.now c.read_all.result c.read_all.ensures

pub returns-clause-only : goal.returns-clause-only
returns-clause-only c = λ h t. is_only c.args.bytes.now c.args.input.now h c.args.first_line c.read_all.result c.read_all.ensures t
