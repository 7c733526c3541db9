use Rattle.std.proofs.Common.{subst}
use Rattle.nt_ask.specs.Reading.{GivesRead}
use Rattle.nt_ask.proofs.Parts.{is_found, script_fits, text_is_read}
use Rattle.nt_ask.proofs.reading.read_asked.Goals as goal

pub returns-clause-found : goal.returns-clause-found
returns-clause-found c = is_found c.args.bytes.now c.read_parts.result c.read_parts.ensures.exact

pub returns-clause-only : goal.returns-clause-only
returns-clause-only c = λ a t. subst (GivesRead c.read_parts.result) (text_is_read c.args.bytes.now a t) c.read_parts.ensures.exact

pub returns-clause-fits : goal.returns-clause-fits
returns-clause-fits c = script_fits c.read_parts.result c.read_parts.ensures.sound
