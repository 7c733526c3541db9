use Rattle.nt_text.specs.Lines.{is_byte}
use Rattle.nt_text.proofs.Cuts.{first_place}
use Rattle.nt_text.proofs.lines.line_end.Goals as goal

pub returns : goal.returns
returns c = first_place (is_byte 10) c.args.bytes.now c.memchr.result c.memchr.ensures
