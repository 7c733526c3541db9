use Rattle.std.proofs.Common.{Ok, ap, sym, ◌∙◌}
use Rattle.nt_text.proofs.Rows.{row_fields}
use Rattle.nt_text.proofs.lines.Line.row.Goals as goal

pub returns-in-Ok : goal.returns-in-Ok
returns-in-Ok c =
    let line = c.args.self.now in
    ap Ok (c.new.ensures ∙ row_fields (line.bytes.now, line.ended) _ (sym c.in-Ok.ensures)) ∙ c.in-Ok.ensures
