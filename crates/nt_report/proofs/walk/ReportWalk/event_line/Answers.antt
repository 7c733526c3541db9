use Rattle.nt_report.proofs.BareLines.{line_bare}
use Rattle.nt_report.proofs.walk.ReportWalk.event_line.Goals as goal

pub keep_line-requires : goal.keep_line-requires
keep_line-requires c =
    line_bare c.args.input.now c.args.number.now c.args.row.now c.event_line.new.line c.in-Ok.ensures.line
