use Rattle.std.proofs.Common.{arith}
use Rattle.nt_text.specs.Lines.{lines}
use Rattle.nt_text.proofs.Cuts.{few_lines}
use Rattle.nt_report.proofs.PlainHistories.{history_plain}
use Rattle.nt_print.proofs.OneReport.{plain_fits}
use Rattle.nt_report.proofs.PlainLines.{parts_plain}
use Rattle.nt_report.proofs.reading.read_all.Goals as goal

pub history_of-requires : goal.history_of-requires
history_of-requires c =
    let few = (parts_plain c.args.input.now c.requires.sound c.args.first_line (lines c.args.bytes.now) c.in_ok-parts.parts c.in_ok-parts.ensures).1 in
    let less = few_lines c.args.bytes.now in
    let bytes = c.requires.bytes in
    let line = c.requires.line in
    omega (arith, few, less, bytes, line)

pub compared-requires-clause-fit : goal.compared-requires-clause-fit
compared-requires-clause-fit c =
    let parts = (parts_plain c.args.input.now c.requires.sound c.args.first_line (lines c.args.bytes.now) c.in_ok-parts.parts c.in_ok-parts.ensures).0 in
    let plain = history_plain c.args.input.now c.in_ok-parts.parts c.args.first_line c.in_ok-history.history parts c.in_ok-history.ensures in
    plain_fits c.args.input.now c.in_ok-history.history.events plain.events
