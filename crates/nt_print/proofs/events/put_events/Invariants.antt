use Rattle.std.proofs.Common.{◌≡◌, ◌++◌, drop}
use Rattle.nt_text.specs.Lines.{rows_text}
use Rattle.nt_history.specs.Briefs.{events_in}
use Rattle.nt_print.specs.Lent.{lent}
use Rattle.nt_print.specs.Report.{event_rows}
use Rattle.nt_print.specs.Tally.{Tallies}
use Rattle.nt_print.proofs.events.put_events.Given as goal

abbrev pub invariant-loop-number : goal.invariant-loop-number
invariant-loop-number l = record {
  lines : l.out.items ++ rows_text (event_rows l.input l.number (events_in (drop l.number l.events.briefs.now) l.events.rises.now))
      ≡ l.fn.out.items ++ rows_text (event_rows l.input 0 (lent l.events));
  tally : Tallies l.input.script (lent l.events) l.number l.tally;
}
