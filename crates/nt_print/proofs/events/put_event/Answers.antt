use Rattle.std.proofs.Common.{decimal, rules}
use Rattle.nt_text.proofs.RowTexts.{line_put}
use Rattle.nt_history.specs.Briefs.{event_of, no_rises}
use Rattle.nt_print.specs.Report.{event_fields}
use Rattle.nt_print.proofs.events.put_event.Goals as goal

pub returns : goal.returns
returns c = line_put _ _ _ _ (decimal c.args.number) (event_fields c.args.input.now (event_of no_rises c.args.event.now))
    (search rules) c.in_ok-put_event_fields.ensures c.in_ok-push.ensures.items
