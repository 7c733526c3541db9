use Rattle.std.proofs.Common.{codes, rules}
use Rattle.nt_text.proofs.RowTexts.{line_put}
use Rattle.nt_print.specs.Report.{wait_fields}
use Rattle.nt_print.specs.Uses.{inserted_of}
use Rattle.nt_print.proofs.waits.put_wait.Goals as goal

pub returns : goal.returns
returns c = line_put _ _ _ _ (codes "waits") (wait_fields c.args.input.now.names (inserted_of c.args.insert))
    (search rules) c.in_ok-put_wait_fields.ensures c.in_ok-push.ensures.items
