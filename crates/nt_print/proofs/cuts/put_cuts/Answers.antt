use Rattle.nt_text.proofs.RowTexts.{rows_put}
use Rattle.nt_print.proofs.CutRows.{cuts_go_on}
use Rattle.nt_print.proofs.cuts.put_cuts.Goals as goal

pub loop-cpu-preserved : goal.loop-cpu-preserved
loop-cpu-preserved c = rows_put _ _ _ _ _ _
    (cuts_go_on c.args.history.now c.loop-cpu.cpu c.args.cpus c.loop-cpu-test.true) c.loop-cpu.invariant c.in_ok-put_cut_of.ensures
