use Rattle.nt_text.proofs.RowTexts.{rows_put}
use Rattle.nt_print.proofs.SpinRows.{spins_go_on}
use Rattle.nt_print.proofs.spins.put_spins.Goals as goal

pub loop-cpu-preserved : goal.loop-cpu-preserved
loop-cpu-preserved c = rows_put _ _ _ _ _ _
    (spins_go_on c.args.input.now.names c.args.history.now c.loop-cpu.cpu c.args.input.now.script.cpus c.loop-cpu-test.true)
    c.loop-cpu.invariant c.in_ok-put_spin_of.ensures
