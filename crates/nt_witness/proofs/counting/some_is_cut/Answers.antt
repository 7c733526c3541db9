use Rattle.std.proofs.Common.{arith, sym}
use Rattle.nt_witness.proofs.Cuts.{before, cut_at, none_is_cut}
use Rattle.nt_witness.proofs.counting.some_is_cut.Goals as goal

pub returns-then-turns-made : goal.returns-then-turns-made
returns-then-turns-made c =
    sym (cut_at c.args.history.now.turns c.loop-cpu.cpu c.turns.result c.made.result c.lend-events.result.rises.now c.lend-events.result.briefs.now _
    c.lend-events.ensures.events c.turns.ensures c.made.ensures c.args.script.now c.loop-cpu-test.true c.if-turns-made.true)

pub loop-cpu-preserved : goal.loop-cpu-preserved
loop-cpu-preserved c p low =
    before c.args.history.now.turns c.loop-cpu.cpu c.turns.result c.made.result c.lend-events.result.rises.now c.lend-events.result.briefs.now _
    c.lend-events.ensures.events c.turns.ensures c.made.ensures c.if-turns-made.false c.loop-cpu.invariant p low

pub returns : goal.returns
returns c =
    sym (none_is_cut c.args.script.now c.args.history.now.turns c.loop-cpu.cpu _ (omega (arith, c.loop-cpu-test.false)) c.loop-cpu.invariant)
