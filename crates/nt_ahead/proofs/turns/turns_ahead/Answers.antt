use Rattle.std.proofs.Common.{arith}
use Rattle.nt_ahead.proofs.Listed.{one_cpu_more}
use Rattle.nt_ahead.proofs.Taken.{taken_cpu}
use Rattle.nt_ahead.proofs.turns.turns_ahead.Goals as goal

pub loop-cpu-preserved : goal.loop-cpu-preserved
loop-cpu-preserved c = λ past asked.
    one_cpu_more c.args.script.now past c.loop-cpu.cpu c.loop-cpu.turns.items _ (c.loop-cpu.invariant past asked) c.in_ok-add_turns.ensures.kept
    (c.in_ok-add_turns.ensures.all past asked)

pub returns : goal.returns
returns c = λ past asked turn m.
    let has = taken_cpu c.args.script.now past turn m in
    c.loop-cpu.invariant past asked turn (omega (arith, has)) m
