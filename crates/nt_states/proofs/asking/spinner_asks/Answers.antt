use Rattle.std.proofs.Common.{arith}
use Rattle.nt_states.proofs.Requests.{spinners_named}
use Rattle.nt_states.proofs.asking.spinner_asks.Goals as goal

pub returns-clause-named : goal.returns-clause-named
returns-clause-named g c =
    rw c.set_spinners.ensures (spinners_named (g.S.LaneAnswers.script_of c.args.states.now) 0 c.spinners.result.now
    (let size = c.spinners.ensures.count in omega (arith, size)))
