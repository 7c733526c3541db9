use Rattle.std.proofs.Common.{ap, arith, length}
use Rattle.nt_history.proofs.TurnLists.{as_many}
use Rattle.nt_history.proofs.turns.Turns.len.Goals as goal

pub returns : goal.returns
returns c = omega (arith, as_many c.self.inside.kept.items c.self.inside.looks c.self.invariant, ap length c.self.view_is)
