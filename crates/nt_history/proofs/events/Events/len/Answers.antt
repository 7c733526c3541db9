use Rattle.std.proofs.Common.{ap, arith, length}
use Rattle.nt_history.proofs.Lists.{as_many}
use Rattle.nt_history.proofs.events.Events.len.Goals as goal

pub returns : goal.returns
returns c = omega (arith, as_many c.self.inside.briefs.items c.self.inside.rises.items, ap length c.self.view_is)
