use Rattle.std.proofs.Common.{subst, sym}
use Rattle.nt_search.specs.Machines.{Stands}
use Rattle.nt_search.proofs.machine.Machine.renew.Goals as goal

pub returns : goal.returns
returns c s limit watched past h = subst (Stands s limit watched past) (sym c.put.ensures) (c.in_ok-copy.ensures s limit watched past h)
