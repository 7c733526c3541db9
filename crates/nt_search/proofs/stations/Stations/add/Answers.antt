use Rattle.std.proofs.Common.{refl}
use Rattle.nt_search.proofs.Beginning.{added}
use Rattle.nt_search.proofs.stations.Stations.add.Goals as goal

pub returns-then-is_err : goal.returns-then-is_err
returns-then-is_err c x all are is = c.give_up.ensures x all (added x all c.args.self.now _ _ _ refl c.push.ensures.items are is)

pub returns-else-is_err : goal.returns-else-is_err
returns-else-is_err c x all are is = added x all c.args.self.now _ _ _ refl c.push.ensures.items are is
