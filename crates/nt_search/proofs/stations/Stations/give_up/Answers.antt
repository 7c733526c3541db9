use Rattle.nt_search.proofs.Beginning.{given_up}
use Rattle.nt_search.proofs.stations.Stations.give_up.Goals as goal
use Rattle.std.specs.Prelude.{refl}

pub returns : goal.returns
returns c x all are = given_up x all c.args.self.now _ refl c.new.ensures.items are
