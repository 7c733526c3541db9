use Rattle.nt_states.proofs.FilledAsks.{first_is}
use Rattle.nt_states.proofs.asking.Asks.set_one.Goals as goal

pub returns : goal.returns
returns c = first_is c.self.inside.asks (record { cpu = c.args.cpu; class = c.args.class }) c.self.invariant.1
