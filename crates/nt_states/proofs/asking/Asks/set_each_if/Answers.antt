use Rattle.nt_event.specs.declared.class.Asked.{Asked}
use Rattle.nt_states.proofs.FilledAsks.{first_two_are}
use Rattle.nt_states.proofs.asking.Asks.set_each_if.Goals as goal

pub returns-then-second : goal.returns-then-second
returns-then-second c =
    let a : Asked = record { cpu = c.args.cpu; class = c.args.a } in
    let b : Asked = record { cpu = c.args.cpu; class = c.args.b } in
    rw (c.if-first.true, c.if-second.true) (first_two_are c.self.inside.asks a b c.self.invariant.1)
