use Rattle.machine_table.proofs.Fresh.{fresh_serves}
use Rattle.machine_table.proofs.stepping.by_advance.Goals as goal

pub advance-requires-clause-serves : goal.advance-requires-clause-serves
advance-requires-clause-serves c =
    fresh_serves c.args.input.now.script c.args.limit _ _ c.requires.limit.0 c.requires.cpus c.in_ok-cpu.ensures c.in_ok-floor.ensures
