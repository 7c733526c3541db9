use Rattle.std.proofs.Common.{rules}
use Rattle.nt_log.proofs.TurnRows.{each_fits}
use Rattle.nt_log.proofs.printing.put_turns_of.Goals as goal

pub put_turn_of-requires-clause-fits : goal.put_turn_of-requires-clause-fits
put_turn_of-requires-clause-fits c =
    let events = c.args.events.now in
    search (
      rules,
      each_fits c.args.input.now.script events.briefs.now events.rises.now c.loop-event.event-index c.event-item.result c.loop-event-test.true c.requires.fit,
    )
