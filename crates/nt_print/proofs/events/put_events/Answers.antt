use Rattle.std.proofs.Common.{rules}
use Rattle.nt_print.proofs.Lent.{each_fits}
use Rattle.nt_print.proofs.events.put_events.Goals as goal

pub put_line-requires-clause-fits : goal.put_line-requires-clause-fits
put_line-requires-clause-fits c =
    let events = c.args.events.now in
    search (
      rules,
      each_fits c.args.input.now.script events.briefs.now events.rises.now c.loop-number.number c.event-item.result c.loop-number-test.true c.requires.fit,
    )
