use Rattle.std.proofs.Common.{◌∙◌, get_or}
use Rattle.nt_history.specs.Briefs.{no_rises, values_of}
use Rattle.nt_print.proofs.Lent.{inserts_at, object_fits}
use Rattle.nt_print.proofs.waits.inserted_at.Goals as goal

pub returns-clause-inserts : goal.returns-clause-inserts
returns-clause-inserts c =
    let briefs = c.args.events.now.briefs.now in
    let rises = c.args.events.now.rises.now in
    let b = c.index-events-number.result in
    c.inserted.ensures (values_of rises (get_or briefs c.args.number b)) ∙ inserts_at briefs rises c.args.number b c.requires.number

pub returns-clause-fits : goal.returns-clause-fits
returns-clause-fits c =
    let events = c.args.events.now in
    object_fits c.args.script.now events.briefs.now events.rises.now c.args.number c.index-events-number.result c.inserted.result
    c.requires.number c.requires.fit (c.inserted.ensures no_rises)
