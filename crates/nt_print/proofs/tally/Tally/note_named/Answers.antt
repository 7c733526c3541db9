use Rattle.std.proofs.Common.{◌∙◌, Bool, List, ap, arith, false, get_or, sym, true}
use Rattle.nt_history.specs.Briefs.{values_of}
use Rattle.nt_print.specs.Uses.{inserted_of}
use Rattle.nt_print.specs.declared.tally.Tally.{Tally}
use Rattle.nt_print.proofs.Lent.{cleared_by_it}
use Rattle.nt_print.proofs.tally.Tally.note_named.Goals as goal

pub returns-then-inserts : goal.returns-then-inserts
returns-then-inserts c =
    let briefs = c.args.events.now.briefs.now in
    let rises = c.args.events.now.rises.now in
    let i = inserted_of c.args.insert in
    let b = c.index-events-place.result in
    let old : Tally = c.args.self.now in
    ap (λ (flags : List Bool). record old { unnamed = flags })
    (c.clear.ensures ∙ cleared_by_it briefs rises c.args.number i b old.unnamed true (omega (arith, c.if-insert-number.true)) c.requires.number
    (sym c.if-inserts.true ∙ c.inserts.ensures (values_of rises (get_or briefs i.number b))))

pub returns-else-inserts : goal.returns-else-inserts
returns-else-inserts c =
    let briefs = c.args.events.now.briefs.now in
    let rises = c.args.events.now.rises.now in
    let i = inserted_of c.args.insert in
    let b = c.index-events-place.result in
    let old : Tally = c.args.self.now in
    ap (λ (flags : List Bool). record old { unnamed = flags })
    (cleared_by_it briefs rises c.args.number i b old.unnamed false (omega (arith, c.if-insert-number.true)) c.requires.number
    (sym c.if-inserts.false ∙ c.inserts.ensures (values_of rises (get_or briefs i.number b))))
