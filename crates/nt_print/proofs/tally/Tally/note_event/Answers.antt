use Rattle.std.proofs.Common.{◌∙◌, ◌+◌, List, ap, arith, get_or, subst, sym, ℕ}
use Rattle.nt_event.specs.declared.events.Event.{Event}
use Rattle.nt_history.specs.Briefs.{event_in, events_in, values_of}
use Rattle.nt_print.specs.declared.tally.Tally.{Tally}
use Rattle.nt_print.specs.Tally.{Tallies, with_what}
use Rattle.nt_print.proofs.Lent.{below, event_at, processor_fits}
use Rattle.nt_print.proofs.Tallied.{tally_step}
use Rattle.nt_print.proofs.tally.Tally.note_event.Goals as goal

pub count-requires-clause-place : goal.count-requires-clause-place
count-requires-clause-place c =
    let events = c.args.events.now in
    let many = c.requires.tallies.places.made in
    let default = c.index-events-number.result in
    let fits = processor_fits c.args.script.now events.briefs.now events.rises.now c.args.number default c.requires.number c.requires.fit in
    omega (arith, many, fits)

pub returns : goal.returns
returns c =
    let briefs = c.args.events.now.briefs.now in
    let rises = c.args.events.now.rises.now in
    let script = c.args.script.now in
    let events : List Event = events_in briefs rises in
    let k = c.args.number in
    let default = c.index-events-number.result in
    let b = get_or briefs k default in
    let e : Event = event_in rises b in
    let old : Tally = c.args.self.now in
    subst (Tallies script events (k + 1))
    (sym (c.note_did.ensures (values_of rises b) ∙ ap (λ (made : List ℕ). with_what events k e.cpu.0 e.what (record old { made = made })) c.count.ensures))
    (tally_step script events k e old (below briefs rises k c.requires.number) (event_at briefs rises k default c.requires.number) c.requires.tallies)
