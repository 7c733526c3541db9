use Rattle.std.proofs.Common.{List, ap, reverse, subst, sym}
use Rattle.nt_event.specs.declared.events.Event.{Event}
use Rattle.nt_event.specs.declared.events.History.{History}
use Rattle.nt_live.proofs.Gathers.{stays}
use Rattle.nt_live.specs.Gathered.{GoesByRobin}
use Rattle.nt_live.proofs.gathering.ended.Goals as goal

pub returns-then-settled-clause-added : goal.returns-then-settled-clause-added
returns-then-settled-clause-added c =
    let same = ap (λ (h : History). h.events) c.new.ensures in
    subst (λ (xs : List Event). GoesByRobin c.args.script.now c.args.turns (reverse c.args.events) (reverse xs)) (sym same)
    (stays c.args.script.now c.args.turns (reverse c.args.events))
