use Rattle.std.specs.Prelude.{List, ◌<◌}
use Rattle.nt_event.specs.declared.events.Event.{Event}
use Rattle.nt_event.specs.declared.scripts.Script.{Script}
use Rattle.nt_shade_asks.specs.Follows.{IsAsked, IsOf}
use Rattle.nt_ahead.proofs.Chosen.{HasChosen}
use Rattle.nt_ahead.proofs.choices.finds_ahead.Given as goal

abbrev pub invariant-loop-class : goal.invariant-loop-class
invariant-loop-class l =
    (s : Script) (past : List Event) → IsOf s l.asks → IsAsked s past l.asks → l.cpu.0 < s.cpus → HasChosen s past l.cpu l.class l.finds.items
