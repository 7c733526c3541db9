use Rattle.std.specs.Prelude.{List}
use Rattle.nt_event.specs.declared.events.Event.{Event}
use Rattle.nt_shade_asks.specs.Follows.{IsAsked}
use Rattle.nt_ahead.proofs.Listed.{HasAllBelow}
use Rattle.nt_ahead.proofs.turns.turns_ahead.Given as goal

abbrev pub invariant-loop-cpu : goal.invariant-loop-cpu
invariant-loop-cpu l = (past : List Event) → IsAsked l.script past l.asks → HasAllBelow l.script past l.cpu l.turns.items
