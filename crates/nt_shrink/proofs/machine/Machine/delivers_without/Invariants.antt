use Rattle.std.proofs.Common.{List, map, take, ℕ}
use Rattle.nt_event.specs.declared.events.Event.{Event}
use Rattle.nt_event.specs.declared.scripts.Script.{Script}
use Rattle.nt_shrink.specs.Machines.{AreTaken, Took}
use Rattle.nt_shrink.specs.Shorter.{turn_without}
use Rattle.nt_shrink.proofs.machine.Machine.delivers_without.Given as goal

abbrev pub invariant-loop-turn : goal.invariant-loop-turn
invariant-loop-turn l = (s : Script) (limit : ℕ) (past : List Event) → Took s limit l.goal past l.fn.self →
    AreTaken s limit l.goal (take l.turn-index (map (turn_without l.at) l.later)) past l.self
