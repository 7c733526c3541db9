use Rattle.std.proofs.Common.{List, drop, length, ◌<◌}
use Rattle.nt_event.specs.declared.events.Event.{Event}
use Rattle.nt_search.specs.Machines.{Stands}
use Rattle.nt_search.specs.Ways.{Lead}
use Rattle.nt_search.proofs.Leading.{IsOnWay}
use Rattle.nt_search.proofs.plan.Plan.walk.Given as goal

abbrev pub invariant-loop-place : goal.invariant-loop-place
invariant-loop-place l =
    (from h : List Event) → Lead l.self.script.now l.turns from h → length h < l.self.limit →
    Stands l.self.script.now l.self.limit l.self.watched.items from l.fn.machine →
    IsOnWay l.self.script.now l.self.limit l.self.watched.items (drop l.place l.turns) h l.machine
