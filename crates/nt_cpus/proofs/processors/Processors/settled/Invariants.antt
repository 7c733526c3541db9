use Rattle.std.proofs.Common.{◌-◌, ◌≡◌}
use Rattle.std.specs.Prelude.{List}
use Rattle.nt_event.specs.declared.events.Event.{Event}
use Rattle.nt_event.specs.Robin.{is_settled}
use Rattle.nt_cpus.specs.Following.{AreAfter}
use Rattle.nt_cpus.proofs.Choosing.{are_done}
use Rattle.nt_cpus.proofs.processors.Processors.settled.Given as goal

abbrev pub invariant-loop-p : goal.invariant-loop-p
invariant-loop-p g l =
    (past : List Event) → AreAfter past l.self (g.F.Floor.script l.floor) (g.F.Words.view l.floor) →
    is_settled l.self.script l.self.limit past ≡ are_done l.self.script l.self.limit l.p (l.self.script.cpus - l.p) past
