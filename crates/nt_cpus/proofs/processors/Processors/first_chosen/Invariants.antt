use Rattle.std.proofs.Common.{◌-◌, ◌<◌, ◌≡◌}
use Rattle.std.specs.Prelude.{List}
use Rattle.nt_event.specs.declared.events.Event.{Event}
use Rattle.nt_event.specs.Robin.{robin, robin_from}
use Rattle.nt_cpus.specs.Cycles.{last_cpu}
use Rattle.nt_cpus.specs.Following.{AreAfter}
use Rattle.nt_cpus.proofs.processors.Processors.first_chosen.Given as goal

abbrev pub invariant-loop : goal.invariant-loop
invariant-loop g l = record {
  rest : (past : List Event) → AreAfter past l.self (g.F.Floor.script l.floor) (g.F.Words.view l.floor) → l.fn.last ≡ last_cpu past →
      robin l.self.script l.self.limit past ≡ robin_from l.self.script l.self.limit (l.self.script.cpus - l.counter) l.p past;
  below : l.p < l.self.script.cpus;
}
