-- The new machine's parts are those of the empty history.
use Rattle.std.proofs.Common.{ap, arith, reverse}
use Rattle.nt_history.specs.Recorded.{Recorded}
use Rattle.nt_core.proofs.Starting.{start_sound}
use Rattle.nt_core.proofs.machine.Core.new.Goals as goal

pub invariant_of-result : goal.invariant_of-result
invariant_of-result c = record {
  sound = start_sound c.args.script.now c.args.turns _ _ _ c.requires.script c.requires.turns.1 c.requires.all c.in_ok-processors.ensures
      c.in_ok-floor.ensures (ap (λ (r : Recorded). reverse r.events) c.in_ok-events.ensures);
  room = rw (c.in_ok-processors.ensures, c.in_ok-events.ensures, c.from.ensures) (omega arith);
}

pub returns : goal.returns
returns c = λ j. record {
  script = (c.in_ok-processors.ensures j).script;
  limit = (c.in_ok-processors.ensures j).limit;
  past = reverse (c.in_ok-events.ensures j).events;
}
