-- The record that contracts see of the fields of held lanes.
use Rattle.std.specs.Prelude.{option_map}
use Rattle.nt_lane.specs.declared.held.Held.TheInside.{Inside}
use Rattle.nt_lane.specs.Answers.{AreThere, HeldStates}

abbrev pub held_in : Inside → HeldStates
held_in a =
    record {
      script = a.script.now;
      object = option_map (λ o. o.now) a.object;
      queue = option_map (λ q. q.now) a.queue;
      group = option_map (λ g. g.now) a.group;
      timers = option_map (λ t. t.now) a.timers;
      spin_lock = option_map (λ x. x.now) a.spin_lock;
    }

abbrev pub AreThereInside : Inside → Type 0
AreThereInside a = AreThere (held_in a)
