-- The record that contracts see of the fields of the states, and what holds of them at any time.
use Rattle.std.specs.Prelude.{◌≡◌}
use Rattle.nt_plain.specs.declared.states.States.TheInside.{Inside}
use Rattle.nt_states.specs.AllStates.{AllStates}
use Rattle.nt_states.specs.Sound.{IsSound}
use Rattle.nt_plain.specs.Locks.{AreLocks}

abbrev pub states_in : Inside → AllStates
states_in a =
    record {
      script = a.script.now;
      lanes = record {
        objects = a.dpcs.objects;
        queues = a.dpcs.queues;
        threads = a.threads.facts;
        timers = a.timers;
        locks = a.locks;
      };
    }

-- the parts are of the script
pub record IsKept (a : Inside) : Type 0 where
  pub sound : IsSound (states_in a)
  pub dpcs : a.dpcs.script ≡ a.script.now
  pub threads : a.threads.script ≡ a.script.now
  pub locks : AreLocks a.script.now a.locks
