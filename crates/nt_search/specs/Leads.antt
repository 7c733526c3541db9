-- Where states lead: what is noted of a turn that was taken.
use Rattle.std.specs.Prelude.{[], ℕ, ◌++◌, ◌∷◌, ◌≡◌, ◌⊎◌}
use Rattle.nt_search.specs.declared.found.Found.{Found}
use Rattle.nt_search.specs.declared.states.Key.{Key}
use Rattle.nt_search.specs.declared.states.Way.{Way}
use Rattle.nt_search.specs.declared.stop.Stop.{Stop}
use Rattle.nt_search.specs.States.{IsPutStop, number_in, put}

-- the state of this key is among the states, and the state that is being expanded leads to it
abbrev pub led : Key → Way → Found → Found
led key way x =
    record x {
      states = put key way x.states;
      graph = record x.graph { opened = x.graph.opened ++ number_in key x.states ∷ [] };
    }

-- what is left where a search stops at this: the same failures, and the states or one more
pub record IsHalfLed (key : Key) (way : Way) (most : ℕ) (stop : Stop) (old new : Found) : Type 0 where
  pub failures : new.failures.items ≡ old.failures.items
  pub states : (new.states ≡ old.states) ⊎ (new.states ≡ put key way old.states)
  pub cause : IsPutStop most new.states stop
