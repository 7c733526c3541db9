-- The states that were found.
use Rattle.std.specs.Prelude.{Bool, List, [], if◌then◌else◌, length, ℕ, ◌++◌, ◌∷◌, ◌≡◌}
use Rattle.std.specs.List.{list_any, position_or_len}
use Rattle.nt_event.specs.declared.events.Event.{Event}
use Rattle.nt_event.specs.declared.scripts.Script.{Script}
use Rattle.nt_expect.specs.declared.expectations.Watched.{Watched}
use Rattle.nt_search.specs.contracts.states.KeyPartialEq.TheImpl as key_eq
use Rattle.nt_search.specs.declared.states.Key.{Key}
use Rattle.nt_search.specs.declared.states.Way.{Way}
use Rattle.nt_search.specs.declared.stop.Stop.{Stop}
use Rattle.nt_search.specs.declared.stop.Stop.TheVariants.{NoMemory, States, Turns}
use Rattle.nt_search.specs.Keys.{AreKeys, HasMore, SeenParts}
use Rattle.nt_search.specs.Ways.{AreWays}

-- what contracts see of the states: the parts that are kept, the keys of the states and how each was found, in the
-- order in which they were
pub record Seen : Type 0 where
  pub parts : SeenParts
  pub keys : List Key
  pub ways : List Way

abbrev pub are_equal : Key → Key → Bool
are_equal = (key_eq.ghosts).eq

-- one more, unless its key is there
abbrev pub put : Key → Way → Seen → Seen
put key way x =
    if list_any (are_equal key) x.keys then x
    else record x { keys = x.keys ++ key ∷ []; ways = x.ways ++ way ∷ [] }

-- the same states, where parts may be more
pub record HasGrown (old new : Seen) : Type 0 where
  pub keys : new.keys ≡ old.keys
  pub ways : new.ways ≡ old.ways
  pub parts : HasMore old.parts new.parts

-- the number of the state with this key: the first one that is equal, or else the next one
abbrev pub number_in : Key → Seen → ℕ
number_in key x = position_or_len (are_equal key) x.keys

-- why a state is not put to so many: there are that many already, or no memory was found
abbrev pub IsPutStop : ℕ → Seen → Stop → Type 0
IsPutStop most x States = length x.ways ≡ most
IsPutStop most x Turns = ⊥
IsPutStop most x NoMemory = Unit {0}

-- the states are those of these histories
pub record AreStates (s : Script) (watched : List Watched) (all : List (List Event)) (x : Seen) : Type 0 where
  pub keys : AreKeys s watched all x.parts x.keys
  pub ways : AreWays s all x.ways
