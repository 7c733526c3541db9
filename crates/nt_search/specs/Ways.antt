-- How states were found: from which one, and by which turn.
pub use Rattle.nt_witness.specs.Leads.{Lead}
use Rattle.std.specs.Prelude.{List, Ok, [], get_or, length, ℕ, ◌<◌, ◌∷◌, ◌≡◌}
use Rattle.nt_event.specs.declared.events.Event.{Event}
use Rattle.nt_event.specs.declared.scripts.Script.{Script}
use Rattle.nt_alike.specs.Free.{free_step}
use Rattle.nt_search.specs.declared.states.Way.{Way}

-- the way leads from an earlier one of these histories to this one
pub record LeadsTo (s : Script) (all : List (List Event)) (n : ℕ) (way : Way) : Type 0 where
  pub earlier : way.from < n
  pub event : Event
  pub gives : free_step s way.turn (get_or all way.from []) ≡ Ok event
  pub is : get_or all n [] ≡ event ∷ get_or all way.from []

-- the first history has no event, and to each other one its way leads
pub record AreWays (s : Script) (all : List (List Event)) (ways : List Way) : Type 0 where
  pub count : length ways ≡ length all
  pub some : 0 < length all
  pub first : get_or all 0 [] ≡ []
  pub each : (n : ℕ) (d : Way) → 0 < n → n < length all → LeadsTo s all n (get_or ways n d)
