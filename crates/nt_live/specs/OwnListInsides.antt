-- What contracts see of the fields of a worker's list, and what holds of them.
use Rattle.std.specs.List.{zip}
use Rattle.std.specs.Prelude.{length, vec_capacity, ◌≡◌, ◌≤◌}
use Rattle.nt_live.specs.declared.list.OwnList.TheInside.{Inside}
use Rattle.nt_live.specs.OwnLists.{OwnEvents}

abbrev pub own_events_in : Inside → OwnEvents
own_events_in a = record { pairs = zip a.numbers.items a.events.events; room = a.events.room }

-- an event for each number, and room for the numbers
pub record IsSoundInside (a : Inside) : Type 0 where
  pub as_many : length a.events.events ≡ length a.numbers.items
  pub numbers : a.events.room ≤ vec_capacity a.numbers
