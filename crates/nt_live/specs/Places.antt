-- Where the events of several lists are kept.
use Rattle.std.specs.Prelude.{List, get_or, length, ℕ, ◌<◌, ◌≡◌}
use Rattle.nt_event.specs.declared.events.Event.{Event}
use Rattle.nt_live.specs.declared.merging.Place.{Place}

-- the place is one of this list, the one of this number among the lists, and the event there has this number
pub record IsIn (list : List (ℕ × Event)) (which number : ℕ) (p : Place) : Type 0 where
  pub here : p.list ≡ which
  pub within : p.at < length list
  pub number_is : (x : ℕ × Event) → (get_or list p.at x).0 ≡ number

-- it is the place of an event of this number in one of these lists
pub record IsAmong (lists : List (List (ℕ × Event))) (number : ℕ) (p : Place) : Type 0 where
  pub there : p.list < length lists
  pub has : (d : List (ℕ × Event)) → IsIn (get_or lists p.list d) p.list number p

-- the event at a place of these lists
abbrev pub event_at : List (List (ℕ × Event)) → Place → List (ℕ × Event) → ℕ × Event → Event
event_at lists p d x = (get_or (get_or lists p.list d) p.at x).1
