use Rattle.std.proofs.Common.{get_or, ℕ, ◌<◌, ◌≡◌, ◌⊎◌}
use Rattle.nt_event.specs.declared.events.Event.{Event}
use Rattle.nt_live.specs.declared.merging.Place.{Place}
use Rattle.nt_live.specs.Places.{IsIn}
use Rattle.nt_live.proofs.merging.note_places.Given as goal

abbrev pub invariant-loop-at : goal.invariant-loop-at
invariant-loop-at l = record {
  others : (n : ℕ) (p : Place) → (get_or l.places n p ≡ get_or l.initial.places n p) ⊎ IsIn l.list l.which n (get_or l.places n p);
  noted : (j : ℕ) (x : ℕ × Event) (p : Place) → j < l.at → IsIn l.list l.which (get_or l.list j x).0 (get_or l.places (get_or l.list j x).0 p);
}
