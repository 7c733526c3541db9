use Rattle.std.proofs.Common.{List, get_or, length, ℕ, ◌<◌, ◌≡◌}
use Rattle.nt_event.specs.declared.events.Event.{Event}
use Rattle.nt_live.specs.declared.merging.Place.{Place}
use Rattle.nt_live.specs.Places.{event_at}
use Rattle.nt_live.proofs.merging.read_all.Given as goal

abbrev pub invariant-loop-at : goal.invariant-loop-at
invariant-loop-at l = record {
  count : length l.events ≡ l.at;
  each : (n : ℕ) (e : Event) (p : Place) (d : List (ℕ × Event)) (x : ℕ × Event) → n < l.at →
      get_or l.events n e ≡ event_at l.lists (get_or l.places n p) d x;
}
