use Rattle.std.proofs.Common.{List, get_or, ℕ, ◌<◌}
use Rattle.std.specs.Prelude.{Contains}
use Rattle.nt_event.specs.declared.events.Event.{Event}
use Rattle.nt_live.specs.declared.merging.Place.{Place}
use Rattle.nt_live.specs.Places.{IsAmong}
use Rattle.nt_live.proofs.merging.note_all.Given as goal

abbrev pub invariant-loop-which : goal.invariant-loop-which
invariant-loop-which l =
    (j : ℕ) (d : List (ℕ × Event)) (x : ℕ × Event) (p : Place) → j < l.which → Contains (get_or l.lists j d) x →
    IsAmong l.lists x.0 (get_or l.places x.0 p)
