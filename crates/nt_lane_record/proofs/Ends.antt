-- The last note of a list.
use Rattle.std.proofs.Common.{arith, refl}
use Rattle.std.specs.Prelude.{List, [], ℕ, ◌+◌, ◌++◌, ◌∷◌, ◌≡◌, ◌≤◌}
use Rattle.nt_event.specs.LaneStates.{LaneState}
use Rattle.nt_mark.specs.declared.view.Note.{Note}
use Rattle.nt_mark.specs.Rule.{IsAbove}
use Rattle.nt_lane_record.specs.Held.{first_state, last_shown, next_of}

-- a list whose last number is below n
pub next_below : (n : ℕ) (ns : List Note) → IsAbove n ns → next_of ns ≤ n
next_below n [] h = omega arith
next_below n (x ∷ []) h = omega (arith, h)
next_below n (x ∷ y ∷ ns) h = next_below n (y ∷ ns) h

-- one note more
pub next_more : (ns : List Note) (x : Note) → next_of (ns ++ x ∷ []) ≡ x.number + 1
next_more [] x = refl
next_more (y ∷ []) x = refl
next_more (y ∷ z ∷ ns) x = next_more (z ∷ ns) x

-- after one note more, the state last shown is the first state of that note, or the earlier one if it has none
pub shown_more : (s : LaneState) (ns : List Note) (x : Note) → last_shown s (ns ++ x ∷ []) ≡ first_state (last_shown s ns) x.states
shown_more s [] x = refl
shown_more s (y ∷ ns) x = shown_more (first_state s y.states) ns x
