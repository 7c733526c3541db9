-- What a test tells, and what flags tell of the events that came.
use Rattle.std.specs.Prelude.{Bool, List, [], false, true, ◌∷◌}
use Rattle.nt_event.specs.declared.events.Event.{Event}
use Rattle.nt_expect.specs.declared.expectations.Watched.{Watched}
use Rattle.nt_expect.specs.Meaning.{Came}

-- the test is true where it holds, and false where it doesn't
abbrev pub Tells : Bool → Type 0 → Type 0
Tells true P = P
Tells false P = P → ⊥

-- there is a flag for each event that is watched for, which tells whether such an event came
abbrev pub AreCame : List Watched → List Event → List Bool → Type 0
AreCame [] past [] = Unit {0}
AreCame (x ∷ xs) past (b ∷ bs) = Tells b (Came x past) × AreCame xs past bs
AreCame [] past (b ∷ bs) = ⊥
AreCame (x ∷ xs) past [] = ⊥
