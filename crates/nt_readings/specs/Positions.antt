-- Positions in a history: event n is the one that has n events before it.
use Rattle.std.specs.Prelude.{List, [], length, ℕ, ◌+◌, ◌<◌, ◌∷◌, ◌≡◌, ◌≤◌, ◌⊎◌}
use Rattle.nt_event.specs.declared.events.Event.{Event}

-- P holds of event n and the events before it
abbrev pub At : (Event → List Event → Type 0) → ℕ → List Event → Type 0
At P n [] = ⊥
At P n (e ∷ past) = ((n ≡ length past) × P e past) ⊎ At P n past

-- P holds of some event and the events before it
abbrev pub Somewhere : (Event → List Event → Type 0) → List Event → Type 0
Somewhere P [] = ⊥
Somewhere P (e ∷ past) = P e past ⊎ Somewhere P past

-- P holds of each event and the events before it
abbrev pub Everywhere : (Event → List Event → Type 0) → List Event → Type 0
Everywhere P [] = Unit {0}
Everywhere P (e ∷ past) = P e past × Everywhere P past

-- P holds of each event after event n and the events before it
abbrev pub EachAfter : (Event → List Event → Type 0) → ℕ → List Event → Type 0
EachAfter P n [] = Unit {0}
EachAfter P n (e ∷ past) = (n < length past → P e past) × EachAfter P n past

-- v is the greatest n + 1 over the numbers of which P holds, else 0
abbrev pub IsGreatestNext : (ℕ → Type 0) → ℕ → Type 0
IsGreatestNext P v = ((v ≡ 0) × ((n : ℕ) → P n → ⊥)) ⊎ ((n : ℕ) × (v ≡ n + 1) × P n × ((m : ℕ) → P m → m ≤ n))
