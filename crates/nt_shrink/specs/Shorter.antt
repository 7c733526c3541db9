-- A list of turns without one of them.
use Rattle.std.specs.Prelude.{List, drop, if◌then◌else◌, map, nat_lt, take, ℕ, ◌++◌, ◌+◌, ◌-◌, ◌==◌}
use Rattle.nt_event.specs.declared.events.Rises.{Rises}
use Rattle.nt_event.specs.declared.events.Turn.{Turn}
use Rattle.nt_event.specs.declared.events.Turn.TheVariants.{Look, Next, Switch}

-- a value of a later look, which is one more than the number of the event that asked: the events after the one that is
-- left out have numbers less by one, and what that one asked for doesn't rise
abbrev pub value_without : ℕ → ℕ → ℕ
value_without at v = if v == at + 1 then 0 else (if nat_lt (at + 1) v then v - 1 else v)

abbrev pub rises_without : ℕ → Rises → Rises
rises_without at r = record { value = map (value_without at) r.value }

-- a later turn
abbrev pub turn_without : ℕ → Turn → Turn
turn_without at (Next p) = Next p
turn_without at (Look p r) = Look p (rises_without at r)
turn_without at (Switch p t) = Switch p t

-- the list without the turn at this place, from 0
abbrev pub without : ℕ → List Turn → List Turn
without at list = take at list ++ map (turn_without at) (drop (at + 1) list)
