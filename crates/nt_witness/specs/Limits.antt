-- The turn limit of a witness, and its history.
use Rattle.std.specs.List.{count_by, list_any}
use Rattle.std.specs.Prelude.{Bool, List, [], false, if◌then◌else◌, max, min, nat_le, not, true, ℕ, ◌&&◌, ◌*◌, ◌==◌}
use Rattle.std.specs.Prelude.{◌∷◌}
use Rattle.nt_event.specs.declared.limits.TheConstants.{USUAL_TURNS}
use Rattle.nt_event.specs.declared.events.Event.{Event}
use Rattle.nt_event.specs.declared.events.Turn.{Turn}
use Rattle.nt_event.specs.declared.numbers.CpuNo.{CpuNo}
use Rattle.nt_event.specs.declared.scripts.Script.{Script}
use Rattle.nt_event.specs.Lists.{table}
use Rattle.nt_event.specs.Numbers.{cpu}
use Rattle.nt_event.specs.Own.{own_of}
use Rattle.nt_event.specs.Robin.{run_fuel}
use Rattle.nt_event.specs.Step.{cpu_at, is_cut}
use Rattle.nt_log.specs.Schedules.{turn_bound}

-- ---- limits

-- how many of the turns the processor takes
abbrev pub count_of : CpuNo → List Turn → ℕ
count_of p turns = count_by (λ t. (cpu_at t).0 == p.0) turns

-- the most turns that one processor takes: that of the first turn, or one of the others
abbrev pub most_of : List Turn → ℕ
most_of [] = 0
most_of (t ∷ turns) = max (count_of (cpu_at t) (t ∷ turns)) (most_of turns)

-- the least turn limit that has room for the turns
abbrev pub least_limit : List Turn → ℕ
least_limit turns = max 1 (most_of turns)

-- the turn limit of a run of the script where none is given
abbrev pub usual_limit : Script → ℕ
usual_limit s = min USUAL_TURNS (turn_bound s.cpus)

-- ---- the history

-- from this history on the robin rule went on to the end
abbrev pub completed : Script → ℕ → List Event → List Event
completed s limit h = run_fuel s limit (s.cpus * limit) h

-- some processor of the script is cut
abbrev pub some_is_cut : Script → ℕ → List Event → Bool
some_is_cut s limit h = list_any (λ cut. cut) (table s.cpus (λ p. is_cut limit (own_of s (cpu p) h)))

-- ---- which limit is taken

-- the limit has room for the turns, which lead to this history, and the robin rule then ends with no processor cut
abbrev pub serves : Script → List Turn → List Event → ℕ → Bool
serves s turns h limit = nat_le (most_of turns) limit && not (some_is_cut s limit (completed s limit h))

-- the usual limit where it serves, else the greatest one where that serves, else the least one; and where the run is to
-- show that it does not end, the least one at once. Profile.
abbrev pub witness_limit : Script → Bool → List Turn → List Event → ℕ
witness_limit s true turns h = least_limit turns
witness_limit s false turns h =
    if serves s turns h (usual_limit s) then usual_limit s
    else (if serves s turns h (turn_bound s.cpus) then turn_bound s.cpus else least_limit turns)
