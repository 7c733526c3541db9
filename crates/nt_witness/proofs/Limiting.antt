-- Turn limits of witnesses: they are in range, and a run that is cut has the least one.
use Rattle.std.proofs.Common.{arith, inl, inr}
use Rattle.std.specs.Prelude.{Bool, List, false, if◌then◌else◌, nat_le, not, refl, true, ℕ, ◌⊎◌, ◌≡◌, ◌≤◌}
use Rattle.nt_event.specs.declared.limits.TheConstants.{TURNS}
use Rattle.nt_event.specs.declared.events.Event.{Event}
use Rattle.nt_event.specs.declared.events.Turn.{Turn}
use Rattle.nt_event.specs.declared.scripts.Script.{Script}
use Rattle.nt_event.proofs.Options.{both, not_true}
use Rattle.nt_log.specs.Schedules.{turn_bound}
use Rattle.nt_witness.specs.Limits.{completed, least_limit, most_of, serves, some_is_cut, usual_limit, witness_limit}

-- a limit is in its range
abbrev pub IsInRange : Script → ℕ → Type 0
IsInRange s limit = (1 ≤ limit) × (limit ≤ turn_bound s.cpus)

-- the turn bound of a script is at least 1
bound_some : (s : Script) → 1 ≤ turn_bound s.cpus
bound_some s = go (nat_le s.cpus 8)
  where
    go : (b : Bool) → 1 ≤ (if b then TURNS else 2500)
    go true = omega arith
    go false = omega arith

module _ (s : Script) (turns : List Turn) (h : List Event) (room : most_of turns ≤ turn_bound s.cpus) where
  least : IsInRange s (least_limit turns)
  least = let some = bound_some s in (omega arith, omega (arith, some, room))

  greatest : IsInRange s (turn_bound s.cpus)
  greatest = (bound_some s, omega arith)

  usual : IsInRange s (usual_limit s)
  usual = let some = bound_some s in (omega (arith, some), omega arith)

  -- the limit of a witness is at least 1 and at most the bound of the script, if the bound has room for the turns
  pub limit_in_range : (endless : Bool) → IsInRange s (witness_limit s endless turns h)
  limit_in_range true = least
  limit_in_range false = first (serves s turns h (usual_limit s))
    where
      second : (b : Bool) → IsInRange s (if b then turn_bound s.cpus else least_limit turns)
      second true = greatest
      second false = least

      first : (b : Bool) → IsInRange s (if b then usual_limit s else (if serves s turns h (turn_bound s.cpus) then turn_bound s.cpus else least_limit turns))
      first true = usual
      first false = second (serves s turns h (turn_bound s.cpus))

-- no processor is cut at the end of the run at this limit, or the limit is the least one
abbrev pub Ends : Script → List Turn → List Event → ℕ → Type 0
Ends s turns h limit = (some_is_cut s limit (completed s limit h) ≡ false) ⊎ (limit ≡ least_limit turns)

module _ (s : Script) (turns : List Turn) (h : List Event) where
  served : (limit : ℕ) → serves s turns h limit ≡ true → Ends s turns h limit
  served limit e =
      inl (not_true (some_is_cut s limit (completed s limit h)) (both (nat_le (most_of turns) limit) (not (some_is_cut s limit (completed s limit h))) e).1)

  -- at the limit of a witness no processor is cut at the end, or that limit is the least one for the turns
  pub limit_ends : (endless : Bool) → Ends s turns h (witness_limit s endless turns h)
  limit_ends true = inr refl
  limit_ends false = first (serves s turns h (usual_limit s)) refl
    where
      second : (b : Bool) → serves s turns h (turn_bound s.cpus) ≡ b → Ends s turns h (if b then turn_bound s.cpus else least_limit turns)
      second true e = served (turn_bound s.cpus) e
      second false e = inr refl

      first : (b : Bool) → serves s turns h (usual_limit s) ≡ b →
          Ends s turns h (if b then usual_limit s else (if serves s turns h (turn_bound s.cpus) then turn_bound s.cpus else least_limit turns))
      first true e = served (usual_limit s) e
      first false e = second (serves s turns h (turn_bound s.cpus)) refl
