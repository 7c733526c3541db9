-- Schedules of settled runs that begin with a given history.
use Rattle.std.specs.Prelude.{Bool, List, Ok, [], false, reverse, true, ℕ, ◌++◌, ◌⊎◌, ◌≡◌, ◌≤◌}
use Rattle.nt_event.specs.declared.events.Event.{Event}
use Rattle.nt_event.specs.declared.events.History.{History}
use Rattle.nt_event.specs.declared.events.Turn.{Turn}
use Rattle.nt_event.specs.declared.scripts.Script.{Script}
use Rattle.nt_event.specs.Robin.{is_settled}
use Rattle.nt_event.specs.Step.{IsRun, turns as turns_of}
use Rattle.nt_core.specs.Replays.{replayed}
use Rattle.nt_log.specs.Schedules.{turn_bound}
use Rattle.nt_log.specs.declared.schedules.Schedule.{Schedule}
use Rattle.nt_witness.specs.Leads.{Lead}
use Rattle.nt_witness.specs.Limits.{completed, least_limit, some_is_cut, witness_limit}

-- a replay of the schedule gives a history that begins with this one, so that is a settled run of the script. Either no
-- processor is cut at its end, or the limit is the least one that has room for the events of this one
pub record IsWitness (s : Script) (h : List Event) (w : Schedule) : Type 0 where
  pub history : List Event
  pub newer : List Event
  pub is : history ≡ newer ++ h
  pub replay : replayed s w.turns w.list ≡ Ok history
  pub limit : (1 ≤ w.turns) × (w.turns ≤ turn_bound s.cpus)
  pub end : (some_is_cut s w.turns history ≡ false) ⊎ (w.turns ≡ least_limit (turns_of h))

-- the schedule of the run of the robin rule from the history on, to which the turns lead
abbrev pub witness_of : Script → Bool → List Turn → List Event → Schedule
witness_of s endless turns h =
    let limit : ℕ = witness_limit s endless turns h in
    record { turns = limit; list = turns_of (completed s limit h) }

-- ---- on the way to one

-- the history is the settled run at this limit that begins with the turns and goes on by the robin rule
pub record IsCompleted (s : Script) (turns : List Turn) (limit : ℕ) (r : History) : Type 0 where
  pub limit_is : r.turns ≡ limit
  pub run : IsRun s limit (reverse r.events)
  pub settled : is_settled s limit (reverse r.events) ≡ true
  pub past : (h : List Event) → Lead s turns [] h → reverse r.events ≡ completed s limit h
