-- The runs that a call makes.
use Rattle.std.specs.Prelude.{Ok, reverse, true, ℕ, ◌≡◌}
use Rattle.nt_core.specs.Replays.{Refused, replayed}
use Rattle.nt_event.specs.declared.events.History.{History}
use Rattle.nt_event.specs.declared.scripts.Script.{Script}
use Rattle.nt_event.specs.Robin.{IsRobin, is_settled}
use Rattle.nt_event.specs.Step.{IsRun}
use Rattle.nt_log.specs.declared.schedules.Schedule.{Schedule}
use Rattle.nt_ranges.specs.Looks.{LooksAreWhole}

-- the history is a settled run of the script with this limit, and each of its looks tells a value of each class
pub record IsLiveRun (s : Script) (limit : ℕ) (h : History) : Type 0 where
  pub turns : h.turns ≡ limit
  pub run : IsRun s limit (reverse h.events)
  pub settled : is_settled s limit (reverse h.events) ≡ true
  pub looks : LooksAreWhole h.events

-- the history is the run of the script by the robin rule with this limit, to its end
pub record IsRobinRun (s : Script) (limit : ℕ) (h : History) : Type 0 where
  pub turns : h.turns ≡ limit
  pub run : IsRun s limit (reverse h.events)
  pub robin : IsRobin s limit (reverse h.events)
  pub settled : is_settled s limit (reverse h.events) ≡ true

-- the history is what the turns of the schedule make
pub record IsReplayed (s : Script) (schedule : Schedule) (h : History) : Type 0 where
  pub turns : h.turns ≡ schedule.turns
  pub run : replayed s schedule.turns schedule.list ≡ Ok (reverse h.events)
