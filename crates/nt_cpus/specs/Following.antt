-- Processors and a floor that follow a run.
use Rattle.std.specs.Prelude.{IsTrue, List, length, ℕ, ◌*◌, ◌+◌, ◌≡◌, ◌≤◌}
use Rattle.nt_event.specs.declared.limits.TheConstants.{EVENTS, TURNS}
use Rattle.nt_event.specs.declared.events.Event.{Event}
use Rattle.nt_event.specs.declared.scripts.Script.{Script}
use Rattle.nt_event.specs.Script.{fits}
use Rattle.nt_event.specs.Step.{IsRun}
use Rattle.nt_event.specs.Numbers.{cpu}
use Rattle.nt_event.specs.Lists.{table}
use Rattle.nt_floor.specs.Views.{View}
use Rattle.nt_cpu.specs.Runs.{Follows, state_of}
use Rattle.nt_cpu.specs.States.{CpuState}
use Rattle.nt_cpus.specs.States.{CpusState}

-- the processors of a run
abbrev pub cpus_of : Script → ℕ → List Event → List CpuState
cpus_of s limit past = table s.cpus (λ p. state_of s (cpu p) limit past)

-- at most 20,000 events a processor, and at most 160,000 in all
pub record IsLimit (s : Script) (limit : ℕ) : Type 0 where
  pub each : limit ≤ TURNS
  pub all : s.cpus * limit ≤ EVENTS

-- this past is a run, and the processors and a floor of this script and view are as it leaves them
pub record AreAfter (past : List Event) (c : CpusState) (floor : Script) (v : View) : Type 0 where
  pub script : IsTrue (fits c.script)
  pub small : IsLimit c.script c.limit
  pub run : IsRun c.script c.limit past
  pub every : c.cpus ≡ cpus_of c.script c.limit past
  pub follows : Follows c.script past v
  pub same : floor ≡ c.script
  -- a number may be drawn for each event that the processors may still make
  pub drawable : v.drawable + length past ≡ c.script.cpus * c.limit

-- the processors and the floor are as some run leaves them
abbrev pub AreSound : CpusState → Script → View → Type 0
AreSound c floor v = (past : List Event) × AreAfter past c floor v
