-- Laws of replays and of robin runs, each the contract of a function in laws.rt.
use Rattle.std.specs.Prelude.{List, Ok, true, ℕ, ◌↔◌, ◌≡◌}
use Rattle.nt_event.specs.declared.events.Event.{Event}
use Rattle.nt_event.specs.declared.events.Turn.{Turn}
use Rattle.nt_event.specs.declared.scripts.Script.{Script}
use Rattle.nt_event.specs.Robin.{IsRobin, is_settled}
use Rattle.nt_event.specs.Step.{IsRun, turns}
use Rattle.nt_core.specs.Replays.{replayed}

-- a list of turns gives a history exactly where it is a settled run with these turns
abbrev pub ReplaysAreRuns : Type 0
ReplaysAreRuns = (s : Script) (limit : ℕ) (list : List Turn) (h : List Event) →
    (replayed s limit list ≡ Ok h) ↔ (IsRun s limit h × (turns h ≡ list) × (is_settled s limit h ≡ true))

-- a settled run is replayed by its turns
abbrev pub RunsReplay : Type 0
RunsReplay = (s : Script) (limit : ℕ) (h : List Event) → IsRun s limit h → is_settled s limit h ≡ true →
    replayed s limit (turns h) ≡ Ok h

-- a settled run of the robin rule
pub record IsWholeRobin (s : Script) (limit : ℕ) (h : List Event) : Type 0 where
  pub run : IsRun s limit h
  pub robin : IsRobin s limit h
  pub settled : is_settled s limit h ≡ true

-- there is only one
abbrev pub OneRobinRun : Type 0
OneRobinRun = (s : Script) (limit : ℕ) (h k : List Event) → IsWholeRobin s limit h → IsWholeRobin s limit k → h ≡ k
