-- Refused lists of turns.
use Rattle.std.specs.Prelude.{List, ℕ, ◌≡◌}
use Rattle.nt_event.specs.declared.events.Turn.{Turn}
use Rattle.nt_event.specs.declared.scripts.Script.{Script}
use Rattle.nt_core.specs.Replays.{refused_at, replayed}
use Rattle.nt_core.specs.declared.refusals.ScheduleRefusal.{ScheduleRefusal}
use Rattle.nt_core.specs.declared.refusals.ScheduleRefusal.TheVariants.{Bad, NoMemory}

-- the list of turns is refused so, or no memory was found
abbrev pub IsReplayRefused : Script → ℕ → List Turn → ScheduleRefusal → Type 0
IsReplayRefused s limit list (Bad at kind) = replayed s limit list ≡ refused_at at kind
IsReplayRefused s limit list NoMemory = Unit {0}
