-- Words in which the worked rows are written, and what each row says.
use Rattle.std.specs.Option.{option_map_or}
use Rattle.std.specs.Prelude.{List, None, Option, Some, [], false, find, length, reverse, suc, true, ℕ, ◌==◌, ◌∷◌, ◌≡◌}
use Rattle.nt_event.specs.declared.commands.ApcKind.TheVariants.{Normal, Special, User}
use Rattle.nt_event.specs.declared.commands.Command.{Command}
use Rattle.nt_event.specs.declared.events.Event.{Event}
use Rattle.nt_event.specs.declared.events.Turn.{Turn}
use Rattle.nt_event.specs.declared.events.What.{What}
use Rattle.nt_event.specs.declared.events.What.TheVariants.{Look}
use Rattle.nt_event.specs.declared.numbers.RoutineNo.{RoutineNo}
use Rattle.nt_event.specs.declared.numbers.ThreadNo.{ThreadNo}
use Rattle.nt_event.specs.declared.scripts.ApcDecl.{ApcDecl}
use Rattle.nt_event.specs.declared.scripts.Routine.{Routine}
use Rattle.nt_event.specs.declared.scripts.Script.{Script}
use Rattle.nt_event.specs.declared.scripts.ThreadDecl.{ThreadDecl}
use Rattle.nt_event.specs.Robin.{grown, is_settled, run_fuel}
use Rattle.nt_event.specs.Script.{fits}
use Rattle.nt_event.specs.Step.{step, turns}
use Rattle.nt_event.specs.Numbers.{cpu}
use Rattle.nt_event.specs.Lists.{table}

-- a routine of these commands
abbrev pub runs : List Command → Routine
runs commands = record { commands = commands }

-- a thread that is bound to this processor, with its base routine
abbrev pub thread_on : ℕ → RoutineNo → ThreadDecl
thread_on p r = record { cpu = cpu p; routine = r }

-- an APC object of a thread, of each kind, by its routines
abbrev pub special_apc : ThreadNo → RoutineNo → ApcDecl
special_apc t k = record { kind = Special; thread = t; kernel = k; normal = None; rundown = None }

abbrev pub normal_apc : ThreadNo → RoutineNo → RoutineNo → ApcDecl
normal_apc t k n = record { kind = Normal; thread = t; kernel = k; normal = Some n; rundown = None }

abbrev pub user_apc : ThreadNo → RoutineNo → RoutineNo → Option RoutineNo → ApcDecl
user_apc t k n r = record { kind = User; thread = t; kernel = k; normal = Some n; rundown = r }

-- an event of a processor, with its thread and the level after it
abbrev pub event : ℕ → Option ThreadNo → ℕ → What → Event
event p t level w = record { cpu = cpu p; thread = t; level = level; what = w }

-- the value that a look gives a class, among these pairs of class and value
abbrev pub risen : List (ℕ × ℕ) → ℕ → ℕ
risen pairs c = option_map_or (λ pair. pair.1) (find (λ pair. pair.0 == c) pairs) 0

-- a look of a processor at which these classes rise to these values
abbrev pub looks : ℕ → List (ℕ × ℕ) → Event
looks p pairs = event p None 0 (Look (record { value = table 16 (risen pairs) }))

-- the script fits, its robin run is this history, the oldest event first, and that is settled
pub record IsWorked (s : Script) (limit : ℕ) (history : List Event) : Type 0 where
  pub fits : fits s ≡ true
  pub run : run_fuel s limit (suc (length history)) [] ≡ reverse history
  pub settled : is_settled s limit (reverse history) ≡ true

-- what these turns make after this past, a refused one nothing
abbrev pub made_by : Script → ℕ → List Turn → List Event → List Event
made_by s limit [] past = past
made_by s limit (t ∷ ts) past = made_by s limit ts (grown past (step s limit t past))

-- the script fits, these turns make this history, the oldest event first, none of them is refused, and it is settled
pub record IsReplayed (s : Script) (limit : ℕ) (schedule : List Turn) (history : List Event) : Type 0 where
  pub fits : fits s ≡ true
  pub run : made_by s limit schedule [] ≡ reverse history
  pub all : turns (reverse history) ≡ schedule
  pub settled : is_settled s limit (reverse history) ≡ true

-- these turns make so many events and the history isn't settled
pub record IsUnfinished (s : Script) (limit : ℕ) (schedule : List Turn) : Type 0 where
  pub all : length (made_by s limit schedule []) ≡ length schedule
  pub unsettled : is_settled s limit (made_by s limit schedule []) ≡ false

-- the script fits, and these turns make this beginning of a run, the oldest event first, none of them refused
pub record IsMade (s : Script) (limit : ℕ) (schedule : List Turn) (history : List Event) : Type 0 where
  pub fits : fits s ≡ true
  pub run : made_by s limit schedule [] ≡ reverse history
  pub all : turns (reverse history) ≡ schedule
