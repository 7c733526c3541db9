-- The text of a schedule, as rows of fields: the turn limit, a line for each turn, and the end.
use Rattle.std.specs.Prelude.{◌≡◌, ℕ, ◌+◌, ◌<◌, ◌≤◌, Bool, true, ◌&&◌, ◌||◌, nat_le, not, List, [], ◌∷◌, ◌++◌, length}
use Rattle.std.specs.Prelude.{map, codes, decimal, ◌==◌, if◌then◌else◌}
use Rattle.std.specs.List.{AllByRecursion, list_all, list_any}
use Rattle.nt_text.specs.Lines.{rows_text}
use Rattle.nt_event.specs.declared.limits.TheConstants.{EVENTS, TURNS}
use Rattle.nt_event.specs.declared.events.History.{History}
use Rattle.nt_event.specs.declared.events.Rises.{Rises}
use Rattle.nt_event.specs.declared.events.Turn.{Turn}
use Rattle.nt_event.specs.declared.events.Turn.TheVariants.{Next, Look, Switch}
use Rattle.nt_event.specs.declared.scripts.Script.{Script}
use Rattle.nt_event.specs.Classes.{is_used_class, lock_class}
use Rattle.nt_event.specs.Script.{has_thread}
use Rattle.nt_event.specs.Step.{cpu_at, turn_of}
use Rattle.nt_script.specs.declared.walk.Input.{Input}
use Rattle.nt_line.specs.NameLists.{NameLists, show_thread}
use Rattle.nt_script.specs.Sound.{IsSound}
use Rattle.nt_text.specs.Lines.{Row}
use Rattle.nt_line.specs.Rows.{show_cpu}
use Rattle.nt_log.specs.declared.schedules.Schedule.{Schedule}

-- the schedule of a history: its limit and the turn of each event
abbrev pub schedule_of : History → Schedule
schedule_of h = record { turns = h.turns; list = map turn_of h.events }

-- ---- which schedules have a text

-- a switch takes a thread of the script
abbrev pub turn_fits : Script → Turn → Bool
turn_fits s (Switch p t) = has_thread s t
turn_fits s (Next p) = true
turn_fits s (Look p rises) = true

abbrev pub turns_fit : Script → List Turn → Bool
turns_fit s turns = list_all (turn_fits s) turns

-- a class that a look of a text may name, by the version of the script's text: each that is used, and that of locks in
-- version 2 alone
abbrev pub is_written_class : ℕ → ℕ → Bool
is_written_class version class = is_used_class class && (version == 2 || not (class == lock_class))

-- the values, of which the first is of this class, rise in such classes only
abbrev pub rise_in_classes : ℕ → ℕ → List ℕ → Bool
rise_in_classes version class [] = true
rise_in_classes version class (v ∷ vs) =
    (v == 0 || is_written_class version class) && rise_in_classes version (class + 1) vs

-- a value for each class, of which one at least rises, and only those of such classes
pub record AreRises (version : ℕ) (r : Rises) : Type 0 where
  pub classes : length r.value ≡ 16
  pub some : list_any (λ v. not (v == 0)) r.value ≡ true
  pub used : rise_in_classes version 0 r.value ≡ true
  pub range : AllByRecursion (λ v. v ≤ 18446744073709551615) r.value

abbrev pub TurnIsPlain : Input → Turn → Type 0
TurnIsPlain input (Next p) = p.0 ≤ 63
TurnIsPlain input (Look p rises) = (p.0 ≤ 63) × AreRises input.version rises
TurnIsPlain input (Switch p t) = (p.0 ≤ 63) × (t.0 < length input.script.threads)

-- each turn is of a processor below this
abbrev pub AreBelow : ℕ → List Turn → Type 0
AreBelow cpus turns = AllByRecursion (λ t. (cpu_at t).0 < cpus) turns

-- the greatest turn limit for so many processors: 8 of them with the first bound make as many events as 64 with the
-- second. Profile.
abbrev pub turn_bound : ℕ → ℕ
turn_bound cpus = if nat_le cpus 8 then TURNS else 2500

-- a schedule that a text may have: each switch takes a thread of the script, processors are at most 63, looks have
-- values in classes only, there are not too many turns, and the turn limit is in its range. Profile.
pub record IsPlain (input : Input) (schedule : Schedule) : Type 0 where
  pub turns : AllByRecursion (TurnIsPlain input) schedule.list
  pub few : length schedule.list ≤ EVENTS
  pub limit : (1 ≤ schedule.turns) × (schedule.turns ≤ turn_bound input.script.cpus)

-- ---- its lines

-- a class and the value that rises in it
abbrev pub rise_field : ℕ → ℕ → List ℕ
rise_field class value = decimal class ++ 61 ∷ decimal value

-- the values that rise, of which the first is of this class
abbrev pub rises_row : ℕ → List ℕ → Row
rises_row class [] = []
rises_row class (value ∷ values) = if value == 0 then rises_row (class + 1) values
    else rise_field class value ∷ rises_row (class + 1) values

abbrev pub turn_word : Turn → List ℕ
turn_word (Next p) = codes "next"
turn_word (Look p rises) = codes "look"
turn_word (Switch p t) = codes "switch"

-- what stands behind the word of a turn
abbrev pub turn_fields : NameLists → Turn → Row
turn_fields names (Next p) = show_cpu p ∷ []
turn_fields names (Look p rises) = show_cpu p ∷ rises_row 0 rises.value
turn_fields names (Switch p t) = show_cpu p ∷ show_thread names t ∷ []

abbrev pub turn_row : NameLists → Turn → Row
turn_row names t = turn_word t ∷ turn_fields names t

abbrev pub limit_row : ℕ → Row
limit_row turns = codes "schedule" ∷ decimal turns ∷ []

abbrev pub done_row : Row
done_row = codes "done" ∷ []

abbrev pub schedule_rows : NameLists → Schedule → List Row
schedule_rows names s = limit_row s.turns ∷ (map (turn_row names) s.list ++ done_row ∷ [])

abbrev pub schedule_text : Input → Schedule → List ℕ
schedule_text input s = rows_text (schedule_rows input.names s)

-- the bytes are the text of the schedule, for the script of a sound input
pub record IsTextOf (bytes : List ℕ) (input : Input) (s : Schedule) : Type 0 where
  pub sound : IsSound input
  pub plain : IsPlain input s
  pub text : bytes ≡ schedule_text input s
