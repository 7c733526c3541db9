-- The one text of an input, as rows of fields.
use Rattle.std.specs.Prelude.{ℕ, Bool, List, [], ◌∷◌, ◌++◌, map, nat_le, Option, if◌then◌else◌}
use Rattle.nt_text.specs.Lines.{rows_text}
use Rattle.nt_event.specs.declared.commands.Command.{Command}
use Rattle.nt_event.specs.declared.scripts.Routine.{Routine}
use Rattle.nt_line.specs.declared.keywords.Keyword.TheVariants as keyword
use Rattle.nt_line.specs.NameLists.{NameLists}
use Rattle.nt_line.specs.Keywords.{text_of}
use Rattle.nt_text.specs.Lines.{Row}
use Rattle.nt_line.specs.Rows.{command_row, number_row, depth_rows, threaded_rows, isr_row, dpc_row, timer_row}
use Rattle.nt_line.specs.Rows.{thread_row, apc_row, lock_row}
use Rattle.nt_script.specs.declared.walk.Input.{Input}

-- ---- parts

-- the lines of things with their names
abbrev pub declared_rows : {A : Type 0} → (List ℕ → A → Row) → List (List ℕ) → List A → List Row
declared_rows row (n ∷ ns) (x ∷ xs) = row n x ∷ declared_rows row ns xs
declared_rows row _ _ = []

-- a routine up to a command
abbrev pub begun_rows : NameLists → List ℕ → List Command → List Row
begun_rows names name commands = (text_of keyword.Routine ∷ name ∷ []) ∷ map (command_row names) commands

abbrev pub exit_row : Row
exit_row = text_of keyword.Exit ∷ []

abbrev pub routine_rows : NameLists → List (List ℕ) → List Routine → List Row
routine_rows names (n ∷ ns) (r ∷ rs) = (begun_rows names n r.commands ++ exit_row ∷ []) ++ routine_rows names ns rs
routine_rows names _ _ = []

-- a text of version 1 has no line of its version
abbrev pub version_rows : ℕ → List Row
version_rows version = if nat_le 2 version then number_row keyword.Version version ∷ [] else []

abbrev pub header_rows : ℕ → ℕ → Option ℕ → Option Bool → List Row
header_rows version cpus depth threaded =
    version_rows version ++ (number_row keyword.Cpus cpus ∷ (depth_rows depth ++ threaded_rows threaded))

-- the lines of an input, part by part
abbrev pub input_rows : Input → List Row
input_rows input =
    header_rows input.version input.script.cpus input.script.depth input.script.threaded
    ++ (map (isr_row input.names) input.script.isrs
    ++ (declared_rows (dpc_row input.names) input.names.dpcs input.script.dpcs
    ++ (declared_rows (timer_row input.names) input.names.timers input.script.timers
    ++ (declared_rows (thread_row input.names) input.names.threads input.script.threads
    ++ (declared_rows (apc_row input.names) input.names.apcs input.script.apcs
    ++ (map lock_row input.names.locks
    ++ routine_rows input.names input.names.routines input.script.routines))))))

abbrev pub text : Input → List ℕ
text input = rows_text (input_rows input)
