-- Why a text shows no run: what stands behind a script that is read.
use Rattle.std.specs.Prelude.{◌≡◌, List, None, Ok, Option, Some, drop, ℕ}
use Rattle.nt_script.specs.declared.walk.Input.{Input}
use Rattle.nt_script.specs.Reading.{reading as script_in}
use Rattle.nt_text.specs.declared.kind.ScriptKind.{ScriptKind}
use Rattle.nt_shown.specs.declared.parts.Behind.{Behind}
use Rattle.nt_shown.specs.declared.parts.Part.{Part}
use Rattle.nt_shown.specs.declared.parts.Part.TheVariants as part
use Rattle.nt_shown.specs.declared.refusal.ShownRefusal.{ShownRefusal}
use Rattle.nt_shown.specs.declared.refusal.ShownRefusal.TheVariants.{Event, NoMemory, Report, Schedule, Script, Turn}
use Rattle.nt_shown.specs.Parts.{behind, script_part}
use Rattle.nt_shown.specs.Shown.{IsUnshown, IsUnshownBy, IsUnshownIn}

-- no line of the script is refused behind it
no_line_by : (input : Input) (p : Part) (rest : List ℕ) (first line : ℕ) (kind : ScriptKind) →
    IsUnshownBy input p rest first (Script line kind) → ⊥
no_line_by input part.Expectations rest first line kind u = u
no_line_by input part.Report rest first line kind u = u
no_line_by input part.Schedule rest first line kind u = u

-- the same, by what stands behind it
no_line : (input : Input) (strict : List ℕ) (b : Option Behind) (line : ℕ) (kind : ScriptKind) → IsUnshownIn input strict b (Script line kind) → ⊥
no_line input strict None line kind u = u
no_line input strict (Some b) line kind u = no_line_by input b.part (drop b.split.at strict) b.split.line line kind u

-- where the script is read and what stands behind it is refused, the text shows no run
pub behind_unshown : (input : Input) (strict : List ℕ) (r : ShownRefusal) → script_in (script_part strict) ≡ Ok input →
    IsUnshownIn input strict (behind strict) r → IsUnshown strict r
behind_unshown input strict (Script line kind) read u = absurd (no_line input strict (behind strict) line kind u)
behind_unshown input strict (Schedule line kind) read u = (input, read, u)
behind_unshown input strict (Report line kind) read u = (input, read, u)
behind_unshown input strict (Turn at kind) read u = (input, read, u)
behind_unshown input strict (Event n) read u = (input, read, u)
behind_unshown input strict NoMemory read u = tt
