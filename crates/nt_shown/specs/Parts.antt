-- The parts of a strict text: a script, and what stands behind it.
use Rattle.std.specs.Prelude.{◌≡◌, ℕ, List, Option, Some, None, codes, take}
use Rattle.std.specs.Option.{option_or}
use Rattle.nt_script.specs.Splitting.{split_from}
use Rattle.nt_text.specs.Lines.{lines}
use Rattle.nt_shown.specs.declared.parts.Behind.{Behind}
use Rattle.nt_shown.specs.declared.parts.Part.{Part}
use Rattle.nt_shown.specs.declared.parts.Part.TheVariants.{Expectations, Report, Schedule}

-- this part, where it begins
abbrev pub found : Part → Option (ℕ × ℕ) → Option Behind
found part None = None
found part (Some (at, line)) = Some (record { part = part; split = record { at = at; line = line } })

-- the part that begins with this word
abbrev pub found_by : Part → List ℕ → List ℕ → Option Behind
found_by part word bytes = found part (split_from word 0 1 (lines bytes))

-- What stands behind the script. In a report there is a schedule too.
abbrev pub behind : List ℕ → Option Behind
behind bytes = option_or (found_by Expectations (codes "expect") bytes)
    (option_or (found_by Report (codes "report") bytes) (found_by Schedule (codes "schedule") bytes))

-- the bytes before it
abbrev pub before : List ℕ → Option Behind → List ℕ
before bytes None = bytes
before bytes (Some b) = take b.split.at bytes

-- the script of a strict text
abbrev pub script_part : List ℕ → List ℕ
script_part bytes = before bytes (behind bytes)
