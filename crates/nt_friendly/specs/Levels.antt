-- Names of levels, and the places of a line where a level stands.
use Rattle.std.specs.Prelude.{ℕ, Bool, true, false, ◌&&◌, ◌||◌, nat_le, List, [], ◌∷◌, Option, Some, None, codes}
use Rattle.std.specs.Prelude.{if◌then◌else◌}
use Rattle.std.specs.Str.{bytes_eq}
use Rattle.nt_text.specs.Fields.{number_up_to}
use Rattle.nt_text.specs.Lines.{Row, first}
use Rattle.nt_line.specs.Keywords.{keyword_of}
use Rattle.nt_line.specs.declared.keywords.Keyword.{Keyword}
use Rattle.nt_line.specs.declared.keywords.Keyword.TheVariants as keyword
use Rattle.nt_line.specs.declared.keywords.Verb.{Verb}
use Rattle.nt_line.specs.declared.keywords.Verb.TheVariants as verb
use Rattle.nt_friendly.specs.declared.levels.Next.{Next}
use Rattle.nt_friendly.specs.declared.levels.Next.TheVariants.{Word, Name, Bound, Verb as VerbNext, Cpu, Level, Rest}

-- ---- names

-- the number of a level that has a name; any other field stays as it is
abbrev pub level_text : List ℕ → List ℕ
level_text field =
    if bytes_eq field (codes "PASSIVE") then codes "0"
    else (if bytes_eq field (codes "APC") then codes "1"
    else (if bytes_eq field (codes "DISPATCH") then codes "2"
    else (if bytes_eq field (codes "SYNCH") then codes "12"
    else (if bytes_eq field (codes "CLOCK") then codes "13"
    else (if bytes_eq field (codes "IPI") then codes "14"
    else (if bytes_eq field (codes "HIGH") then codes "15" else field))))))

-- the level of a device
abbrev pub is_device : Option ℕ → Bool
is_device None = false
is_device (Some n) = nat_le 3 n

-- DIRQL, before the level of a device
abbrev pub is_dirql : List ℕ → List ℕ → Bool
is_dirql field behind = bytes_eq field (codes "DIRQL") && is_device (number_up_to 11 behind)

-- ---- places

-- what stands behind the word of a command: a level, a processor and then a level, or none
abbrev pub behind_verb : Verb → Next
behind_verb verb.Raise = Level
behind_verb verb.Lower = Level
behind_verb verb.Interrupt = Cpu
behind_verb verb.Queue = Rest
behind_verb verb.Unqueue = Rest
behind_verb verb.SetImportance = Rest
behind_verb verb.SetTarget = Rest
behind_verb verb.SetTimer = Rest
behind_verb verb.CancelTimer = Rest
behind_verb verb.InsertApc = Rest
behind_verb verb.RemoveApc = Rest
behind_verb verb.EnterCrit = Rest
behind_verb verb.EnterGuard = Rest
behind_verb verb.LeaveCrit = Rest
behind_verb verb.LeaveGuard = Rest
behind_verb verb.StartWait = Rest
behind_verb verb.Delay = Rest
behind_verb verb.Release = Rest
behind_verb verb.Alert = Rest
behind_verb verb.TestAlert = Rest
behind_verb verb.Clock = Rest
behind_verb verb.ToUser = Rest
behind_verb verb.Yield = Rest
behind_verb verb.Acquire = Rest
behind_verb verb.Unlock = Rest
behind_verb verb.Note = Rest

-- what stands behind the first field of a script's line, or behind `call`
abbrev pub behind_keyword : Option Keyword → Next
behind_keyword None = Rest
behind_keyword (Some keyword.Isr) = Cpu
behind_keyword (Some (keyword.Call verb)) = behind_verb verb
behind_keyword (Some keyword.Version) = Rest
behind_keyword (Some keyword.Cpus) = Rest
behind_keyword (Some keyword.Depth) = Rest
behind_keyword (Some keyword.Threaded) = Rest
behind_keyword (Some (keyword.Dpc threaded)) = Rest
behind_keyword (Some keyword.Timer) = Rest
behind_keyword (Some keyword.Thread) = Rest
behind_keyword (Some (keyword.Apc k)) = Rest
behind_keyword (Some keyword.Spinlock) = Rest
behind_keyword (Some keyword.Routine) = Rest
behind_keyword (Some keyword.Exit) = Rest

-- a word of expectations behind which a name stands, and that may not be the last
abbrev pub is_naming : List ℕ → Bool
is_naming field = bytes_eq field (codes "dpc") || bytes_eq field (codes "apc") || bytes_eq field (codes "thread") ||
    bytes_eq field (codes "timer") || bytes_eq field (codes "gone")

-- what stands behind a word of an expectation
abbrev pub behind_word : List ℕ → Next
behind_word field =
    if bytes_eq field (codes "int") || bytes_eq field (codes "above") then Bound
    else (if bytes_eq field (codes "call") then VerbNext
    else (if is_naming field then Name else Word))

-- what stands behind the first field of a line
abbrev pub behind_first : List ℕ → Next
behind_first field = if bytes_eq field (codes "never") || bytes_eq field (codes "always") then Word
    else behind_keyword (keyword_of 2 field)

-- what stands behind a field; a command of an expectation ends at `->`
abbrev pub after : Next → List ℕ → Next
after Word field = behind_word field
after Name field = Word
after Bound field = Word
after VerbNext field = behind_keyword (keyword_of 2 field)
after Cpu field = Level
after Level field = Rest
after Rest field = if bytes_eq field (codes "->") then Word else Rest

abbrev pub is_level : Next → Bool
is_level Word = false
is_level Name = false
is_level Bound = true
is_level VerbNext = false
is_level Cpu = false
is_level Level = true
is_level Rest = false

-- ---- a line

-- what is written for a field at its place
abbrev pub written : Next → List ℕ → List ℕ
written next field = if is_level next then level_text field else field

-- a field that is left out
abbrev pub is_left_out : Next → List ℕ → List ℕ → Bool
is_left_out next field behind = is_level next && is_dirql field behind

-- fields with numbers for names of levels
abbrev pub replaced : Next → Row → Row
replaced next [] = []
replaced next (field ∷ more) = if is_left_out next field (first more) then replaced next more
    else written next field ∷ replaced (after next field) more

-- the fields of a line with numbers for names of levels
abbrev pub strict_row : Row → Row
strict_row [] = []
strict_row (field ∷ more) = field ∷ replaced (behind_first field) more
