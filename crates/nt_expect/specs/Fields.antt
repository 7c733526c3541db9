-- The fields of a line are read from left to right, each at the place where it has to stand: what is read, and the
-- fields that are left.
use Rattle.std.specs.Prelude.{◌≡◌, ℕ, ◌+◌, ◌*◌, ◌-◌, Bool, ◌&&◌, ◌||◌, not, List, [], ◌∷◌, length, Option, Some, None}
use Rattle.std.specs.Prelude.{Result, Ok, Err, ◌==◌, nat_le, if◌then◌else◌}
use Rattle.std.specs.Char.{is_ascii_digit}
use Rattle.std.specs.Str.{bytes_eq}
use Rattle.nt_text.specs.declared.kind.ScriptKind.{ScriptKind}
use Rattle.nt_text.specs.declared.kind.ScriptKind.TheVariants.{BadNumber, ExtraField, UnknownWord}
use Rattle.nt_text.specs.Lines.{Row, needed, rest}
use Rattle.nt_event.specs.declared.commands.Command.{Command}
use Rattle.nt_line.specs.declared.keywords.Keyword.{Keyword}
use Rattle.nt_line.specs.declared.keywords.Keyword.TheVariants as keyword
use Rattle.nt_line.specs.declared.keywords.Verb.{Verb}
use Rattle.nt_line.specs.Keywords.{keyword_of, verb_arity}
use Rattle.nt_line.specs.Results.{◌>>=◌, or_error}
use Rattle.nt_line.specs.Commands.{behind, command_of, next_field}
use Rattle.nt_script.specs.declared.walk.Input.{Input}

-- ---- what a call reads

-- a call that reads a value and leaves these fields, or refuses the line, does what reading says
abbrev pub Reads : {A : Type 0} → Result A ScriptKind → Row → Result (A × Row) ScriptKind → Type 0
Reads (Ok x) new read = read ≡ Ok (x, new)
Reads (Err kind) new read = read ≡ Err kind

-- a call that goes over fields
abbrev pub Passes : {A : Type 0} → Result A ScriptKind → Row → Result Row ScriptKind → Type 0
Passes (Ok x) new read = read ≡ Ok new
Passes (Err kind) new read = read ≡ Err kind

-- a call that reads all fields that are left
abbrev pub ReadsAll : {A : Type 0} → Result A ScriptKind → Result A ScriptKind → Type 0
ReadsAll (Ok x) read = read ≡ Ok x
ReadsAll (Err kind) read = read ≡ Err kind

-- ---- one field

-- what one field is, and the fields behind it
abbrev pub one_field : {A : Type 0} → (List ℕ → Result A ScriptKind) → Row → Result (A × Row) ScriptKind
one_field read row = next_field read row >>= λ x. Ok (x, rest row)

-- the fields behind one that has to be this word
abbrev pub behind_word : List ℕ → Row → Result Row ScriptKind
behind_word word row = needed row >>= λ field. if bytes_eq field word then Ok (rest row) else Err UnknownWord

-- a value, where no field is left
abbrev pub at_end : {A : Type 0} → A → Row → Result A ScriptKind
at_end x [] = Ok x
at_end x (f ∷ fs) = Err ExtraField

-- ---- hexadecimal numbers

abbrev pub is_hexadecimal_digit : ℕ → Bool
is_hexadecimal_digit c = is_ascii_digit c || (nat_le 97 c && nat_le c 102)

abbrev pub hexadecimal_value : ℕ → ℕ
hexadecimal_value c = if is_ascii_digit c then c - 48 else c - 87

-- the number of 32 bits that hexadecimal digits stand for, read after a number
abbrev pub hexadecimal_after : ℕ → List ℕ → Option ℕ
hexadecimal_after n [] = Some n
hexadecimal_after n (c ∷ cs) = if is_hexadecimal_digit c && nat_le n 268435455
    then hexadecimal_after (16 * n + hexadecimal_value c) cs else None

-- a hexadecimal number of 32 bits in lower case, without leading zeros
abbrev pub hexadecimal_of : List ℕ → Option ℕ
hexadecimal_of [] = None
hexadecimal_of (c ∷ cs) = if c == 48 && not (length cs == 0) then None else hexadecimal_after 0 (c ∷ cs)

abbrev pub read_hexadecimal : List ℕ → Result ℕ ScriptKind
read_hexadecimal field = or_error BadNumber (hexadecimal_of field)

-- ---- commands

-- a keyword that is a command's
abbrev pub verb_of : Option Keyword → Result Verb ScriptKind
verb_of (Some (keyword.Call verb)) = Ok verb
verb_of _ = Err UnknownWord

abbrev pub read_verb : ℕ → List ℕ → Result Verb ScriptKind
read_verb version field = verb_of (keyword_of version field)

-- a command as in the script
abbrev pub command : Input → Row → Result (Command × Row) ScriptKind
command input row = one_field (read_verb input.version) row >>= λ v.
    command_of input.names input.script.cpus v.0 v.1 >>= λ c. Ok (c, behind (verb_arity v.0) v.1)
