-- The fields of a report's line are read from left to right, each at the place where it has to stand: what is read, and
-- the fields that are left.
use Rattle.std.specs.Prelude.{◌≡◌, ℕ, ◌+◌, ◌*◌, ◌-◌, Bool, ◌&&◌, ◌||◌, not, List, [], ◌∷◌, length, Option, Some, None}
use Rattle.std.specs.Prelude.{Result, Ok, Err, codes, find, ◌==◌, nat_le, if◌then◌else◌}
use Rattle.std.specs.Char.{is_ascii_digit}
use Rattle.std.specs.Str.{bytes_eq}
use Rattle.nt_text.specs.declared.kind.ScriptKind.{ScriptKind}
use Rattle.nt_text.specs.declared.kind.ScriptKind.TheVariants.{BadNumber, ExtraField, UnknownWord}
use Rattle.nt_text.specs.Lines.{Row, needed, rest}
use Rattle.nt_event.specs.declared.commands.Refusal.{Refusal}
use Rattle.nt_event.specs.declared.commands.Reply.{Reply}
use Rattle.nt_event.specs.declared.commands.Reply.TheVariants.{Blocked, Done, No, Refused, Spin, Status, Yes}
use Rattle.nt_event.specs.declared.numbers.CpuNo.{CpuNo}
use Rattle.nt_event.specs.declared.numbers.ThreadNo.{ThreadNo}
use Rattle.nt_event.specs.Numbered.{refusal_name, refusal_number}
use Rattle.nt_line.specs.NameLists.{NameLists}
use Rattle.nt_line.specs.Results.{◌>>=◌, or_error}
use Rattle.nt_line.specs.Fields.{dash, read_cpu, read_number, read_thread, read_unless}
use Rattle.nt_line.specs.Commands.{next_field}
use Rattle.nt_report.specs.declared.words.ReplyWord.{ReplyWord}
use Rattle.nt_report.specs.declared.words.ReplyWord.TheVariants as word
use Rattle.nt_report.specs.declared.fields.TheConstants.{REFUSALS}
use Rattle.nt_report.specs.Words.{reply_word}

-- ---- what a call reads

-- a call that reads a value and leaves these fields, or refuses the line, does what reading says
abbrev pub Reads : {A : Type 0} → Result A ScriptKind → Row → Result (A × Row) ScriptKind → Type 0
Reads (Ok x) new read = read ≡ Ok (x, new)
Reads (Err kind) new read = read ≡ Err kind

-- a call that goes over fields
abbrev pub Passes : {A : Type 0} → Result A ScriptKind → Row → Result Row ScriptKind → Type 0
Passes (Ok x) new read = read ≡ Ok new
Passes (Err kind) new read = read ≡ Err kind

-- a call that writes the value that it reads where it is wanted, and leaves these fields
abbrev pub Writes : {A : Type 0} → Result Unit ScriptKind → A → Row → Result (A × Row) ScriptKind → Type 0
Writes (Ok u) x new read = read ≡ Ok (x, new)
Writes (Err kind) x new read = read ≡ Err kind

-- the same where no field is left
abbrev pub IsWritten : {A : Type 0} → Result Unit ScriptKind → A → Result A ScriptKind → Type 0
IsWritten (Ok u) x read = read ≡ Ok x
IsWritten (Err kind) x read = read ≡ Err kind

-- ---- one field

-- what one field is, and the fields behind it
abbrev pub one_field : {A : Type 0} → (List ℕ → Result A ScriptKind) → Row → Result (A × Row) ScriptKind
one_field read row = next_field read row >>= λ x. Ok (x, rest row)

-- the fields behind one that has to be this word
abbrev pub behind_word : List ℕ → Row → Result Row ScriptKind
behind_word word row = needed row >>= λ field. if bytes_eq field word then Ok (rest row) else Err UnknownWord

-- a value, where no field is left
abbrev pub at_end : {A : Type 0} → A → Row → Result A ScriptKind
at_end x [] = Ok x
at_end x (f ∷ fs) = Err ExtraField

-- `p` and the number of a processor
abbrev pub read_processor : ℕ → List ℕ → Result CpuNo ScriptKind
read_processor cpus [] = Err BadNumber
read_processor cpus (c ∷ number) = if c == 112 then read_cpu cpus number else Err BadNumber

-- the name of a thread, or a dash for none
abbrev pub read_running : NameLists → List ℕ → Result (Option ThreadNo) ScriptKind
read_running names field = read_unless dash (read_thread names) field

-- the number of an event
abbrev pub read_event : List ℕ → Result ℕ ScriptKind
read_event field = read_number 4294967295 field

-- a class that a Clean may have
abbrev pub read_class : List ℕ → Result ℕ ScriptKind
read_class field = read_number 2 field

-- ---- hexadecimal numbers

abbrev pub is_hexadecimal_digit : ℕ → Bool
is_hexadecimal_digit c = is_ascii_digit c || (nat_le 97 c && nat_le c 102)

abbrev pub hexadecimal_value : ℕ → ℕ
hexadecimal_value c = if is_ascii_digit c then c - 48 else c - 87

-- the number of 32 bits that hexadecimal digits stand for, read after a number
abbrev pub hexadecimal_after : ℕ → List ℕ → Option ℕ
hexadecimal_after n [] = Some n
hexadecimal_after n (c ∷ cs) = if is_hexadecimal_digit c && nat_le n 268435455
    then hexadecimal_after (16 * n + hexadecimal_value c) cs else None

-- a hexadecimal number of 32 bits in lower case, without leading zeros
abbrev pub hexadecimal_of : List ℕ → Option ℕ
hexadecimal_of [] = None
hexadecimal_of (c ∷ cs) = if c == 48 && not (length cs == 0) then None else hexadecimal_after 0 (c ∷ cs)

abbrev pub read_hexadecimal : List ℕ → Result ℕ ScriptKind
read_hexadecimal field = or_error BadNumber (hexadecimal_of field)

-- ---- replies

-- the cause of this number
unfoldable pub refusal_of : ℕ → Option Refusal
refusal_of n = find (λ r. refusal_number r == n) REFUSALS

abbrev pub read_refusal : List ℕ → Result Refusal ScriptKind
read_refusal field = read_number 11 field >>= λ n. or_error BadNumber (refusal_of n)

abbrev pub read_reply_word : List ℕ → Result ReplyWord ScriptKind
read_reply_word field = or_error UnknownWord (reply_word field)

-- the number of a cause and its name
abbrev pub refused : Row → Result (Reply × Row) ScriptKind
refused row = one_field read_refusal row >>= λ r. behind_word (refusal_name r.0) r.1 >>= λ left. Ok (Refused r.0, left)

-- a reply by its word and the fields behind it
abbrev pub reply_of : ReplyWord → Row → Result (Reply × Row) ScriptKind
reply_of word.Done row = Ok (Done, row)
reply_of word.Yes row = Ok (Yes, row)
reply_of word.No row = Ok (No, row)
reply_of word.Status row = one_field read_hexadecimal row >>= λ x. Ok (Status x.0, x.1)
reply_of word.Blocked row = Ok (Blocked, row)
reply_of word.Spin row = Ok (Spin, row)
reply_of word.Refused row = refused row

-- `->` and a reply
abbrev pub replied : Row → Result (Reply × Row) ScriptKind
replied row = behind_word (codes "->") row >>= one_field read_reply_word >>= λ w. reply_of w.0 w.1

-- `of` and the number of the event that is used up
abbrev pub used : Row → Result (ℕ × Row) ScriptKind
used row = behind_word (codes "of") row >>= one_field read_event

-- `status` and the status of a wait that ended, or nothing at all
abbrev pub status : Row → Result (Option ℕ × Row) ScriptKind
status [] = Ok (None, [])
status (f ∷ fs) = behind_word (codes "status") (f ∷ fs) >>= one_field read_hexadecimal >>= λ x. Ok (Some x.0, x.1)
