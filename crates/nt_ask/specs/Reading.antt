-- What is asked in the bytes of an input, or the line that is refused.
use Rattle.std.specs.Prelude.{◌≡◌, ◌+◌, ◌++◌, ℕ, List, Ok, Err, Option, Some, None, Result, codes, drop, length, take}
use Rattle.nt_expect.specs.declared.expectations.Expectation.{Expectation}
use Rattle.nt_expect.specs.declared.refusals.ExpectKind.{ExpectKind}
use Rattle.nt_expect.specs.Expectations.{ArePlain, expectations_text}
use Rattle.nt_expect.specs.Reading.{reading as expectations_in}
use Rattle.nt_script.specs.declared.walk.Input.{Input}
use Rattle.nt_script.specs.Reading.{reading as script_in}
use Rattle.nt_script.specs.Sound.{IsSound}
use Rattle.nt_script.specs.Splitting.{split_from}
use Rattle.nt_script.specs.Text.{text as script_text}
use Rattle.nt_text.specs.declared.kind.ScriptKind.{ScriptKind}
use Rattle.nt_text.specs.declared.kind.ScriptKind.TheVariants.{NoEnd}
use Rattle.nt_text.specs.Lines.{lines}
use Rattle.nt_ask.specs.declared.reading.Asked.{Asked}
use Rattle.nt_ask.specs.declared.reading.AskRefusal.{AskRefusal}
use Rattle.nt_ask.specs.declared.reading.AskRefusal.TheVariants as refusal

-- ---- the grammar

-- what is asked: a script, and what is expected of its runs
abbrev pub asked : Input → List Expectation → Asked
asked input es = record { input = input; expectations = es }

-- the bytes are the text of a sound input, and behind it that of expectations for its script
pub record IsTextOf (bytes : List ℕ) (a : Asked) : Type 0 where
  pub sound : IsSound a.input
  pub plain : ArePlain a.input a.expectations
  pub text : bytes ≡ script_text a.input ++ expectations_text a.input a.expectations

-- ---- what bytes are

-- a line that is refused, counted from 1 in the whole input, and what is wrong with it
pub data Bad : Type 0 where
  in_script : ℕ → ScriptKind → Bad
  in_expectations : ℕ → ExpectKind → Bad

-- goes on with what was read, or the line is refused
abbrev pub and_then : {A B : Type 0} → Result A Bad → (A → Result B Bad) → Result B Bad
and_then (Ok x) more = more x
and_then (Err bad) more = Err bad

-- what is read of a script
abbrev pub of_script : {A : Type 0} → Result A (ℕ × ScriptKind) → Result A Bad
of_script (Ok x) = Ok x
of_script (Err (line, kind)) = Err (in_script line kind)

-- what is read of expectations
abbrev pub of_expectations : {A : Type 0} → Result A (ℕ × ExpectKind) → Result A Bad
of_expectations (Ok x) = Ok x
of_expectations (Err (line, kind)) = Err (in_expectations line kind)

-- the script that the bytes are
abbrev pub script_of : List ℕ → Result Input Bad
script_of bytes = of_script (script_in bytes)

-- the expectations for this input that the bytes are, of which the first line has this number
abbrev pub expectations_of : Input → ℕ → List ℕ → Result (List Expectation) Bad
expectations_of input line bytes = of_expectations (expectations_in input line bytes)

-- an input with the expectations behind it
abbrev pub with_expectations : Input → ℕ → List ℕ → Result Asked Bad
with_expectations input line rest = and_then (expectations_of input line rest) (λ es. Ok (asked input es))

-- where the first line begins whose first field is `expect`: how many bytes stand before it, and its number
abbrev pub behind : List ℕ → Option (ℕ × ℕ)
behind bytes = split_from (codes "expect") 0 1 (lines bytes)

-- the line behind the last one
abbrev pub last_line : List ℕ → ℕ
last_line bytes = 1 + length (lines bytes)

-- a script, and the expectations that begin so many bytes behind it, with the line of this number. The script is tested
-- first. Where nothing begins, its first line is missing behind the last one.
abbrev pub two_parts : Option (ℕ × ℕ) → List ℕ → Result Asked Bad
two_parts (Some (at, line)) bytes = and_then (script_of (take at bytes)) (λ input.
    with_expectations input line (drop at bytes))
two_parts None bytes = and_then (script_of bytes) (λ input. Err (in_script (last_line bytes) NoEnd))

-- what is asked in the bytes: a script, and behind it what begins with the first line that begins with `expect`
abbrev pub asking : List ℕ → Result Asked Bad
asking bytes = two_parts (behind bytes) bytes

-- ---- what a call answers

-- a call answers what reading says, unless memory ran out
abbrev pub GivesRead : {A : Type 0} → Result A AskRefusal → Result A Bad → Type 0
GivesRead (Ok x) read = read ≡ Ok x
GivesRead (Err refusal.NoMemory) read = Unit {0}
GivesRead (Err (refusal.Script line kind)) read = read ≡ Err (in_script line kind)
GivesRead (Err (refusal.Expect line kind)) read = read ≡ Err (in_expectations line kind)
