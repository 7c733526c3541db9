-- A text as somebody wrote it, and what is written where a line of it is refused.
use Rattle.std.specs.Prelude.{◌≡◌, ◌≤◌, ℕ, List, [], Option, codes, get_or, length, option_map}
use Rattle.std.specs.Option.{option_map_or}
use Rattle.nt_ask.specs.declared.answer.Status.{Status}
use Rattle.nt_ask.specs.declared.answer.Status.TheVariants as exit
use Rattle.nt_friendly.specs.Text.{line_numbers, strict_text}
use Rattle.nt_lab.specs.Replies.{memory_line}
use Rattle.nt_people.specs.declared.fault.Fault.{Fault}
use Rattle.nt_people.specs.Messages.{IsMessage}
use Rattle.nt_text.specs.declared.lines.TheConstants.{INPUT_LIMIT}
use Rattle.nt_lab_words.specs.declared.words.Call.{Call}
use Rattle.nt_lab_words.specs.Words.{file_of}
use Rattle.nt_bench.specs.declared.friendly.Friendly.{Friendly}
use Rattle.nt_bench.specs.declared.friendly.Named.{Named}

-- these words name them: the file is the last word, if there is one, the thing the third, and a level the fourth
pub record AreNamed (words : List (List ℕ)) (call : Option Call) (n : Named) : Type 0 where
  pub file_is : option_map (λ name. name.now) n.file ≡ file_of words call
  pub thing_is : n.thing.now ≡ get_or words 2 []
  pub level_is : n.level.now ≡ get_or words 3 []

-- both texts are as long as an input may be, and the one is what the other means
pub record IsFriendly (f : Friendly) : Type 0 where
  pub bytes : length f.bytes.now ≤ INPUT_LIMIT
  pub short : length f.tidied.now.text.items ≤ INPUT_LIMIT
  pub text : f.tidied.now.text.items ≡ strict_text f.bytes.now
  pub lines : f.tidied.now.lines.items ≡ line_numbers f.bytes.now

-- where it comes from, as messages name it
abbrev pub source_name : Friendly → List ℕ
source_name f = option_map_or (λ name. name.now) f.named.file (codes "standard input")

-- a message on what is wrong with this line of the strict text; or memory is wanting for one
abbrev pub IsRefusalText : Friendly → ℕ → Fault → Status → List ℕ → Type 0
IsRefusalText f line said exit.Refused text =
    IsMessage (source_name f) f.bytes.now (line_numbers f.bytes.now) line said (strict_text f.bytes.now)
    text
IsRefusalText f line said exit.Memory text = text ≡ memory_line
IsRefusalText f line said exit.Ok text = ⊥
IsRefusalText f line said exit.Fails text = ⊥
IsRefusalText f line said exit.Unknown text = ⊥
IsRefusalText f line said exit.NoExpectation text = ⊥
IsRefusalText f line said exit.NoWitness text = ⊥
IsRefusalText f line said exit.TooManyTurns text = ⊥
IsRefusalText f line said exit.Usage text = ⊥
IsRefusalText f line said exit.Read text = ⊥
IsRefusalText f line said exit.Write text = ⊥
IsRefusalText f line said exit.TooLong text = ⊥
