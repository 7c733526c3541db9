-- What a call from C answers.
use Rattle.std.specs.Prelude.{List, Some, [], drop, false, if◌then◌else◌, length, min, nat_lt, take, true, ℕ}
use Rattle.std.specs.Prelude.{◌<◌, ◌≡◌, ◌≢◌, ◌⊎◌}
use Rattle.nt_words.specs.Forms.{names_live}
use Rattle.nt_top.specs.declared.status.Status.{Status}
use Rattle.nt_top.specs.declared.status.Status.TheVariants as exit
use Rattle.nt_top.specs.Outcome.{HasCause, IsAnswered, memory_line}
use Rattle.nt_outside.specs.Sides.{store, supply, Supply}
use Rattle.nt_top.specs.Status.{status_number}
use Rattle.nt_c.specs.Words.{AreWords}

-- the status of words that need threads
abbrev pub needs_threads : ℕ
needs_threads = 12

-- what `plain` answers to these words, none of which is `live` or `audit`: the source has the bytes of the input, and
-- the empty sink holds the whole text in the end. Neither of them fails.
pub record IsPlain (words : List (List ℕ)) (input : List ℕ) (number : ℕ) (text : List ℕ) : Type 0 where
  pub alone : names_live words ≡ false
  pub status : Status
  pub is : number ≡ status_number status
  pub other : number < needs_threads
  -- the source as it was left
  pub left : Supply
  pub no_fault : left.faults ≡ 0
  pub answered : IsAnswered words (supply (Some input) 0 0) left (store (Some []) 0) (store (Some text) 0) status
  pub causes : HasCause words (supply (Some input) 0 0) left (store (Some []) 0) (store (Some text) 0) status
  pub read : status ≢ exit.Read
  pub taken : status ≢ exit.Write

-- one of the words is `live` or `audit`
pub record IsThreaded (words : List (List ℕ)) (number : ℕ) (text : List ℕ) : Type 0 where
  pub threads : names_live words ≡ true
  pub is : number ≡ needs_threads
  pub nothing : text ≡ []

-- what is found from the words' bytes and the input
pub record IsFound (bytes input : List ℕ) (number : ℕ) (text : List ℕ) : Type 0 where
  pub words : List (List ℕ)
  pub are : AreWords bytes words
  pub found : IsThreaded words number text ⊎ IsPlain words input number text

-- there was no memory
abbrev pub IsStarved : ℕ → List ℕ → Type 0
IsStarved number text = (number ≡ status_number exit.Memory) × (text ≡ memory_line)

-- the text is at the front of the buffer, as much of it as there is room for, and the rest is as it was
pub record IsPut (text old new : List ℕ) (written : ℕ) : Type 0 where
  pub count : written ≡ min (length text) (length old)
  pub front : take written new ≡ take written text
  pub rest : drop written new ≡ drop written old

-- a text that is longer than the buffer has the status of a sink that fails
abbrev pub number_for : List ℕ → List ℕ → ℕ → ℕ
number_for text buffer number = if nat_lt (length buffer) (length text) then status_number exit.Write else number

-- the whole call; want of memory may come at any place
pub record IsCall (bytes input old new : List ℕ) (written result : ℕ) : Type 0 where
  pub number : ℕ
  pub text : List ℕ
  pub found : IsFound bytes input number text ⊎ IsStarved number text
  pub put : IsPut text old new written
  pub answer : result ≡ number_for text old number
