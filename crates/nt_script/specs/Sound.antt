-- Which inputs have a text.
use Rattle.std.specs.Prelude.{◌≡◌, ℕ, ◌≤◌, List, [], length, IsTrue}
use Rattle.std.specs.List.{AllByRecursion}
use Rattle.nt_event.specs.Script.{fits}
use Rattle.nt_line.specs.Fits.{HasRange}
use Rattle.nt_line.specs.NameLists.{AreNew, all_names}
use Rattle.nt_script.specs.declared.walk.Input.{Input}
use Rattle.nt_script.specs.Text.{text}
use Rattle.nt_script.specs.Versions.{most_cpus}

-- an input that has a text: its version is 1 or 2, its script fits and meets the limits of that version, it has no
-- locks in version 1, there are as many names of each kind as things, and each is a name and all are different
pub record IsSound (input : Input) : Type 0 where
  pub version : (1 ≤ input.version) × (input.version ≤ 2)
  pub fits : IsTrue (fits input.script)
  pub cpus : input.script.cpus ≤ most_cpus input.version
  pub no_locks : input.version ≡ 1 → input.script.locks ≡ 0
  pub ranges : AllByRecursion (λ r. AllByRecursion HasRange r.commands) input.script.routines
  pub dpcs : length input.names.dpcs ≡ length input.script.dpcs
  pub timers : length input.names.timers ≡ length input.script.timers
  pub threads : length input.names.threads ≡ length input.script.threads
  pub apcs : length input.names.apcs ≡ length input.script.apcs
  pub locks : length input.names.locks ≡ input.script.locks
  pub routines : length input.names.routines ≡ length input.script.routines
  pub names : AreNew [] (all_names input.names)

-- the grammar: the bytes are the text of a sound input
pub record IsTextOf (bytes : List ℕ) (input : Input) : Type 0 where
  pub sound : IsSound input
  pub text : bytes ≡ text input
