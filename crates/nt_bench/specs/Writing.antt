-- Where texts are written, and what stands there then.
use Rattle.std.specs.Prelude.{◌≡◌, ◌⊎◌, ◌∷◌, [], ℕ, List, Option, codes}
use Rattle.std.specs.Io.KnownBytes.{append_known}
use Rattle.nt_ask.specs.declared.answer.Status.{Status}
use Rattle.nt_ask.specs.declared.answer.Status.TheVariants as exit
use Rattle.nt_outside.specs.Bytes.{AddsFrontOf}
use Rattle.nt_outside.specs.Counts.{Rose}
use Rattle.nt_lab.specs.Replies.{memory_line}
use Rattle.nt_outside.specs.Sides.{Store, store}
use Rattle.nt_people.specs.Messages.{shown_text}
use Rattle.nt_bench.specs.declared.reply.Stream.{Stream}
use Rattle.nt_bench.specs.declared.reply.Stream.TheVariants as stream

-- answers are on standard output, and why there is none on standard error
abbrev pub stream_of : Status → Stream
stream_of exit.Ok = stream.Out
stream_of exit.Fails = stream.Out
stream_of exit.NoExpectation = stream.Out
stream_of exit.NoWitness = stream.Out
stream_of exit.Unknown = stream.Out
stream_of exit.TooManyTurns = stream.Out
stream_of exit.Usage = stream.Err
stream_of exit.Refused = stream.Err
stream_of exit.Read = stream.Err
stream_of exit.Write = stream.Err
stream_of exit.Memory = stream.Err
stream_of exit.TooLong = stream.Err

-- standard output and standard error
pub record Stores : Type 0 where
  pub out : Store
  pub err : Store

abbrev pub stores : Option (List ℕ) → ℕ → Option (List ℕ) → ℕ → Stores
stores out out_faults err err_faults = record { out = store out out_faults; err = store err err_faults }

-- the text was added to the sink; or it failed, and a front part of the text was added
abbrev pub IsPut : List ℕ → Store → Store → Type 0
IsPut text old new = (new.held ≡ append_known old.held text) ⊎
    (Rose old.faults new.faults × AddsFrontOf text old.held new.held)

-- the texts were put one after another
abbrev pub ArePut : List (List ℕ) → Store → Store → Type 0
ArePut [] old new = new ≡ old
ArePut (text ∷ texts) old new = (between : Store) × IsPut text old between × ArePut texts between new

-- what is told where the file of this name can't be opened, and the status: the name as it is shown; or that memory is
-- wanting
pub data IsUnopened (name : List ℕ) (old new : Store) (status : Status) : Type 0 where
  told : status ≡ exit.Read → ArePut (codes "cannot open " ∷ shown_text name ∷ codes "\n" ∷ []) old new →
      IsUnopened name old new status
  starved : status ≡ exit.Memory → IsPut memory_line old new → IsUnopened name old new status

-- an answer was added and the call answers its status; or the sink failed, and a front part was added
abbrev pub IsWritten : Status → List ℕ → Store → Store → Status → Type 0
IsWritten found text old new exit.Write = Rose old.faults new.faults × AddsFrontOf text old.held new.held
IsWritten found text old new exit.Ok = (exit.Ok ≡ found) × (new.held ≡ append_known old.held text)
IsWritten found text old new exit.Fails = (exit.Fails ≡ found) × (new.held ≡ append_known old.held text)
IsWritten found text old new exit.NoExpectation = (exit.NoExpectation ≡ found) × (new.held ≡ append_known old.held text)
IsWritten found text old new exit.NoWitness = (exit.NoWitness ≡ found) × (new.held ≡ append_known old.held text)
IsWritten found text old new exit.Unknown = (exit.Unknown ≡ found) × (new.held ≡ append_known old.held text)
IsWritten found text old new exit.TooManyTurns = (exit.TooManyTurns ≡ found) × (new.held ≡ append_known old.held text)
IsWritten found text old new exit.Usage = (exit.Usage ≡ found) × (new.held ≡ append_known old.held text)
IsWritten found text old new exit.Refused = (exit.Refused ≡ found) × (new.held ≡ append_known old.held text)
IsWritten found text old new exit.Read = (exit.Read ≡ found) × (new.held ≡ append_known old.held text)
IsWritten found text old new exit.Memory = (exit.Memory ≡ found) × (new.held ≡ append_known old.held text)
IsWritten found text old new exit.TooLong = (exit.TooLong ≡ found) × (new.held ≡ append_known old.held text)

-- What is written for a status. Standard error may fail without a word: the status says enough.
abbrev pub IsWrittenTo : Stream → Status → List ℕ → Stores → Stores → Status → Type 0
IsWrittenTo stream.Out found text old new status = IsWritten found text old.out new.out status × (new.err ≡ old.err)
IsWrittenTo stream.Err found text old new status = (status ≡ found) × (new.out ≡ old.out) × IsPut text old.err new.err
