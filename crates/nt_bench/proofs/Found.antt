-- What is done with a text is found in its bytes, and nothing that is found has the status of a failing sink.
use Rattle.std.proofs.Common.{subst}
use Rattle.std.specs.Prelude.{◌≡◌, List, None, Option, Some, ℕ}
use Rattle.nt_ask.specs.declared.answer.Status.{Status}
use Rattle.nt_ask.specs.declared.answer.Status.TheVariants as exit
use Rattle.nt_outside.specs.Sides.{Supply}
use Rattle.nt_lab.specs.Replies.{memory_line}
use Rattle.nt_lab_words.specs.declared.words.Call.{Call}
use Rattle.nt_lab_words.specs.declared.words.Task.{Task}
use Rattle.nt_lab_words.specs.declared.words.Task.TheVariants.{Do, Help, Version}
use Rattle.nt_lab_words.specs.declared.words.Work.{Work}
use Rattle.nt_lab_words.specs.declared.words.Work.TheVariants as work
use Rattle.nt_bench.specs.declared.friendly.Friendly.{Friendly}
use Rattle.nt_bench.specs.declared.friendly.Named.{Named}
use Rattle.nt_bench.specs.Friendly.{IsFriendly}
use Rattle.nt_bench.specs.Outcome.{IsDone, IsFoundBy, IsFoundIn, IsFoundOf}

-- where memory is wanting, its line is written
memory : (w : Work) (f : Friendly) (text : List ℕ) → IsDone w f exit.Memory text → text ≡ memory_line
memory (work.Ask form) f text d = d
memory work.Tidy f text d = d
memory (work.Run how as_schedule) f text d = d
memory work.Left f text d = d
memory (work.Draw since until as_text) f text d = d
memory (work.Why kind after) f text d = d

-- no text is answered with the status Usage
no_usage : (w : Work) (f : Friendly) (text : List ℕ) → IsDone w f exit.Usage text → ⊥
no_usage (work.Ask form) f text d = d
no_usage work.Tidy f text d = d
no_usage (work.Run how as_schedule) f text d = d
no_usage work.Left f text d = d
no_usage (work.Draw since until as_text) f text d = d
no_usage (work.Why kind after) f text d = d

-- no text is answered with the status Read
no_read : (w : Work) (f : Friendly) (text : List ℕ) → IsDone w f exit.Read text → ⊥
no_read (work.Ask form) f text d = d
no_read work.Tidy f text d = d
no_read (work.Run how as_schedule) f text d = d
no_read work.Left f text d = d
no_read (work.Draw since until as_text) f text d = d
no_read (work.Why kind after) f text d = d

-- no text is answered with the status Write
no_write : (w : Work) (f : Friendly) (text : List ℕ) → IsDone w f exit.Write text → ⊥
no_write (work.Ask form) f text d = d
no_write work.Tidy f text d = d
no_write (work.Run how as_schedule) f text d = d
no_write work.Left f text d = d
no_write (work.Draw since until as_text) f text d = d
no_write (work.Why kind after) f text d = d

-- no text is answered with the status TooLong
no_toolong : (w : Work) (f : Friendly) (text : List ℕ) → IsDone w f exit.TooLong text → ⊥
no_toolong (work.Ask form) f text d = d
no_toolong work.Tidy f text d = d
no_toolong (work.Run how as_schedule) f text d = d
no_toolong work.Left f text d = d
no_toolong (work.Draw since until as_text) f text d = d
no_toolong (work.Why kind after) f text d = d

-- what is done with a text is found in its bytes
pub done_found : (w : Work) (named : Named) (bytes : List ℕ) (f : Friendly) (status : Status) (text : List ℕ) → f.named ≡ named → f.bytes.now ≡ bytes →
    IsFriendly f → IsDone w f status text → IsFoundIn w named bytes status text
done_found w named bytes f exit.Ok text n b is d = record { f = f; named_is = n; bytes_are = b; friendly = is; done = d }
done_found w named bytes f exit.Fails text n b is d = record { f = f; named_is = n; bytes_are = b; friendly = is; done = d }
done_found w named bytes f exit.Unknown text n b is d = record { f = f; named_is = n; bytes_are = b; friendly = is; done = d }
done_found w named bytes f exit.NoExpectation text n b is d = record { f = f; named_is = n; bytes_are = b; friendly = is; done = d }
done_found w named bytes f exit.NoWitness text n b is d = record { f = f; named_is = n; bytes_are = b; friendly = is; done = d }
done_found w named bytes f exit.TooManyTurns text n b is d = record { f = f; named_is = n; bytes_are = b; friendly = is; done = d }
done_found w named bytes f exit.Memory text n b is d = memory w f text d
done_found w named bytes f exit.Refused text n b is d = record { f = f; named_is = n; bytes_are = b; friendly = is; done = d }
done_found w named bytes f exit.Usage text n b is d = absurd (no_usage w f text d)
done_found w named bytes f exit.Read text n b is d = absurd (no_read w f text d)
done_found w named bytes f exit.Write text n b is d = absurd (no_write w f text d)
done_found w named bytes f exit.TooLong text n b is d = absurd (no_toolong w f text d)

-- nothing that is found has the status of a failing sink
not_write_of : (task : Task) (named : Named) (old new : Supply) (text : List ℕ) → IsFoundOf task named old new exit.Write text → ⊥
not_write_of (Do w) named old new text found = found
not_write_of Help named old new text found = let e : exit.Write ≡ exit.Ok = found.0 in cc
not_write_of Version named old new text found = let e : exit.Write ≡ exit.Ok = found.0 in cc

-- the same, by what the words ask for
not_write : (words : List (List ℕ)) (call : Option Call) (old new : Supply) (text : List ℕ) → IsFoundBy words call old new exit.Write text → ⊥
not_write words None old new text found = let e : exit.Write ≡ exit.Usage = found.0 in cc
not_write words (Some call) old new text found = not_write_of call.task found.0 old new text found.2

-- no reply has it
pub unwritten : (words : List (List ℕ)) (call : Option Call) (old new : Supply) (status : Status) (text : List ℕ) →
    IsFoundBy words call old new status text → status ≡ exit.Write → ⊥
unwritten words call old new status text found q =
    not_write words call old new text (subst (λ (s : Status). IsFoundBy words call old new s text) q found)
