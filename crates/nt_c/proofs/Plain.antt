-- What `plain` answers over a source and a sink that met no fault.
use Rattle.std.proofs.Common.{List, Some, arith, false, lit<, subst, sym, ℕ, ◌<◌, ◌≡◌}
use Rattle.nt_outside.specs.Counts.{Rose}
use Rattle.nt_words.specs.Forms.{names_live}
use Rattle.nt_top.specs.declared.status.Status.{Status}
use Rattle.nt_top.specs.declared.status.Status.TheVariants as exit
use Rattle.nt_top.specs.Outcome.{HasCause, IsAnswered}
use Rattle.nt_outside.specs.Sides.{store, supply, Supply}
use Rattle.nt_top.specs.Status.{status_number}
use Rattle.nt_c.specs.Call.{IsPlain, needs_threads}
use Rattle.nt_c.specs.Streams.{Input, Text, new_input, new_text}

-- a count of faults that stays zero did not rise
no_rise : Rose 0 0 → ⊥
no_rise h = omega (arith, h)

-- the number of a status is below the one for words that need threads
other : (s : Status) → status_number s < needs_threads
other exit.Ok = lit< tt
other exit.Usage = lit< tt
other exit.Script = lit< tt
other exit.Schedule = lit< tt
other exit.Read = lit< tt
other exit.Write = lit< tt
other exit.Memory = lit< tt
other exit.TooLong = lit< tt
other exit.Illegal = lit< tt
other exit.NoGoal = lit< tt
other exit.NotDelivered = lit< tt
other exit.TooMany = lit< tt

-- what `plain` ensures from this source and sink to these
abbrev Told : List (List ℕ) → Input → Text → Supply → List ℕ → ℕ → Status → Type 0
Told words source sink left held faults status =
    IsAnswered words (supply (Some source.left) source.taken 0) left (store (Some sink.held) sink.faults) (store (Some held) faults) status ×
    HasCause words (supply (Some source.left) source.taken 0) left (store (Some sink.held) sink.faults) (store (Some held) faults) status

-- case: the source holds the input, the sink is new, and neither met a fault
from_told : {words : List (List ℕ)} {input text : List ℕ} {number : ℕ} {left : Supply} {status : Status} → names_live words ≡ false → left.faults ≡ 0
    → number ≡ status_number status → Told words (new_input input) new_text left text 0 status → IsPlain words input number text
from_told {left = left} {status = status} alone no_fault is told = record {
  alone = alone;
  status = status;
  is = is;
  other = subst (λ n. n < needs_threads) (sym is) (other status);
  left = left;
  no_fault = no_fault;
  answered = told.0;
  causes = told.1;
  read = λ e. no_rise (subst (Rose 0) no_fault (told.1.read e));
  taken = λ e. no_rise (told.1.write e);
}

-- what is ensured of a new source and sink that met no fault is what `plain` answers
pub is_plain : {words : List (List ℕ)} {input text held : List ℕ} {number faults : ℕ} {source : Input} {sink : Text} {left : Supply} {status : Status}
    → names_live words ≡ false → source ≡ new_input input → sink ≡ new_text → left.faults ≡ 0 → faults ≡ 0 → text ≡ held → number ≡ status_number status
    → Told words source sink left held faults status → IsPlain words input number text
is_plain {words} {input} {text} {held} {number} {faults} {source} {sink} {left} {status} alone given empty no_fault none same is told =
    from_told alone no_fault is (subst (λ t. Told words (new_input input) new_text left t 0 status) (sym same)
    (subst (λ n. Told words (new_input input) new_text left held n status) none
    (subst (λ k. Told words (new_input input) k left held faults status) empty
    (subst (λ s. Told words s sink left held faults status) given told))))
