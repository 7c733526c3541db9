-- What is asked for, and what is answered to it, is what the words find.
use Rattle.std.proofs.Common.{◌≡◌, ◌≢◌, ◌∙◌, ℕ, List, length, Result, Ok, Err, subst₂, sym}
use Rattle.std.specs.Prelude.{IfOk, false, true}
use Rattle.std.proofs.lemmas.Bool.{false≢true}
use Rattle.nt_words.proofs.Answered.{audit_is_named, live_is_named}
use Rattle.nt_words.specs.declared.form.Form.{Form}
use Rattle.nt_words.specs.declared.form.Form.TheVariants as form
use Rattle.nt_words.specs.Forms.{IsForm, names_live}
use Rattle.nt_top.specs.declared.answer.Answer.{Answer}
use Rattle.nt_top.specs.declared.status.Status.{Status}
use Rattle.nt_top.specs.declared.status.Status.TheVariants as exit
use Rattle.nt_top.specs.declared.task.Task.{Task}
use Rattle.nt_top.specs.Answer.{Asks, IsAnswerTo, text_of}
use Rattle.nt_top.specs.Outcome.{Gave, IsAnswered, IsFound, IsFoundBy, IsFoundFrom, IsFoundIn, IsWritten}
use Rattle.nt_outside.specs.Sides.{Store, Supply}
use Rattle.nt_top.specs.Tasks.{asks_threads, is_threaded, reads}
use Rattle.nt_top.proofs.Causes.{few_taken}
use Rattle.nt_top.proofs.Found.{done_in, found_by}
use Rattle.nt_top.proofs.Tasked.{tasks_are_read, threads_are_live}
use Rattle.nt_top.proofs.Written.{found_is_no_fault}

-- what is found in the bytes that the source gave
found_from : (f : Form) (bytes : List ℕ) (so sn : Supply) (status : Status) (text : List ℕ) → Gave bytes so sn → IsFoundIn f bytes status text →
    IsFoundFrom f so sn status text
found_from f bytes so sn exit.Ok text g h = (bytes, g, h)
found_from f bytes so sn exit.Usage text g h = absurd h.2
found_from f bytes so sn exit.Script text g h = (bytes, g, h)
found_from f bytes so sn exit.Schedule text g h = (bytes, g, h)
found_from f bytes so sn exit.Read text g h = absurd h.2
found_from f bytes so sn exit.Write text g h = absurd h.2
found_from f bytes so sn exit.Memory text g h = (rw g.taken (few_taken so.taken (length bytes) g.few), h)
found_from f bytes so sn exit.TooLong text g h = absurd h.2
found_from f bytes so sn exit.Illegal text g h = (bytes, g, h)
found_from f bytes so sn exit.NoGoal text g h = (bytes, g, h)
found_from f bytes so sn exit.TooMany text g h = (bytes, g, h)
found_from f bytes so sn exit.NotDelivered text g h = (bytes, g, h)

-- a form that reads finds what it finds from the source
by_source : (f : Form) (so sn : Supply) (status : Status) (text : List ℕ) → reads f ≡ true → IsFoundFrom f so sn status text → IsFoundBy f so sn status text
by_source (form.Run turns) so sn status text r h = h
by_source (form.Live turns) so sn status text r h = h
by_source form.Replay so sn status text r h = h
by_source form.Check so sn status text r h = h
by_source (form.Load seed turns) so sn status text r h = cc
by_source form.Migrate so sn status text r h = h
by_source form.Verify so sn status text r h = h
by_source (form.Shrink goal) so sn status text r h = h
by_source (form.Audit turns workers) so sn status text r h = h

-- what is answered to what the words ask for is what the words find
answer_found : (words : List (List ℕ)) (so sn : Supply) (r : Result Task Answer) (status : Status) (text : List ℕ) → Asks words so sn r →
    IsAnswerTo r status text → IsFound words so sn status text
answer_found words so sn (Ok t) status text h k =
    let f = h.0 in
    let read = h.2 in
    let from = found_from f read.bytes so sn status text read.gave (done_in f read.bytes t status text read.task k) in
    found_by f words so sn status text h.1 (by_source f so sn status text (tasks_are_read f read.bytes t read.task) from)
answer_found words so sn (Err a) status text h k = subst₂ (IsFound words so sn) (sym k.0) (sym k.1) h

-- no fault of the sink is answered
pub answer_is_no_fault : (words : List (List ℕ)) (so sn : Supply) (r : Result Task Answer) (a : Answer) → Asks words so sn r →
    IsAnswerTo r a.status (text_of a.text) → a.status ≢ exit.Write
answer_is_no_fault words so sn r a h k = found_is_no_fault words so sn a.status (text_of a.text) (answer_found words so sn r a.status (text_of a.text) h k)

-- what was asked for was answered, and the answer was written
pub answered : (words : List (List ℕ)) (so sn : Supply) (ko kn : Store) (r : Result Task Answer) (a : Answer) (status : Status) → Asks words so sn r →
    IsAnswerTo r a.status (text_of a.text) → IsWritten a.status (text_of a.text) ko kn status → IsAnswered words so sn ko kn status
answered words so sn ko kn r a status h k w = record {
  found = a.status;
  text = text_of a.text;
  cause = answer_found words so sn r a.status (text_of a.text) h k;
  written = w;
}

-- words of which none is `live` or `audit` ask for no threads
pub asks_alone : (words : List (List ℕ)) (so sn : Supply) (r : Result Task Answer) → names_live words ≡ false → Asks words so sn r →
    IfOk r (λ t. is_threaded t ≡ false)
asks_alone words so sn (Err a) e h = tt
asks_alone words so sn (Ok t) e h = go h.0 h.1 (threads_are_live h.0 h.2.bytes t h.2.task)
  where
    go : (f : Form) → IsForm words f → is_threaded t ≡ asks_threads f → is_threaded t ≡ false
    go (form.Run turns) i k = k
    go (form.Live turns) i k = absurd (false≢true (sym e ∙ live_is_named words turns i))
    go form.Replay i k = k
    go form.Check i k = k
    go (form.Load seed turns) i k = k
    go form.Migrate i k = k
    go form.Verify i k = k
    go (form.Shrink goal) i k = k
    go (form.Audit turns workers) i k = absurd (false≢true (sym e ∙ audit_is_named words turns workers i))
