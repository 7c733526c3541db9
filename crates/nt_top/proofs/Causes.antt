-- When each status comes, from what a call finds and how it is written.
use Rattle.std.proofs.Common.{inl, inr, true, ◌≡◌, ◌≢◌, ◌∙◌, ℕ, ◌+◌, ◌<◌, ◌≤◌, List, ◌++◌, length, Option, Some, None, Result, Ok, IsSome, refl, sym, ap, subst}
use Rattle.std.proofs.Common.{arith, append-nil}
use Rattle.std.specs.Prelude.{is_some, false}
use Rattle.std.proofs.lemmas.Bool.{false≢true}
use Rattle.std.proofs.Math.Nat.{min-le_left}
use Rattle.std.specs.Io.KnownBytes.{prepend_known, IsAtEnd}
use Rattle.nt_text.specs.declared.lines.TheConstants.{INPUT_LIMIT}
use Rattle.nt_outside.specs.Bytes.{IsLonger}
use Rattle.nt_outside.specs.Counts.{Rose, RoseBy, counted, last_count}
use Rattle.nt_top.specs.declared.status.Status.{Status}
use Rattle.nt_top.specs.declared.status.Status.TheVariants as exit
use Rattle.nt_check.proofs.Verdicts.{one_verdict}
use Rattle.nt_check.specs.declared.checking.Verdict.{Verdict}
use Rattle.nt_check.specs.declared.checking.Verdict.TheVariants as verdict
use Rattle.nt_words.specs.declared.form.Form.{Form}
use Rattle.nt_words.specs.declared.form.Form.TheVariants as form
use Rattle.nt_words.specs.Forms.{IsForm, WordsHaveOneForm}
use Rattle.nt_words.specs.Refusals.{IsNoForm}
use Rattle.nt_top.specs.declared.task.Task.{Task}
use Rattle.nt_top.specs.declared.task.Task.TheVariants as task
use Rattle.nt_top.specs.Outcome.{Gave, IsFoundBy, IsFoundFrom, IsStarved, IsUnread, GoesWell, GoesWrong, IsGiven, IsFound, IsFoundIn, IsWell}
use Rattle.nt_outside.specs.Sides.{Store, Supply}
use Rattle.nt_top.specs.Outcome.{IsWritten, IsAnswered, HasCause, miss_in, missed, refusal, refusal_of, refused_in, refused_turn}
use Rattle.nt_top.specs.Shrunk.{Found, bad_turn, delivered, found, no_goal, too_many, turn_in, undelivered}
use Rattle.nt_top.specs.Tasks.{Bad, reads, task_of}

-- the status is the one that was found, unless the sink failed
found_unless : (status found : Status) (text : List ℕ) (old new : Store) → IsWritten found text old new status → status ≢ exit.Write → status ≡ found
found_unless exit.Ok found text old new w other = w.0
found_unless exit.Usage found text old new w other = w.0
found_unless exit.Script found text old new w other = w.0
found_unless exit.Schedule found text old new w other = w.0
found_unless exit.Read found text old new w other = w.0
found_unless exit.Write found text old new w other = absurd (other refl)
found_unless exit.Memory found text old new w other = w.0
found_unless exit.TooLong found text old new w other = w.0
found_unless exit.Illegal found text old new w other = w.0
found_unless exit.NoGoal found text old new w other = w.0
found_unless exit.TooMany found text old new w other = w.0
found_unless exit.NotDelivered found text old new w other = w.0

-- if the status is that of a write fault, the sink had one more fault
faulted : (status found : Status) (text : List ℕ) (old new : Store) → IsWritten found text old new status → status ≡ exit.Write → Rose old.faults new.faults
faulted status found text old new w e = (subst (IsWritten found text old new) e w).0

-- the bytes that a source gave are those that it told
same_bytes : (bytes told : List ℕ) (before after : Option (List ℕ)) → before ≡ Some told → before ≡ prepend_known bytes after → IsAtEnd after → bytes ≡ told
same_bytes bytes told before None tells gave end = cc
same_bytes bytes told before (Some more) tells gave end =
    let whole : bytes ++ more ≡ told = cc in sym (append-nil bytes) ∙ ap (λ (xs : List ℕ). bytes ++ xs) (sym end) ∙ whole

-- taking bytes up to the input limit raises the count of bytes taken by at most that limit
pub few_taken : (old n : ℕ) → n ≤ INPUT_LIMIT → counted old n ≤ old + INPUT_LIMIT
few_taken old n h = omega (arith, min-le_left (old + n) last_count)

-- if what was told is longer than the input limit, the bytes told are
longer : (told : Option (List ℕ)) (bytes : List ℕ) → told ≡ Some bytes → IsLonger INPUT_LIMIT told → INPUT_LIMIT < length bytes
longer None bytes e h = cc
longer (Some xs) bytes e h = let same : xs ≡ bytes = cc in subst (λ (ys : List ℕ). INPUT_LIMIT < length ys) same h

-- ---- each status, from what was found

-- what was found, where the status is not that of a sink's fault
pub found_as : (words : List (List ℕ)) (so sn : Supply) (ko kn : Store) (status wanted : Status) → IsAnswered words so sn ko kn status → status ≢ exit.Write →
    status ≡ wanted
    → (text : List ℕ) × IsFound words so sn wanted text
found_as words so sn ko kn status wanted a other e =
    let same : a.found ≡ wanted = sym (found_unless status a.found a.text ko kn a.written other) ∙ e in
    (a.text, subst (λ (s : Status). IsFound words so sn s a.text) same a.cause)

-- words that have no form find the status of usage, unless memory ran out
usage_else : (words : List (List ℕ)) (so sn : Supply) (found : Status) (text : List ℕ) → IsNoForm words → IsFound words so sn found text →
    found ≢ exit.Memory → found ≡ exit.Usage
usage_else words so sn exit.Ok text none f other = absurd (none f.0 f.1)
usage_else words so sn exit.Usage text none f other = refl
usage_else words so sn exit.Script text none f other = absurd (none f.0 f.1)
usage_else words so sn exit.Schedule text none f other = absurd (none f.0 f.1)
usage_else words so sn exit.Read text none f other = absurd (none f.0 f.1)
usage_else words so sn exit.Write text none f other = absurd (none f.0 f.1)
usage_else words so sn exit.Memory text none f other = absurd (other refl)
usage_else words so sn exit.TooLong text none f other = absurd (none f.0 f.1)
usage_else words so sn exit.Illegal text none f other = absurd (none f.0 f.1)
usage_else words so sn exit.NoGoal text none f other = absurd (none f.0 f.1)
usage_else words so sn exit.TooMany text none f other = absurd (none f.0 f.1)
usage_else words so sn exit.NotDelivered text none f other = absurd (none f.0 f.1)

-- a form that reads its source takes no more than the input limit, unless it finds the input too long
few_from : (f : Form) (so sn : Supply) (found : Status) (text : List ℕ) → IsFoundFrom f so sn found text → found ≢ exit.TooLong →
    sn.taken ≤ so.taken + INPUT_LIMIT
few_from f so sn exit.Ok text w other = let g = w.1 in rw g.taken (few_taken so.taken _ g.few)
few_from f so sn exit.Usage text w other = absurd w
few_from f so sn exit.Script text w other = let g = w.1 in rw g.taken (few_taken so.taken _ g.few)
few_from f so sn exit.Schedule text w other = let g = w.1 in rw g.taken (few_taken so.taken _ g.few)
few_from f so sn exit.Read text w other = w.1
few_from f so sn exit.Write text w other = absurd w.2.2
few_from f so sn exit.Memory text w other = w.0
few_from f so sn exit.TooLong text w other = absurd (other refl)
few_from f so sn exit.Illegal text w other = let g = w.1 in rw g.taken (few_taken so.taken _ g.few)
few_from f so sn exit.NoGoal text w other = let g = w.1 in rw g.taken (few_taken so.taken _ g.few)
few_from f so sn exit.TooMany text w other = let g = w.1 in rw g.taken (few_taken so.taken _ g.few)
few_from f so sn exit.NotDelivered text w other = let g = w.1 in rw g.taken (few_taken so.taken _ g.few)

-- a supply that is as it was has taken no more than the input limit
few_same : (so sn : Supply) → sn ≡ so → sn.taken ≤ so.taken + INPUT_LIMIT
few_same so sn e = let same : sn.taken ≡ so.taken = ap (λ (s : Supply). s.taken) e in omega (arith, same)

-- a form takes no more than the input limit, unless it finds the input too long
few_by : (f : Form) (so sn : Supply) (found : Status) (text : List ℕ) → IsFoundBy f so sn found text → found ≢ exit.TooLong →
    sn.taken ≤ so.taken + INPUT_LIMIT
few_by (form.Run turns) so sn found text w other = few_from (form.Run turns) so sn found text w other
few_by form.Replay so sn found text w other = few_from form.Replay so sn found text w other
few_by form.Check so sn found text w other = few_from form.Check so sn found text w other
few_by (form.Live turns) so sn found text w other = few_from (form.Live turns) so sn found text w other
few_by (form.Load seed turns) so sn found text w other = few_same so sn w.0
few_by form.Migrate so sn found text w other = few_from form.Migrate so sn found text w other
few_by form.Verify so sn found text w other = few_from form.Verify so sn found text w other
few_by (form.Shrink goal) so sn found text w other = few_from (form.Shrink goal) so sn found text w other
few_by (form.Audit turns workers) so sn found text w other = few_from (form.Audit turns workers) so sn found text w other

-- a call that ran out of memory took no more than the input limit
few_starved : (words : List (List ℕ)) (so sn : Supply) → IsStarved words so sn → sn.taken ≤ so.taken + INPUT_LIMIT
few_starved words so sn (inl e) = few_same so sn e
few_starved words so sn (inr h) = h.few

-- whatever words find, no more than the input limit was taken, unless the input is too long
few_else : (words : List (List ℕ)) (so sn : Supply) (found : Status) (text : List ℕ) → IsFound words so sn found text → found ≢ exit.TooLong →
    sn.taken ≤ so.taken + INPUT_LIMIT
few_else words so sn exit.Ok text f other = few_by f.0 so sn exit.Ok text f.2 other
few_else words so sn exit.Usage text f other = few_same so sn f.1
few_else words so sn exit.Script text f other = few_by f.0 so sn exit.Script text f.2 other
few_else words so sn exit.Schedule text f other = few_by f.0 so sn exit.Schedule text f.2 other
few_else words so sn exit.Read text f other = few_by f.0 so sn exit.Read text f.2 other
few_else words so sn exit.Write text f other = few_by f.0 so sn exit.Write text f.2 other
few_else words so sn exit.Memory text f other = few_starved words so sn f.0
few_else words so sn exit.TooLong text f other = absurd (other refl)
few_else words so sn exit.Illegal text f other = few_by f.0 so sn exit.Illegal text f.2 other
few_else words so sn exit.NoGoal text f other = few_by f.0 so sn exit.NoGoal text f.2 other
few_else words so sn exit.TooMany text f other = few_by f.0 so sn exit.TooMany text f.2 other
few_else words so sn exit.NotDelivered text f other = few_by f.0 so sn exit.NotDelivered text f.2 other

-- a form that reads finds from the source
pub from_source : (f : Form) (so sn : Supply) (found : Status) (text : List ℕ) → reads f ≡ true → IsFoundBy f so sn found text →
    IsFoundFrom f so sn found text
from_source (form.Run turns) so sn found text r w = w
from_source form.Replay so sn found text r w = w
from_source form.Check so sn found text r w = w
from_source (form.Live turns) so sn found text r w = w
from_source (form.Load seed turns) so sn found text r w = cc
from_source form.Migrate so sn found text r w = w
from_source form.Verify so sn found text r w = w
from_source (form.Shrink goal) so sn found text r w = w
from_source (form.Audit turns workers) so sn found text r w = w

-- the source failed, or had too much
read_by : (f : Form) (so sn : Supply) (text : List ℕ) → IsFoundBy f so sn exit.Read text → Rose so.faults sn.faults
read_by (form.Run turns) so sn text w = w.0
read_by form.Replay so sn text w = w.0
read_by form.Check so sn text w = w.0
read_by (form.Live turns) so sn text w = w.0
read_by (form.Load seed turns) so sn text w = absurd w.1
read_by form.Migrate so sn text w = w.0
read_by form.Verify so sn text w = w.0
read_by (form.Shrink goal) so sn text w = w.0
read_by (form.Audit turns workers) so sn text w = w.0

-- a form that finds the input too long took one byte more than the input limit
many_by : (f : Form) (so sn : Supply) (text : List ℕ) → IsFoundBy f so sn exit.TooLong text → RoseBy (INPUT_LIMIT + 1) so.taken sn.taken
many_by (form.Run turns) so sn text w = w.1
many_by form.Replay so sn text w = w.1
many_by form.Check so sn text w = w.1
many_by (form.Live turns) so sn text w = w.1
many_by (form.Load seed turns) so sn text w = absurd w.1
many_by form.Migrate so sn text w = w.1
many_by form.Verify so sn text w = w.1
many_by (form.Shrink goal) so sn text w = w.1
many_by (form.Audit turns workers) so sn text w = w.1

-- a schedule in the bytes isn't shrunk, by this status
abbrev IsMissed : Form → List ℕ → Status → Type 0
IsMissed form bytes wanted = (length bytes ≤ INPUT_LIMIT) × ((t : Task) × (task_of form bytes ≡ Ok t) × (missed t ≡ Some wanted))

-- what is found in bytes, where the words are this form and nothing failed
abbrev Which : Form → List ℕ → Status → Type 0
Which form bytes exit.Ok = (length bytes ≤ INPUT_LIMIT) × ((t : Task) × (task_of form bytes ≡ Ok t) × GoesWell t)
Which form bytes exit.Script = (length bytes ≤ INPUT_LIMIT) × IsSome (refusal form bytes)
Which form bytes exit.Schedule = (length bytes ≤ INPUT_LIMIT) × ((t : Task) × (task_of form bytes ≡ Ok t) × IsSome (refused_turn t))
Which form bytes exit.Illegal = (length bytes ≤ INPUT_LIMIT) × ((t : Task) × (task_of form bytes ≡ Ok t) × GoesWrong t)
Which form bytes exit.NoGoal = IsMissed form bytes exit.NoGoal
Which form bytes exit.TooMany = IsMissed form bytes exit.TooMany
Which form bytes exit.NotDelivered = IsMissed form bytes exit.NotDelivered
Which form bytes exit.TooLong = INPUT_LIMIT < length bytes
Which form bytes exit.Memory = Unit {0}
Which form bytes _ = ⊥

-- the bytes that a source gave up to its end are the bytes that were left in it
pub gave_told : (bytes told : List ℕ) (so sn : Supply) → Gave bytes so sn → so.left ≡ Some told → bytes ≡ told
gave_told bytes told so sn g s = same_bytes bytes told so.left sn.left s g.left g.end

-- an optional value that is known is there
is_some_of : {A : Type 0} (o : Option A) (x : A) → o ≡ Some x → IsSome o
is_some_of o x e = rw e refl

-- an optional value that is absent is not there
is_none_not : {A : Type 0} {o : Option A} → o ≡ None → IsSome o → ⊥
is_none_not {A} {o} e some = let none : is_some o ≡ false = ap is_some e in cc

-- bytes that make a task are not refused by the form
not_refused : (form : Form) (bytes : List ℕ) (t : Task) → task_of form bytes ≡ Ok t → refusal form bytes ≡ None
not_refused form bytes t e = ap refusal_of e

-- a form and bytes make at most one task
pub same_task : (form : Form) (bytes : List ℕ) (t u : Task) → task_of form bytes ≡ Ok t → task_of form bytes ≡ Ok u → t ≡ u
same_task form bytes t u a b = go (sym a ∙ b)
  where
    go : ◌≡◌ {A = Result Task Bad} (Ok t) (Ok u) → t ≡ u
    go e = cc

-- a task that is done well goes well
goes_well : (t : Task) (text : List ℕ) → IsWell t text → GoesWell t
goes_well (task.Run input turns) text w = tt
goes_well (task.Live input turns) text w = tt
goes_well (task.Replay input schedule) text w = ap refused_in w.run.run
goes_well (task.Check input history) text w = w.0
goes_well (task.Migrate input) text w = tt
goes_well (task.Verify input) text w = tt
goes_well (task.Shrink input schedule goal) text w = (w.goal, w.found)
goes_well (task.Audit input turns workers) text w = tt

-- and then none of its turns is refused, and its history goes wrong nowhere
well_refused : (t : Task) → GoesWell t → IsSome (refused_turn t) → ⊥
well_refused (task.Run input turns) w some = false≢true some
well_refused (task.Live input turns) w some = false≢true some
well_refused (task.Replay input schedule) w some = is_none_not w some
well_refused (task.Check input history) w some = false≢true some
well_refused (task.Migrate input) w some = false≢true some
well_refused (task.Verify input) w some = false≢true some
well_refused (task.Shrink input schedule goal) w some = is_none_not (ap turn_in w.1) some
well_refused (task.Audit input turns workers) w some = false≢true some

-- a task that goes wrong at some event has no refused turn
wrong_refused : (t : Task) → GoesWrong t → IsSome (refused_turn t) → ⊥
wrong_refused (task.Run input turns) w some = w.1
wrong_refused (task.Live input turns) w some = w.1
wrong_refused (task.Replay input schedule) w some = w.1
wrong_refused (task.Check input history) w some = false≢true some
wrong_refused (task.Migrate input) w some = w.1
wrong_refused (task.Verify input) w some = w.1
wrong_refused (task.Shrink input schedule goal) w some = w.1
wrong_refused (task.Audit input turns workers) w some = w.1

-- no task goes both well and wrong
well_wrong : (t : Task) → GoesWell t → GoesWrong t → ⊥
well_wrong (task.Run input turns) w v = v.1
well_wrong (task.Live input turns) w v = v.1
well_wrong (task.Replay input schedule) w v = v.1
well_wrong (task.Migrate input) w v = v.1
well_wrong (task.Verify input) w v = v.1
well_wrong (task.Shrink input schedule goal) w v = v.1
well_wrong (task.Audit input turns workers) w v = v.1
well_wrong (task.Check input history) w v =
    let one = one_verdict input.script history.turns history.events in
    go (one.1.1 verdict.Legal w ∙ sym (one.1.1 (verdict.IllegalAt v.0) v.1))
  where
    go : ◌≡◌ {A = Verdict} verdict.Legal (verdict.IllegalAt v.0) → ⊥
    go e = cc

-- a schedule that isn't shrunk for another cause goes neither well nor wrong, and no turn of it is refused
none_not : {A : Type 0} {o : Option A} (x : A) → o ≡ None → o ≡ Some x → ⊥
none_not {A} {o} x e k = let bad : ◌≡◌ {A = Option A} None (Some x) = sym e ∙ k in cc

-- a task that goes well misses nothing
well_missed : (t : Task) (m : Status) → GoesWell t → missed t ≡ Some m → ⊥
well_missed (task.Run input turns) m w e = none_not m refl e
well_missed (task.Live input turns) m w e = none_not m refl e
well_missed (task.Replay input schedule) m w e = none_not m refl e
well_missed (task.Check input history) m w e = none_not m refl e
well_missed (task.Migrate input) m w e = none_not m refl e
well_missed (task.Verify input) m w e = none_not m refl e
well_missed (task.Shrink input schedule goal) m w e = none_not m (ap miss_in w.1) e
well_missed (task.Audit input turns workers) m w e = none_not m refl e

-- a task that goes wrong misses nothing
wrong_missed : (t : Task) (m : Status) → GoesWrong t → missed t ≡ Some m → ⊥
wrong_missed (task.Run input turns) m w e = w.1
wrong_missed (task.Live input turns) m w e = w.1
wrong_missed (task.Replay input schedule) m w e = w.1
wrong_missed (task.Check input history) m w e = none_not m refl e
wrong_missed (task.Migrate input) m w e = w.1
wrong_missed (task.Verify input) m w e = w.1
wrong_missed (task.Shrink input schedule goal) m w e = w.1
wrong_missed (task.Audit input turns workers) m w e = w.1

-- where shrinking finds a refused turn, it misses nothing else
no_turn_missed : (f : Found) (m : Status) → IsSome (turn_in f) → miss_in f ≡ Some m → ⊥
no_turn_missed no_goal m some e = false≢true some
no_turn_missed too_many m some e = false≢true some
no_turn_missed (bad_turn r) m some e = none_not m refl e
no_turn_missed undelivered m some e = false≢true some
no_turn_missed (delivered g) m some e = false≢true some

-- a task with a refused turn misses nothing
refused_missed : (t : Task) (m : Status) → IsSome (refused_turn t) → missed t ≡ Some m → ⊥
refused_missed (task.Run input turns) m some e = false≢true some
refused_missed (task.Live input turns) m some e = false≢true some
refused_missed (task.Replay input schedule) m some e = none_not m refl e
refused_missed (task.Check input history) m some e = false≢true some
refused_missed (task.Migrate input) m some e = false≢true some
refused_missed (task.Verify input) m some e = false≢true some
refused_missed (task.Shrink input schedule goal) m some e = no_turn_missed (found input schedule goal) m some e
refused_missed (task.Audit input turns workers) m some e = false≢true some

-- what is found in bytes within the limit has the cause of its status
which_in : (form : Form) (bytes : List ℕ) (found : Status) (text : List ℕ) → length bytes ≤ INPUT_LIMIT → IsFoundIn form bytes found text →
    Which form bytes found
which_in form bytes exit.Ok text few f = (few, (f.0, f.1, goes_well f.0 text f.2))
which_in form bytes exit.Usage text few f = absurd f.2
which_in form bytes exit.Script text few f = (few, is_some_of (refusal form bytes) f.0 f.1)
which_in form bytes exit.Schedule text few f = (few, (f.0, f.1, is_some_of (refused_turn f.0) f.2.0 f.2.1))
which_in form bytes exit.Read text few f = absurd f.2
which_in form bytes exit.Write text few f = absurd f.2
which_in form bytes exit.Memory text few f = tt
which_in form bytes exit.TooLong text few f = absurd f.2
which_in form bytes exit.Illegal text few f = (few, (f.0, f.1, (f.2.0, f.2.1)))
which_in form bytes exit.NoGoal text few f = (few, (f.0, f.1, f.2.0))
which_in form bytes exit.TooMany text few f = (few, (f.0, f.1, f.2.0))
which_in form bytes exit.NotDelivered text few f = (few, (f.0, f.1, f.2.0))

-- the same of the form that was given and the bytes that were told
moved : (f g : Form) (a b : List ℕ) (found : Status) → f ≡ g → a ≡ b → Which f a found → Which g b found
moved f g a b found e k w = subst (λ (x : Form). Which x b found) e (subst (λ (xs : List ℕ). Which f xs found) k w)

-- what a form finds in the bytes that were given was found from a source
from_given : WordsHaveOneForm → (words : List (List ℕ)) (so sn : Supply) (form : Form) (bytes : List ℕ) (g : Form) (found : Status) (text : List ℕ) →
    IsGiven words form bytes so sn → IsForm words g → IsFoundBy g so sn found text → IsFoundFrom g so sn found text
from_given one words so sn form bytes g found text s h w =
    from_source g so sn found text (subst (λ (x : Form). reads x ≡ true) (sym (one words g form h s.form)) s.may) w

-- what words find in the bytes that were given has the cause of its status
which : WordsHaveOneForm → (words : List (List ℕ)) (so sn : Supply) (form : Form) (bytes : List ℕ) (found : Status) (text : List ℕ) →
    IsGiven words form bytes so sn → IsFound words so sn found text → Which form bytes found
which one words so sn form bytes exit.Ok text s f =
    let w = from_given one words so sn form bytes f.0 exit.Ok text s f.1 f.2 in
    moved f.0 form w.0 bytes exit.Ok (one words f.0 form f.1 s.form) (gave_told w.0 bytes so sn w.1 s.left) (which_in f.0 w.0 exit.Ok text w.1.few w.2)
which one words so sn form bytes exit.Script text s f =
    let w = from_given one words so sn form bytes f.0 exit.Script text s f.1 f.2 in
    moved f.0 form w.0 bytes exit.Script (one words f.0 form f.1 s.form) (gave_told w.0 bytes so sn w.1 s.left) (which_in f.0 w.0 exit.Script text w.1.few w.2)
which one words so sn form bytes exit.Schedule text s f =
    let w = from_given one words so sn form bytes f.0 exit.Schedule text s f.1 f.2 in
    moved f.0 form w.0 bytes exit.Schedule (one words f.0 form f.1 s.form) (gave_told w.0 bytes so sn w.1 s.left)
    (which_in f.0 w.0 exit.Schedule text w.1.few w.2)
which one words so sn form bytes exit.Illegal text s f =
    let w = from_given one words so sn form bytes f.0 exit.Illegal text s f.1 f.2 in
    moved f.0 form w.0 bytes exit.Illegal (one words f.0 form f.1 s.form) (gave_told w.0 bytes so sn w.1 s.left)
    (which_in f.0 w.0 exit.Illegal text w.1.few w.2)
which one words so sn form bytes exit.NoGoal text s f =
    let w = from_given one words so sn form bytes f.0 exit.NoGoal text s f.1 f.2 in
    moved f.0 form w.0 bytes exit.NoGoal (one words f.0 form f.1 s.form) (gave_told w.0 bytes so sn w.1 s.left)
    (which_in f.0 w.0 exit.NoGoal text w.1.few w.2)
which one words so sn form bytes exit.TooMany text s f =
    let w = from_given one words so sn form bytes f.0 exit.TooMany text s f.1 f.2 in
    moved f.0 form w.0 bytes exit.TooMany (one words f.0 form f.1 s.form) (gave_told w.0 bytes so sn w.1 s.left)
    (which_in f.0 w.0 exit.TooMany text w.1.few w.2)
which one words so sn form bytes exit.NotDelivered text s f =
    let w = from_given one words so sn form bytes f.0 exit.NotDelivered text s f.1 f.2 in
    moved f.0 form w.0 bytes exit.NotDelivered (one words f.0 form f.1 s.form) (gave_told w.0 bytes so sn w.1 s.left)
    (which_in f.0 w.0 exit.NotDelivered text w.1.few w.2)
which one words so sn form bytes exit.Usage text s f = absurd (f.0 form s.form)
which one words so sn form bytes exit.Read text s f = absurd (s.no_fault (read_by f.0 so sn text f.2))
which one words so sn form bytes exit.Write text s f = absurd (from_given one words so sn form bytes f.0 exit.Write text s f.1 f.2).2.2
which one words so sn form bytes exit.Memory text s f = tt
which one words so sn form bytes exit.TooLong text s f = longer so.left bytes s.left (from_given one words so sn form bytes f.0 exit.TooLong text s f.1 f.2).0

-- for bytes longer than the limit the status is that of too long an input, unless memory ran out
which_long : (form : Form) (bytes : List ℕ) (found : Status) → Which form bytes found → INPUT_LIMIT < length bytes → found ≢ exit.Memory →
    found ≡ exit.TooLong
which_long form bytes exit.Ok w long other = let few = w.0 in absurd (omega (arith, few, long))
which_long form bytes exit.Usage w long other = absurd w
which_long form bytes exit.Script w long other = let few = w.0 in absurd (omega (arith, few, long))
which_long form bytes exit.Schedule w long other = let few = w.0 in absurd (omega (arith, few, long))
which_long form bytes exit.Read w long other = absurd w
which_long form bytes exit.Write w long other = absurd w
which_long form bytes exit.Memory w long other = absurd (other refl)
which_long form bytes exit.TooLong w long other = refl
which_long form bytes exit.Illegal w long other = let few = w.0 in absurd (omega (arith, few, long))
which_long form bytes exit.NoGoal w long other = let few = w.0 in absurd (omega (arith, few, long))
which_long form bytes exit.TooMany w long other = let few = w.0 in absurd (omega (arith, few, long))
which_long form bytes exit.NotDelivered w long other = let few = w.0 in absurd (omega (arith, few, long))

-- for bytes that the form refuses the status is that of a bad script, unless memory ran out
which_refused : (form : Form) (bytes : List ℕ) (found : Status) → Which form bytes found → length bytes ≤ INPUT_LIMIT → IsSome (refusal form bytes) →
    found ≢ exit.Memory → found ≡ exit.Script
which_refused form bytes exit.Ok w few bad other = absurd (is_none_not (not_refused form bytes w.1.0 w.1.1) bad)
which_refused form bytes exit.Usage w few bad other = absurd w
which_refused form bytes exit.Script w few bad other = refl
which_refused form bytes exit.Schedule w few bad other = absurd (is_none_not (not_refused form bytes w.1.0 w.1.1) bad)
which_refused form bytes exit.Read w few bad other = absurd w
which_refused form bytes exit.Write w few bad other = absurd w
which_refused form bytes exit.Memory w few bad other = absurd (other refl)
which_refused form bytes exit.TooLong w few bad other = absurd (omega (arith, w, few))
which_refused form bytes exit.Illegal w few bad other = absurd (is_none_not (not_refused form bytes w.1.0 w.1.1) bad)
which_refused form bytes exit.NoGoal w few bad other = absurd (is_none_not (not_refused form bytes w.1.0 w.1.1) bad)
which_refused form bytes exit.TooMany w few bad other = absurd (is_none_not (not_refused form bytes w.1.0 w.1.1) bad)
which_refused form bytes exit.NotDelivered w few bad other = absurd (is_none_not (not_refused form bytes w.1.0 w.1.1) bad)

-- where the bytes are a task, it tells the status
record Tells (t : Task) (found : Status) : Type 0 where
  well : GoesWell t → found ≡ exit.Ok
  refused : IsSome (refused_turn t) → found ≡ exit.Schedule
  wrong : GoesWrong t → found ≡ exit.Illegal
  missed : (m : Status) → missed t ≡ Some m → found ≡ m

-- two statuses that an optional status is are the same
same_status : (m n : Status) (o : Option Status) → o ≡ Some m → o ≡ Some n → m ≡ n
same_status m n o e k = go (sym e ∙ k)
  where
    go : ◌≡◌ {A = Option Status} (Some m) (Some n) → m ≡ n
    go h = cc

-- a missed status of a form and bytes is the one that their task misses
missed_now : (form : Form) (bytes : List ℕ) (t : Task) (m : Status) → IsMissed form bytes m → task_of form bytes ≡ Ok t → missed t ≡ Some m
missed_now form bytes t m w e = subst (λ (u : Task). missed u ≡ Some m) (same_task form bytes w.1.0 t w.1.1 e) w.1.2

-- a missed status comes from what the task misses, and from nothing else
tells_missed : (form : Form) (bytes : List ℕ) (t : Task) (m : Status) → IsMissed form bytes m → task_of form bytes ≡ Ok t → Tells t m
tells_missed form bytes t m w e =
    let now = missed_now form bytes t m w e in
    record {
      well = λ k. absurd (well_missed t m k now);
      refused = λ some. absurd (refused_missed t m some now);
      wrong = λ v. absurd (wrong_missed t m v now);
      missed = λ n k. same_status m n (missed t) now k;
    }

-- for bytes that make a task the status tells how the task went, unless memory ran out
which_tells : (form : Form) (bytes : List ℕ) (t : Task) (found : Status) → Which form bytes found → length bytes ≤ INPUT_LIMIT → task_of form bytes
    ≡ Ok t → found ≢ exit.Memory → Tells t found
which_tells form bytes t exit.Ok w few e other =
    let well : GoesWell t = subst GoesWell (same_task form bytes w.1.0 t w.1.1 e) w.1.2 in
    record {
      well = λ _. refl;
      refused = λ some. absurd (well_refused t well some);
      wrong = λ v. absurd (well_wrong t well v);
      missed = λ m e. absurd (well_missed t m well e);
    }
which_tells form bytes t exit.Usage w few e other = absurd w
which_tells form bytes t exit.Script w few e other = absurd (is_none_not (not_refused form bytes t e) w.1)
which_tells form bytes t exit.Schedule w few e other =
    let some : IsSome (refused_turn t) = subst (λ (u : Task). IsSome (refused_turn u)) (same_task form bytes w.1.0 t w.1.1 e) w.1.2 in
    record {
      well = λ k. absurd (well_refused t k some);
      refused = λ _. refl;
      wrong = λ v. absurd (wrong_refused t v some);
      missed = λ m e. absurd (refused_missed t m some e);
    }
which_tells form bytes t exit.Read w few e other = absurd w
which_tells form bytes t exit.Write w few e other = absurd w
which_tells form bytes t exit.Memory w few e other = absurd (other refl)
which_tells form bytes t exit.TooLong w few e other = absurd (omega (arith, w, few))
which_tells form bytes t exit.Illegal w few e other =
    let wrong : GoesWrong t = subst GoesWrong (same_task form bytes w.1.0 t w.1.1 e) w.1.2 in
    record {
      well = λ k. absurd (well_wrong t k wrong);
      refused = λ some. absurd (wrong_refused t wrong some);
      wrong = λ _. refl;
      missed = λ m e. absurd (wrong_missed t m wrong e);
    }
which_tells form bytes t exit.NoGoal w few e other = tells_missed form bytes t exit.NoGoal w e
which_tells form bytes t exit.TooMany w few e other = tells_missed form bytes t exit.TooMany w e
which_tells form bytes t exit.NotDelivered w few e other = tells_missed form bytes t exit.NotDelivered w e

-- if the status is that of success, the task went well
ok_tells : (form : Form) (bytes : List ℕ) (t : Task) → task_of form bytes ≡ Ok t → Which form bytes exit.Ok → GoesWell t
ok_tells form bytes t e w = subst GoesWell (same_task form bytes w.1.0 t w.1.1 e) w.1.2

-- if the status is that of a bad schedule, a turn of the task was refused
schedule_tells : (form : Form) (bytes : List ℕ) (t : Task) → task_of form bytes ≡ Ok t → Which form bytes exit.Schedule → IsSome (refused_turn t)
schedule_tells form bytes t e w = subst (λ (u : Task). IsSome (refused_turn u)) (same_task form bytes w.1.0 t w.1.1 e) w.1.2

-- if the status is that of an illegal history, the task went wrong
illegal_tells : (form : Form) (bytes : List ℕ) (t : Task) → task_of form bytes ≡ Ok t → Which form bytes exit.Illegal → GoesWrong t
illegal_tells form bytes t e w = subst GoesWrong (same_task form bytes w.1.0 t w.1.1 e) w.1.2

-- what words of the form load find is found by that form
load_by : WordsHaveOneForm → (words : List (List ℕ)) (so sn : Supply) (seed turns : ℕ) (g : Form) (found : Status) (text : List ℕ) →
    IsForm words (form.Load seed turns) → IsForm words g → IsFoundBy g so sn found text → IsFoundBy (form.Load seed turns) so sn found text
load_by one words so sn seed turns g found text h k w =
    subst (λ (x : Form). IsFoundBy x so sn found text) (one words g (form.Load seed turns) k h) w

-- a load that ran out of memory left its source unread
unread_starved : WordsHaveOneForm → (words : List (List ℕ)) (so sn : Supply) (seed turns : ℕ) → IsForm words (form.Load seed turns) →
    IsStarved words so sn → sn ≡ so
unread_starved one words so sn seed turns h (inl e) = e
unread_starved one words so sn seed turns h (inr k) =
    absurd (false≢true (subst (λ (x : Form). reads x ≡ true) (one words k.form (form.Load seed turns) k.is h) k.may))

-- where the words are a load, nothing is read, and the status is 0 unless memory was wanting
load_found : WordsHaveOneForm → (words : List (List ℕ)) (so sn : Supply) (seed turns : ℕ) (found : Status) (text : List ℕ) →
    IsForm words (form.Load seed turns) → IsFound words so sn found text → (found ≢ exit.Memory → found ≡ exit.Ok) × (sn ≡ so)
load_found one words so sn seed turns exit.Ok text h f = (λ _. refl, (load_by one words so sn seed turns f.0 exit.Ok text h f.1 f.2).0)
load_found one words so sn seed turns exit.Usage text h f = absurd (f.0 (form.Load seed turns) h)
load_found one words so sn seed turns exit.Memory text h f = (λ other. absurd (other refl), unread_starved one words so sn seed turns h f.0)
load_found one words so sn seed turns exit.Script text h f = absurd (load_by one words so sn seed turns f.0 exit.Script text h f.1 f.2).1
load_found one words so sn seed turns exit.Schedule text h f = absurd (load_by one words so sn seed turns f.0 exit.Schedule text h f.1 f.2).1
load_found one words so sn seed turns exit.Read text h f = absurd (load_by one words so sn seed turns f.0 exit.Read text h f.1 f.2).1
load_found one words so sn seed turns exit.Write text h f = absurd (load_by one words so sn seed turns f.0 exit.Write text h f.1 f.2).1
load_found one words so sn seed turns exit.TooLong text h f = absurd (load_by one words so sn seed turns f.0 exit.TooLong text h f.1 f.2).1
load_found one words so sn seed turns exit.Illegal text h f = absurd (load_by one words so sn seed turns f.0 exit.Illegal text h f.1 f.2).1
load_found one words so sn seed turns exit.NoGoal text h f = absurd (load_by one words so sn seed turns f.0 exit.NoGoal text h f.1 f.2).1
load_found one words so sn seed turns exit.TooMany text h f = absurd (load_by one words so sn seed turns f.0 exit.TooMany text h f.1 f.2).1
load_found one words so sn seed turns exit.NotDelivered text h f = absurd (load_by one words so sn seed turns f.0 exit.NotDelivered text h f.1 f.2).1

-- a load leaves its source unread, and succeeds unless memory or the sink failed
load_cause : WordsHaveOneForm → (words : List (List ℕ)) (so sn : Supply) (ko kn : Store) (status : Status) (a : IsAnswered words so sn ko kn status)
    (seed turns : ℕ) → IsForm words (form.Load seed turns) → IsUnread status so sn
load_cause one words so sn ko kn status a seed turns h =
    let found = load_found one words so sn seed turns a.found a.text h a.cause in
    record {
      unread = found.1;
      ok = λ memory write. let same = found_unless status a.found a.text ko kn a.written write in same ∙ found.0 (λ e. memory (same ∙ e));
    }

-- ---- all causes

-- each status of a call comes for the reason that is told of it
pub causes : WordsHaveOneForm → (words : List (List ℕ)) (so sn : Supply) (ko kn : Store) (status : Status) → IsAnswered words so sn ko kn status →
    HasCause words so sn ko kn status
causes one words so sn ko kn status a =
    let at = λ (wanted : Status) (other : status ≢ exit.Write) (e : status ≡ wanted). found_as words so sn ko kn status wanted a other e in
    let same = λ (other : status ≢ exit.Write). found_unless status a.found a.text ko kn a.written other in
    let which_now = λ (form : Form) (bytes : List ℕ) (s : IsGiven words form bytes so sn). which one words so sn form bytes a.found a.text s a.cause in
    record {
      usage = record {
        only = λ e. (at exit.Usage (λ w. cc) e).1.0;
        always = λ none memory write. same write ∙ usage_else words so sn a.found a.text none a.cause (λ e. memory (same write ∙ e));
      };
      unread = λ e. (at exit.Usage (λ w. cc) e).1.1;
      read = λ e. let found = at exit.Read (λ w. cc) e in read_by found.1.0 so sn found.0 found.1.2;
      many = λ e. let found = at exit.TooLong (λ w. cc) e in many_by found.1.0 so sn found.0 found.1.2;
      few = λ long write. few_else words so sn a.found a.text a.cause (λ e. long (same write ∙ e));
      too_long = λ form bytes s. record {
        only = λ e. let found = at exit.TooLong (λ w. cc) e in which one words so sn form bytes exit.TooLong found.0 s found.1;
        always = λ long memory write. same write ∙ which_long form bytes a.found (which_now form bytes s) long (λ e. memory (same write ∙ e));
      };
      script = λ form bytes s few. record {
        only = λ e. let found = at exit.Script (λ w. cc) e in (which one words so sn form bytes exit.Script found.0 s found.1).1;
        always = λ bad memory write. same write ∙ which_refused form bytes a.found (which_now form bytes s) few bad (λ e. memory (same write ∙ e));
      };
      schedule = λ form bytes t s. record {
        only = λ e. let found = at exit.Schedule (λ w. cc) e in
            schedule_tells form bytes t s.task (which one words so sn form bytes exit.Schedule found.0 s.given found.1);
        always = λ bad memory write. same write
            ∙ (which_tells form bytes t a.found (which_now form bytes s.given) s.few s.task (λ e. memory (same write ∙ e))).refused bad;
      };
      illegal = λ form bytes t s. record {
        only = λ e. let found = at exit.Illegal (λ w. cc) e in
            illegal_tells form bytes t s.task (which one words so sn form bytes exit.Illegal found.0 s.given found.1);
        always = λ wrong memory write. same write
            ∙ (which_tells form bytes t a.found (which_now form bytes s.given) s.few s.task (λ e. memory (same write ∙ e))).wrong wrong;
      };
      no_goal = λ form bytes t s. record {
        only = λ e. let found = at exit.NoGoal (λ w. cc) e in
            missed_now form bytes t exit.NoGoal (which one words so sn form bytes exit.NoGoal found.0 s.given found.1) s.task;
        always = λ miss memory write. same write
            ∙ (which_tells form bytes t a.found (which_now form bytes s.given) s.few s.task (λ e. memory (same write ∙ e))).missed exit.NoGoal miss;
      };
      many_turns = λ form bytes t s. record {
        only = λ e. let found = at exit.TooMany (λ w. cc) e in
            missed_now form bytes t exit.TooMany (which one words so sn form bytes exit.TooMany found.0 s.given found.1) s.task;
        always = λ miss memory write. same write
            ∙ (which_tells form bytes t a.found (which_now form bytes s.given) s.few s.task (λ e. memory (same write ∙ e))).missed exit.TooMany miss;
      };
      undelivered = λ form bytes t s. record {
        only = λ e. let found = at exit.NotDelivered (λ w. cc) e in
            missed_now form bytes t exit.NotDelivered (which one words so sn form bytes exit.NotDelivered found.0 s.given found.1) s.task;
        always = λ miss memory write. same write
            ∙ (which_tells form bytes t a.found (which_now form bytes s.given) s.few s.task (λ e. memory (same write ∙ e))).missed exit.NotDelivered miss;
      };
      ok = λ form bytes t s. record {
        only = λ e. let found = at exit.Ok (λ w. cc) e in
            ok_tells form bytes t s.task (which one words so sn form bytes exit.Ok found.0 s.given found.1);
        always = λ well memory write. same write
            ∙ (which_tells form bytes t a.found (which_now form bytes s.given) s.few s.task (λ e. memory (same write ∙ e))).well well;
      };
      load = λ seed turns form. load_cause one words so sn ko kn status a seed turns form;
      write = λ e. faulted status a.found a.text ko kn a.written e;
    }
