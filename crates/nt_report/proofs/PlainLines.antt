-- What is read of the lines: plain events, and a schedule that is plain for the processors of the script.
use lib.Dec.{ltb}
use Rattle.std.proofs.Common.{◌≡◌, ℕ, ◌+◌, ◌<◌, ◌≤◌, ◌⊎◌, inl, inr, Bool, true, false, List, [], ◌∷◌, ◌++◌, length, Result, Ok, Err, refl, sym, ◌∙◌, ap, subst}
use Rattle.std.proofs.Common.{arith}
use Rattle.std.specs.Prelude.{nat_lt, if◌then◌else◌}
use Rattle.std.specs.List.{AllByRecursion}
use Rattle.std.proofs.lemmas.Bool.{cond-true, lt-ltb}
use Rattle.nt_text.specs.declared.kind.ScriptKind.{ScriptKind}
use Rattle.nt_text.specs.Lines.{Row, first, rest, row_of}
use Rattle.nt_event.specs.declared.limits.TheConstants.{EVENTS}
use Rattle.nt_event.specs.declared.numbers.CpuNo.{CpuNo}
use Rattle.nt_event.specs.declared.numbers.LockNo.{LockNo}
use Rattle.nt_line.specs.declared.names.Named.{Named}
use Rattle.nt_line.specs.Results.{◌>>=◌}
use Rattle.nt_script.specs.declared.walk.Input.{Input}
use Rattle.nt_script.specs.Reading.{counted, go_on}
use Rattle.nt_script.specs.Sound.{IsSound}
use Rattle.nt_log.specs.declared.schedules.Schedule.{Schedule}
use Rattle.nt_log.specs.declared.walk.ScheduleWalk.{ScheduleWalk}
use Rattle.nt_log.specs.Reading.{start as schedule_start, line_step as schedule_line, finish as schedule_finish, walk as schedule_walk}
use Rattle.nt_log.specs.Schedules.{AreBelow, IsPlain as IsPlainSchedule}
use Rattle.nt_log.proofs.Both.{walk_takes}
use Rattle.nt_print.specs.Conditions.{EventIsPlain}
use Rattle.nt_print.proofs.OneEvent.{Known, known}
use Rattle.nt_report.specs.declared.events.EventLine.{EventLine}
use Rattle.nt_report.specs.declared.places.LineWord.{LineWord}
use Rattle.nt_report.specs.declared.places.LineWord.TheVariants as word
use Rattle.nt_report.specs.declared.places.ReportPlace.{ReportPlace}
use Rattle.nt_report.specs.declared.places.ReportPlace.TheVariants.{Start, InEvents, InCuts, InSpins, InWaits, InSchedule}
use Rattle.nt_report.specs.declared.walk.Parts.{Parts}
use Rattle.nt_report.specs.Events.{event_line}
use Rattle.nt_report.specs.Walked.{Walked}
use Rattle.nt_report.specs.Reading.{act, and_then, cut_line, finish, front_step, kept, line_step, line_word, schedule_step, spins_line, start, step_at}
use Rattle.nt_report.specs.Reading.{waits_line, walk, with_event, with_place, with_schedule, word_at}
use Rattle.nt_report.proofs.Steps.{made, ok, through}
use Rattle.nt_report.proofs.PlainEvents.{event_line_plain}

abbrev pub TextLine : Type 0
TextLine = List ℕ × Bool

-- ---- lists

-- what holds of all elements of a list and of one more holds of all of the list with it at the end
pub all_more : {X : Type 0} (P : X → Type 0) (xs : List X) (x : X) → AllByRecursion P xs → P x → AllByRecursion P (xs ++ x ∷ [])
all_more P [] x h p = (p, tt)
all_more P (y ∷ xs) x h p = (h.0, all_more P xs x h.1 p)

-- a list with one element more at the end is one longer
pub more_length : {X : Type 0} (xs : List X) (x : X) → length (xs ++ x ∷ []) ≡ length xs + 1
more_length [] x = refl
more_length (y ∷ xs) x = let more = more_length xs x in omega (arith, more)

-- ---- one line

-- what is kept of the event lines is one more at most
kept_few : (lines : List EventLine) (line : EventLine) → length (kept lines line) ≤ length lines + 1
kept_few lines line = go (nat_lt (length lines) EVENTS)
  where
    go : (b : Bool) → length (if b then lines ++ line ∷ [] else lines) ≤ length lines + 1
    go true = let more = more_length lines line in omega (arith, more)
    go false = omega arith

-- a line is kept behind the others while there are fewer lines than the bound of events
pub kept_room : (lines : List EventLine) (line : EventLine) → length lines < EVENTS → kept lines line ≡ lines ++ line ∷ []
kept_room lines line room = cond-true (ltb (length lines) EVENTS) (lines ++ line ∷ []) lines (lt-ltb (length lines) EVENTS room)

abbrev pub LineIsPlain : Input → EventLine → Type 0
LineIsPlain input line = EventIsPlain input line.event

abbrev pub AllPlain : Input → List EventLine → Type 0
AllPlain input lines = AllByRecursion (LineIsPlain input) lines

-- keeping a plain event line after plain ones leaves all of them plain
kept_plain : (input : Input) (lines : List EventLine) (line : EventLine) → LineIsPlain input line → AllPlain input lines → AllPlain input (kept lines line)
kept_plain input lines line one all = go (nat_lt (length lines) EVENTS)
  where
    go : (b : Bool) → AllPlain input (if b then lines ++ line ∷ [] else lines)
    go true = all_more (LineIsPlain input) lines line all one
    go false = all

-- the part of the schedule
abbrev pub in_schedule : ReportPlace → Bool
in_schedule InSchedule = true
in_schedule _ = false

-- what a line leaves of the event lines, and of the schedule: it was a line before the schedule, or one of it
pub record Taken (input : Input) (w : Walked) (line : TextLine) (new : Walked) : Type 0 where
  pub few : length new.lines ≤ length w.lines + 1
  pub plain : AllPlain input w.lines → AllPlain input new.lines
  pub part : ((in_schedule new.place ≡ false) × (new.schedule ≡ w.schedule)) ⊎
      ((s : ScheduleWalk) × (schedule_line input.script.cpus input w.schedule line ≡ Ok s) × (new ≡ with_schedule w s))

-- a line that only moves the place before the schedule leaves the event lines and the schedule
same_lines : (input : Input) (w : Walked) (line : TextLine) (place : ReportPlace) → in_schedule place ≡ false → Taken input w line (with_place w place)
same_lines input w line place h = record { few = omega arith; plain = λ p. p; part = inl (h, refl) }

-- a line of the schedule leaves the event lines, and makes the schedule's step
schedule_taken : (input : Input) (w : Walked) (line : TextLine) (new : Walked) → schedule_step input w line ≡ Ok new → Taken input w line new
schedule_taken input w line new e =
    through (Taken input w line) (schedule_line input.script.cpus input w.schedule line) (λ (s : ScheduleWalk). ok (with_schedule w s)) new e
    (λ s is so. made (Taken input w line) (with_schedule w s) new so
    (record { few = omega arith; plain = λ p. p; part = inr (s, is, refl) }))

-- what a line with a known first word does before the schedule keeps event lines plain
act_taken : (input : Input) → Known input → (w : Walked) (word : LineWord) (row : Row) (line : TextLine) (new : Walked) → in_schedule w.place ≡ false →
    act input w word row line ≡ Ok new → Taken input w line new
act_taken input k w word.Report row line new h e =
    through (Taken input w line) (counted (length (rest row)) 0) (λ (b : Bool). ok (with_place w InEvents)) new e
    (λ b is so. made (Taken input w line) (with_place w InEvents) new so (same_lines input w line InEvents refl))
act_taken input k w word.Event row line new h e =
    through (Taken input w line) (event_line input (first row) (rest row)) (λ (l : EventLine). ok (with_event w l)) new e
    (λ l is so.
    let plain = event_line_plain input k (first row) (rest row) l is in
    made (Taken input w line) (with_event w l) new so
    (record {
      few = kept_few w.lines l;
      plain = λ p. kept_plain input w.lines l plain p;
      part = inl (h, refl);
    }))
act_taken input k w word.Cut row line new h e =
    through (Taken input w line) (cut_line input.script.cpus (rest row)) (λ (p : CpuNo). ok (with_place w InCuts)) new e
    (λ p is so. made (Taken input w line) (with_place w InCuts) new so (same_lines input w line InCuts refl))
act_taken input k w word.Spins row line new h e =
    through (Taken input w line) (spins_line input.names input.script.cpus (rest row)) (λ (l : LockNo). ok (with_place w InSpins)) new e
    (λ l is so. made (Taken input w line) (with_place w InSpins) new so (same_lines input w line InSpins refl))
act_taken input k w word.Waits row line new h e =
    through (Taken input w line) (waits_line input.names (rest row)) (λ (x : Named). ok (with_place w InWaits)) new e
    (λ x is so. made (Taken input w line) (with_place w InWaits) new so (same_lines input w line InWaits refl))
act_taken input k w word.Schedule row line new h e = schedule_taken input w line new e

-- a line that is read in the front of the report keeps event lines plain
front_taken : (input : Input) → Known input → (w : Walked) (line : TextLine) (new : Walked) → in_schedule w.place ≡ false → front_step input w line ≡ Ok new →
    Taken input w line new
front_taken input k w line new h e =
    through (Taken input w line) (row_of line) (λ (row : Row). word_at w.place (line_word (first row)) >>= λ word. act input w word row line) new e
    (λ row is so. through (Taken input w line) (word_at w.place (line_word (first row))) (λ (word : LineWord). act input w word row line) new so
    (λ word is' so'. act_taken input k w word row line new h so'))

-- a line that the reader takes adds at most one plain event, or is a line of the schedule
pub step_taken : (input : Input) → Known input → (w : Walked) (line : TextLine) (new : Walked) → line_step input w line ≡ Ok new → Taken input w line new
step_taken input k w line new e = go w.place refl e
  where
    go : (p : ReportPlace) → w.place ≡ p → step_at p input w line ≡ Ok new → Taken input w line new
    go InSchedule is e = schedule_taken input w line new e
    go Start is e = front_taken input k w line new (ap in_schedule is) e
    go InEvents is e = front_taken input k w line new (ap in_schedule is) e
    go InCuts is e = front_taken input k w line new (ap in_schedule is) e
    go InSpins is e = front_taken input k w line new (ap in_schedule is) e
    go InWaits is e = front_taken input k w line new (ap in_schedule is) e

-- ---- all lines

-- if two steps in a row succeed, what the second one gives has what each of its results has
then_ok : {A B : Type 0} (P : B → Type 0) (r : Result A (ℕ × ScriptKind)) (f : A → Result B (ℕ × ScriptKind)) (y : B) → and_then r f ≡ Ok y →
    ((x : A) → r ≡ Ok x → f x ≡ Ok y → P y) → P y
then_ok P (Ok x) f y e k = k x refl e
then_ok P (Err bad) f y e k = absurd cc

abbrev done : {A : Type 0} → A → Result A (ℕ × ScriptKind)
done x = Ok x

-- what holds of a result holds of what a step that ends with it gives
done_is : {A : Type 0} (P : A → Type 0) (x y : A) → done x ≡ Ok y → P x → P y
done_is P x y e h = let same : x ≡ y = cc in subst P same h

abbrev parts_of : List EventLine → Schedule → Parts
parts_of lines schedule = record { lines = lines; schedule = schedule }

-- at the end
finish_takes : (w : Walked) (n : ℕ) (parts : Parts) → finish w n ≡ Ok parts → (parts.lines ≡ w.lines) ×
    (schedule_finish w.schedule.place w.schedule.schedule n ≡ Ok parts.schedule)
finish_takes w n parts e =
    let P : Parts → Type 0 = λ parts. (parts.lines ≡ w.lines) × (schedule_finish w.schedule.place w.schedule.schedule n ≡ Ok parts.schedule) in
    then_ok P (schedule_finish w.schedule.place w.schedule.schedule n) (λ (s : Schedule). done (parts_of w.lines s)) parts e
    (λ s is so. done_is P (parts_of w.lines s) parts so (refl, is))

-- the reading went on behind a line
pub record Went (input : Input) (w : Walked) (n : ℕ) (line : TextLine) (more : List TextLine) (parts : Parts) : Type 0 where
  pub new : Walked
  pub step : line_step input w line ≡ Ok new
  pub goes_on : walk input new (n + 1) more ≡ Ok parts

-- a reading of several lines that succeeds takes the first one and then the others
pub went : (input : Input) (w : Walked) (n : ℕ) (line : TextLine) (more : List TextLine) (parts : Parts) → walk input w n (line ∷ more) ≡ Ok parts →
    Went input w n line more parts
went input w n line more parts e = go (line_step input w line) refl e
  where
    go : (r : Result Walked ScriptKind) → line_step input w line ≡ r → go_on n r (λ new. walk input new (n + 1) more) ≡ Ok parts →
        Went input w n line more parts
    go (Ok new) is e = record { new = new; step = is; goes_on = e }
    go (Err kind) is e = absurd cc

-- the event lines are plain, and not more than the lines
pub lines_plain : (input : Input) → Known input → (w : Walked) (n : ℕ) (ls : List TextLine) (parts : Parts) → walk input w n ls ≡ Ok parts →
    AllPlain input w.lines → AllPlain input parts.lines × (length parts.lines ≤ length w.lines + length ls)
lines_plain input k w n [] parts e h =
    let f = finish_takes w n parts e in
    (subst (AllPlain input) (sym f.0) h, let same = ap (λ (xs : List EventLine). length xs) f.0 in omega (arith, same))
lines_plain input k w n (line ∷ more) parts e h =
    let g = went input w n line more parts e in
    let t = step_taken input k w line g.new g.step in
    let r = lines_plain input k g.new (n + 1) more parts g.goes_on (t.plain h) in
    let few = t.few in
    (r.0, omega (arith, r.1, few))

-- the lines from one on are a schedule
pub IsReadAs : Input → Schedule → Type 0
IsReadAs input s = (n : ℕ) × (ls : List TextLine) × (schedule_walk input.script.cpus input schedule_start n ls ≡ Ok s)

-- inside the schedule
inside : (input : Input) (w : Walked) (n : ℕ) (ls : List TextLine) (parts : Parts) → in_schedule w.place ≡ true → walk input w n ls ≡ Ok parts →
    schedule_walk input.script.cpus input w.schedule n ls ≡ Ok parts.schedule
inside input w n [] parts h e = (finish_takes w n parts e).1
inside input w n (line ∷ more) parts h e =
    let g = went input w n line more parts e in
    let P : Walked → Type 0 = λ new. walk input new (n + 1) more ≡ Ok parts → schedule_walk input.script.cpus input w.schedule n (line ∷ more)
    ≡ Ok parts.schedule in
    through P (schedule_line input.script.cpus input w.schedule line) (λ (s : ScheduleWalk). ok (with_schedule w s)) g.new (at w.place h g.step)
    (λ s is so. made P (with_schedule w s) g.new so
    (λ goes_on. rw is (inside input (with_schedule w s) (n + 1) more parts refl goes_on))) g.goes_on
  where
    at : (p : ReportPlace) → in_schedule p ≡ true → {new : Walked} → step_at p input w line ≡ Ok new → schedule_step input w line ≡ Ok new
    at InSchedule h e = e
    at Start h e = absurd cc
    at InEvents h e = absurd cc
    at InCuts h e = absurd cc
    at InSpins h e = absurd cc
    at InWaits h e = absurd cc

-- before it
before : (input : Input) → Known input → (w : Walked) (n : ℕ) (ls : List TextLine) (parts : Parts) → w.schedule ≡ schedule_start →
    in_schedule w.place ≡ false → walk input w n ls ≡ Ok parts → IsReadAs input parts.schedule
unfolding IsReadAs
before input k w n [] parts s h e =
    let f = (finish_takes w n parts e).1 in
    let none : schedule_finish schedule_start.place schedule_start.schedule n ≡ Ok parts.schedule =
    subst (λ (x : ScheduleWalk). schedule_finish x.place x.schedule n ≡ Ok parts.schedule) s f in
    absurd cc
before input k w n (line ∷ more) parts s h e =
    let g = went input w n line more parts e in
    go g.new g.goes_on (λ st out. before input k g.new (n + 1) more parts st out g.goes_on) (step_taken input k w line g.new g.step).part
  where
    go : (new : Walked) → walk input new (n + 1) more ≡ Ok parts → (new.schedule ≡ schedule_start → in_schedule new.place ≡ false →
        IsReadAs input parts.schedule) → ((in_schedule new.place ≡ false) × (new.schedule ≡ w.schedule)) ⊎
        ((s : ScheduleWalk) × (schedule_line input.script.cpus input w.schedule line ≡ Ok s) × (new ≡ with_schedule w s)) →
        IsReadAs input parts.schedule
    go new e again (inl stays) = again (stays.1 ∙ s) stays.0
    go new e again (inr enters) =
        let now : walk input (with_schedule w enters.0) (n + 1) more ≡ Ok parts = subst (λ (x : Walked). walk input x (n + 1) more ≡ Ok parts) enters.2 e in
        let rest = inside input (with_schedule w enters.0) (n + 1) more parts refl now in
        let step : schedule_line input.script.cpus input schedule_start line ≡ Ok enters.0 =
        subst (λ (x : ScheduleWalk). schedule_line input.script.cpus input x line ≡ Ok enters.0) s enters.1 in
        (n, line ∷ more, rw step rest)

-- the parts of a report
pub record PartsArePlain (input : Input) (parts : Parts) : Type 0 where
  pub lines : AllPlain input parts.lines
  pub schedule : IsPlainSchedule input parts.schedule
  pub below : AreBelow input.script.cpus parts.schedule.list

-- the parts that are read are plain, and the event lines are no more than the lines
pub parts_plain : (input : Input) → IsSound input → (n : ℕ) (ls : List TextLine) (parts : Parts) → walk input start n ls ≡ Ok parts →
    PartsArePlain input parts × (length parts.lines ≤ length ls)
unfolding IsReadAs
parts_plain input sound n ls parts e =
    let k = known input sound in
    let l = lines_plain input k start n ls parts e tt in
    let b = before input k start n ls parts refl refl e in
    let most = k.fit.cpus.1 in
    let t = walk_takes input.script.cpus b.0 input b.1 parts.schedule (omega (arith, most)) sound b.2 in
    (record { lines = l.0; schedule = t.1; below = t.2 }, omega (arith, l.1))
