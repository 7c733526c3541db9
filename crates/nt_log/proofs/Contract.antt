-- What the contracts say, from the two laws.
use Rattle.std.proofs.Common.{◌≡◌, ◌∙◌, ℕ, ◌<◌, true, List, [], ◌∷◌, length, map, Result, Ok, Err, refl, ap, arith}
use Rattle.std.specs.Prelude.{IfOk}
use Rattle.std.specs.List.{AllByRecursion}
use Rattle.std.proofs.lemmas.Bool.{and_from, lt-ltb}
use Rattle.nt_text.specs.Lines.{line_of, lines}
use Rattle.nt_text.proofs.Rows.{lines_again, lines_takes}
use Rattle.nt_event.specs.declared.events.Turn.{Turn}
use Rattle.nt_event.specs.declared.events.Turn.TheVariants.{Next, Look, Switch}
use Rattle.nt_event.specs.declared.limits.TheConstants.{CPUS}
use Rattle.nt_event.specs.declared.scripts.Script.{Script}
use Rattle.nt_event.specs.Step.{cpu_at}
use Rattle.nt_script.specs.declared.reading.ScriptRefusal.{ScriptRefusal}
use Rattle.nt_script.specs.declared.walk.Input.{Input}
use Rattle.nt_script.specs.Gives.{GivesRead}
use Rattle.nt_script.specs.Sound.{IsSound}
use Rattle.nt_log.specs.declared.schedules.Schedule.{Schedule}
use Rattle.nt_log.specs.Reading.{reading, start, walk}
use Rattle.nt_log.specs.Schedules.{AreBelow, IsTextOf, TurnIsPlain, schedule_rows, turn_fits, turns_fit}
use Rattle.nt_log.proofs.Both.{walk_again, walk_takes}
use Rattle.nt_log.proofs.OneSchedule.{schedule_clean}

-- a turn that a text may have is of a processor below the greatest count
plain_below : (input : Input) (t : Turn) → TurnIsPlain input t → (cpu_at t).0 < CPUS
plain_below input (Next p) h = omega (arith, h)
plain_below input (Look p r) h = let le = h.0 in omega (arith, le)
plain_below input (Switch p t) h = let le = h.0 in omega (arith, le)

-- turns that a text may have are all of processors below the greatest count
all_below : (input : Input) (ts : List Turn) → AllByRecursion (TurnIsPlain input) ts → AreBelow CPUS ts
all_below input [] h = tt
all_below input (t ∷ ts) h = (plain_below input t h.0, all_below input ts h.1)

-- what is read is a schedule, and the bytes are its text
schedule_is_text : (bytes : List ℕ) (input : Input) (n : ℕ) (s : Schedule) → IsSound input → reading CPUS input n bytes ≡ Ok s → IsTextOf bytes input s
schedule_is_text bytes input n s sound e =
    let t = walk_takes CPUS n input (lines bytes) s (omega arith) sound e in
    record { sound = sound; plain = t.1; text = lines_takes bytes (schedule_rows input.names s) t.0 }

-- the text of a schedule is read as the schedule
pub text_is_read : (bytes : List ℕ) (input : Input) (n : ℕ) (s : Schedule) → IsTextOf bytes input s → reading CPUS input n bytes ≡ Ok s
text_is_read bytes input n s h =
    let rows = schedule_rows input.names s in
    let lines_are : lines bytes ≡ map line_of rows = ap lines h.text ∙ lines_again rows (schedule_clean input h.sound s h.plain) in
    ap (walk CPUS input start n) lines_are ∙ walk_again CPUS n input s h.sound h.plain (all_below input s.list h.plain.turns)

-- what a call that does what reading says finds is a schedule that the bytes are the text of
pub is_found : (bytes : List ℕ) (input : Input) (n : ℕ) (r : Result Schedule ScriptRefusal) → IsSound input → GivesRead r (reading CPUS input n bytes) →
    IfOk r (IsTextOf bytes input)
is_found bytes input n (Ok s) sound h = schedule_is_text bytes input n s sound h
is_found bytes input n (Err e) sound h = tt

-- turns that a text may have fit the script
plain_fits : (input : Input) (ts : List Turn) → AllByRecursion (TurnIsPlain input) ts → turns_fit input.script ts ≡ true
plain_fits input [] h = refl
plain_fits input (t ∷ ts) h = and_from (turn_fits input.script t) (turns_fit input.script ts) (one t h.0) (plain_fits input ts h.1)
  where
    one : (t : Turn) → TurnIsPlain input t → turn_fits input.script t ≡ true
    one (Next p) k = refl
    one (Look p r) k = refl
    one (Switch p t) k = lt-ltb t.0 (length input.script.threads) k.1

-- what is read fits the script
pub is_fit : (bytes : List ℕ) (input : Input) (n : ℕ) (r : Result Schedule ScriptRefusal) → IsSound input → GivesRead r (reading CPUS input n bytes) →
    IfOk r (λ s. turns_fit input.script s.list ≡ true)
is_fit bytes input n (Ok s) sound h = plain_fits input s.list (schedule_is_text bytes input n s sound h).plain.turns
is_fit bytes input n (Err e) sound h = tt
