-- The history that is made of plain parts is plain.
use Rattle.std.proofs.Common.{◌≡◌, ℕ, suc, ◌+◌, ◌<◌, Bool, true, false, cond, List, [], ◌∷◌, ◌++◌, length, Result, Ok, Err, refl, ap, subst, arith}
use Rattle.std.specs.Prelude.{◌==◌}
use Rattle.std.specs.List.{AllByRecursion}
use Rattle.std.proofs.lemmas.Bool.{lt-ltb}
use Rattle.nt_text.specs.declared.kind.ScriptKind.{ScriptKind}
use Rattle.nt_text.specs.declared.kind.ScriptKind.TheVariants.{WrongKind}
use Rattle.nt_event.specs.declared.events.Event.{Event}
use Rattle.nt_event.specs.declared.events.History.{History}
use Rattle.nt_event.specs.declared.events.Rises.{Rises}
use Rattle.nt_event.specs.declared.events.Turn.{Turn}
use Rattle.nt_event.specs.declared.events.Turn.TheVariants.{Look, Next, Switch}
use Rattle.nt_event.specs.declared.numbers.CpuNo.{CpuNo}
use Rattle.nt_script.specs.declared.walk.Input.{Input}
use Rattle.nt_log.specs.Schedules.{AreBelow, AreRises, TurnIsPlain}
use Rattle.nt_print.specs.Conditions.{EventIsPlain, IsPlain}
use Rattle.nt_report.specs.declared.events.EventLine.{EventLine}
use Rattle.nt_report.specs.declared.walk.Parts.{Parts}
use Rattle.nt_report.specs.Reading.{and_then, events_of, history_of, look_event}
use Rattle.nt_report.proofs.PlainLines.{AllPlain, PartsArePlain, all_more}

abbrev AreEvents : Input → List Event → Type 0
AreEvents input events = AllByRecursion (EventIsPlain input) events

-- a look of a processor of the script, with values that are in range, is a plain event
look_plain : (input : Input) (p : CpuNo) (rises : Rises) → p.0 < input.script.cpus → AreRises input.version rises → EventIsPlain input (look_event p rises)
look_plain input p rises lt r = (rw (lt-ltb p.0 input.script.cpus lt) refl, (omega arith, r, (refl, refl)))

-- a list of events with one more put at its end is one longer
more_length : (xs : List Event) (x : Event) → length (xs ++ x ∷ []) ≡ length xs + 1
more_length [] x = refl
more_length (y ∷ xs) x = let more = more_length xs x in omega (arith, more)

-- one event line is taken
taken : (input : Input) (events : List Event) (line : EventLine) (turns : List Turn) (lines : List EventLine) (at : ℕ) (all : List Event) →
    (events_of (events ++ line.event ∷ []) turns lines (at + 1) ≡ Ok all → AreEvents input all ×
    (length all ≡ length (events ++ line.event ∷ []) + length turns)) → (same : Bool) →
    cond same (events_of (events ++ line.event ∷ []) turns lines (at + 1)) (Err (at, WrongKind)) ≡ Ok all → AreEvents input all ×
    (length all ≡ length events + suc (length turns))
taken input events line turns lines at all more true e =
    let r = more e in let long = more_length events line.event in (r.0, omega (arith, r.1, long))
taken input events line turns lines at all more false e = absurd cc

-- the events of plain turns and plain lines
pub events_plain : (input : Input) (events : List Event) (turns : List Turn) (lines : List EventLine) (at : ℕ) (all : List Event) →
    events_of events turns lines at ≡ Ok all → AreEvents input events → AllByRecursion (TurnIsPlain input) turns →
    AreBelow input.script.cpus turns → AllPlain input lines → AreEvents input all × (length all ≡ length events + length turns)
events_plain input events [] lines at all e h t b l =
    let same : events ≡ all = cc in
    (subst (AreEvents input) same h, let long = ap (λ (xs : List Event). length xs) same in omega (arith, long))
events_plain input events (Look p rises ∷ turns) lines at all e h t b l =
    let r = events_plain input (events ++ look_event p rises ∷ []) turns lines at all e
    (all_more (EventIsPlain input) events (look_event p rises) h (look_plain input p rises b.0 t.0.1)) t.1 b.1 l in
    let more = more_length events (look_event p rises) in
    (r.0, omega (arith, r.1, more))
events_plain input events (Next p ∷ turns) [] at all e h t b l = absurd cc
events_plain input events (Switch p thread ∷ turns) [] at all e h t b l = absurd cc
events_plain input events (Next p ∷ turns) (line ∷ lines) at all e h t b l =
    taken input events line turns lines at all (λ now. events_plain input (events ++ line.event ∷ []) turns lines (at + 1) all now
    (all_more (EventIsPlain input) events line.event h l.0) t.1 b.1 l.1) (line.number == length events) e
events_plain input events (Switch p thread ∷ turns) (line ∷ lines) at all e h t b l =
    taken input events line turns lines at all (λ now. events_plain input (events ++ line.event ∷ []) turns lines (at + 1) all now
    (all_more (EventIsPlain input) events line.event h l.0) t.1 b.1 l.1) (line.number == length events) e

-- the history of plain parts
pub history_plain : (input : Input) (parts : Parts) (n : ℕ) (h : History) → PartsArePlain input parts → history_of parts n ≡ Ok h → IsPlain input h
history_plain input parts n h p e = go (events_of [] parts.schedule.list parts.lines (n + 1)) refl e
  where
    go : (r : Result (List Event) (ℕ × ScriptKind)) → events_of [] parts.schedule.list parts.lines (n + 1) ≡ r →
        and_then r (λ events. Ok (record { turns = parts.schedule.turns; events = events })) ≡ Ok h → IsPlain input h
    go (Err bad) is e = absurd cc
    go (Ok events) is e =
        let q = events_plain input [] parts.schedule.list parts.lines (n + 1) events is tt p.schedule.turns p.below p.lines in
        let few = p.schedule.few in
        let P : History → Type 0 = λ h. IsPlain input h in
        let same : record { turns = parts.schedule.turns; events = events } ≡ h = cc in
        subst P same (record { events = q.0; few = omega (arith, few, q.1); limit = p.schedule.limit })
