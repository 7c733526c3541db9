-- The text of a witness is read again as its schedule.
use Rattle.std.proofs.Common.{ap, reverse, subst, sym}
use Rattle.std.proofs.lemmas.List.{reverse-reverse}
use Rattle.std.specs.Prelude.{List, [], length, map, ℕ, ◌++◌, ◌∷◌, ◌≡◌, ◌≤◌}
use Rattle.nt_core.proofs.Replaying.{replays_run}
use Rattle.nt_event.specs.declared.events.Event.{Event}
use Rattle.nt_event.specs.declared.events.History.{History}
use Rattle.nt_event.specs.declared.events.Turn.{Turn}
use Rattle.nt_event.specs.declared.events.What.{What}
use Rattle.nt_event.specs.declared.events.What.TheVariants.{Look}
use Rattle.nt_event.specs.declared.numbers.CpuNo.{CpuNo}
use Rattle.nt_event.specs.Step.{IsRun, turn_at, turn_of}
use Rattle.nt_ask.specs.declared.reading.Asked.{Asked}
use Rattle.nt_log.specs.declared.schedules.Schedule.{Schedule}
use Rattle.nt_log.specs.Schedules.{IsPlain, IsTextOf, schedule_of, schedule_text}
use Rattle.nt_log.proofs.Contract.{text_is_read}
use Rattle.nt_ranges.specs.Looks.{LookIsWhole, LooksAreWhole}
use Rattle.nt_ranges.specs.Plain.{IsRunOf}
use Rattle.nt_ranges.proofs.Reports.{its_schedule_is_plain}
use Rattle.nt_ranges.proofs.Sizes.{texts_fit_the_input}
use Rattle.nt_script.specs.declared.walk.Input.{Input}
use Rattle.nt_script.specs.Sound.{IsSound}
use Rattle.nt_script.specs.Text.{text as script_text}
use Rattle.nt_text.specs.declared.lines.TheConstants.{INPUT_LIMIT}
use Rattle.nt_witness.specs.Witnesses.{IsWitness}
use Rattle.nt_lab.specs.Looks.{TurnIsWhole, TurnsAreWhole}
use Rattle.nt_lab.specs.Outcome.{IsWritten}
use Rattle.nt_lab.specs.Witnesses.{IsWitnessOf, expected}

-- an action whose turn has a value for each class, where it is a look, has one too
look_whole : (p : CpuNo) (w : What) → TurnIsWhole (turn_at p w) → LookIsWhole w
look_whole p (Look rises) whole = whole
look_whole p w whole = tt

-- events whose turns have a value for each class have looks with one
looks_whole : (events : List Event) → TurnsAreWhole (map turn_of events) → LooksAreWhole events
looks_whole [] whole = tt
looks_whole (e ∷ events) whole = (look_whole e.cpu e.what whole.0, looks_whole events whole.1)

-- a run of the input's script, whose schedule is this one
record RunOf (input : Input) (w : Schedule) : Type 0 where
  history : History
  run : IsRunOf input history
  schedule_is : schedule_of history ≡ w

-- the schedule of a witness whose looks are whole is that of a run of the input's script
run_of_witness : (input : Input) (h : List Event) (w : Schedule) → IsSound input → TurnsAreWhole w.list → IsWitness input.script h w → RunOf input w
run_of_witness input h w sound whole is =
    let replay = replays_run input.script w.turns w.list is.history is.replay in
    let back : reverse (reverse is.history) ≡ is.history = reverse-reverse is.history in
    record {
      history = record { turns = w.turns; events = reverse is.history };
      run = record {
        sound = sound;
        limit = is.limit;
        run = subst (IsRun input.script w.turns) (sym back) replay.run;
        looks = looks_whole (reverse is.history) (subst TurnsAreWhole (sym replay.turns_are) whole);
      };
      schedule_is = ap (λ (list : List Turn). made w.turns list) replay.turns_are;
    }
  where
    made : ℕ → List Turn → Schedule
    made turns list = record { turns = turns; list = list }

-- a witness whose looks are whole is one that a text may have
plain_witness : (input : Input) (w : Schedule) → RunOf input w → IsPlain input w
plain_witness input w r = subst (IsPlain input) r.schedule_is (its_schedule_is_plain input r.history r.run)

-- behind the script's text its text is short enough for an input
short_witness : (input : Input) (w : Schedule) → RunOf input w → length (script_text input ++ schedule_text input w) ≤ INPUT_LIMIT
short_witness input w r =
    subst (λ (v : Schedule). length (script_text input ++ schedule_text input v) ≤ INPUT_LIMIT) r.schedule_is
    (texts_fit_the_input input r.history r.run).schedule

-- the text of a witness whose looks are whole is read as it
pub witness_is_written : (asked : Asked) (number : ℕ) (w : Schedule) (text : List ℕ) → IsSound asked.input → TurnsAreWhole w.list →
    IsWitnessOf asked.input.script (expected asked number) w → text ≡ schedule_text asked.input w → IsWritten asked number text
witness_is_written asked number w text sound whole is e =
    let input = asked.input in
    let run = run_of_witness input is.history w sound whole is.replay in
    let written : IsTextOf text input w = record { sound = sound; plain = plain_witness input w run; text = e } in
    record {
      schedule = w;
      is = is;
      written = written;
      short = subst (λ (bytes : List ℕ). length (script_text input ++ bytes) ≤ INPUT_LIMIT) (sym e) (short_witness input w run);
      read = λ line. text_is_read text input line w written;
    }
