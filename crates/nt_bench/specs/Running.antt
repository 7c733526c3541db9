-- What is replied with a run that a text shows.
use Rattle.std.specs.Prelude.{◌≡◌, ℕ, Bool, List, Option, false, reverse, true}
use Rattle.std.specs.Prelude.{unwrap_or}
use Rattle.nt_ask.specs.declared.answer.Status.{Status}
use Rattle.nt_ask.specs.declared.answer.Status.TheVariants as exit
use Rattle.nt_draw.specs.declared.span.Span.{Span}
use Rattle.nt_draw.specs.Tags.{IsDocument}
use Rattle.nt_event.specs.declared.limits.TheConstants.{EVENTS}
use Rattle.nt_friendly.specs.Text.{strict_text}
use Rattle.nt_lab.specs.Replies.{memory_line}
use Rattle.nt_lab_words.specs.declared.words.How.{How}
use Rattle.nt_left.specs.declared.kinds.Left.{Left}
use Rattle.nt_left.specs.Items.{left_of}
use Rattle.nt_left.specs.Lines.{left_text}
use Rattle.nt_log.specs.Schedules.{schedule_of, schedule_text}
use Rattle.nt_people.specs.declared.fault.Fault.TheVariants as fault
use Rattle.nt_script.specs.Sound.{IsSound}
use Rattle.nt_shown.specs.declared.refusal.ShownRefusal.{ShownRefusal}
use Rattle.nt_shown.specs.declared.refusal.ShownRefusal.TheVariants as refusal
use Rattle.nt_shown.specs.declared.showing.ShownRun.{ShownRun}
use Rattle.nt_shown.specs.Shown.{IsShown, IsUnshown, IsWhole}
use Rattle.nt_bench.specs.declared.friendly.Friendly.{Friendly}
use Rattle.nt_bench.specs.declared.running.Shape.{Shape}
use Rattle.nt_bench.specs.declared.running.Shape.TheVariants as shape
use Rattle.nt_bench.specs.Friendly.{IsRefusalText}

-- the script is sound, and the run is a settled run of it
pub record IsAnyRun (r : ShownRun) : Type 0 where
  pub sound : IsSound r.input
  pub whole : IsWhole r.input r.gone

-- a message on the line that is refused, if one is; on a turn or an event it is in words
abbrev pub IsToldOf : Friendly → ShownRefusal → List ℕ → Type 0
IsToldOf f (refusal.Script line kind) text = IsRefusalText f line (fault.Script kind) exit.Refused text
IsToldOf f (refusal.Schedule line kind) text = IsRefusalText f line (fault.Schedule kind) exit.Refused text
IsToldOf f (refusal.Report line kind) text = IsRefusalText f line (fault.Report kind) exit.Refused text
IsToldOf f (refusal.Turn at kind) text = Unit {0}
IsToldOf f (refusal.Event n) text = Unit {0}
IsToldOf f refusal.NoMemory text = ⊥

-- the text shows no run, and why is told
abbrev pub IsRefusedIn : Friendly → List ℕ → Type 0
IsRefusedIn f text = (r : ShownRefusal) × IsUnshown (strict_text f.bytes.now) r × IsToldOf f r text

-- where it shows none
abbrev pub IsUnshownReply : Friendly → Status → List ℕ → Type 0
IsUnshownReply f exit.Refused text = IsRefusedIn f text
IsUnshownReply f exit.Memory text = text ≡ memory_line
IsUnshownReply f exit.Ok text = ⊥
IsUnshownReply f exit.Fails text = ⊥
IsUnshownReply f exit.Unknown text = ⊥
IsUnshownReply f exit.NoExpectation text = ⊥
IsUnshownReply f exit.NoWitness text = ⊥
IsUnshownReply f exit.TooManyTurns text = ⊥
IsUnshownReply f exit.Usage text = ⊥
IsUnshownReply f exit.Read text = ⊥
IsUnshownReply f exit.Write text = ⊥
IsUnshownReply f exit.TooLong text = ⊥

-- what `run` writes: a report, or a schedule
abbrev pub run_shape : Bool → Shape
run_shape false = shape.Report
run_shape true = shape.Schedule

-- the events from this one to that one, else from the first or to the last
abbrev pub span_of : Option ℕ → Option ℕ → Span
span_of since until = record { from = unwrap_or since 0; to = unwrap_or until EVENTS }

-- what `draw` writes: a picture, or lines
abbrev pub draw_shape : Option ℕ → Option ℕ → Bool → Shape
draw_shape since until false = shape.Picture (span_of since until)
draw_shape since until true = shape.Lines (span_of since until)

-- what is left at the end of the run, in its order
abbrev pub left_in : ShownRun → List Left
left_in r = left_of r.input.script r.gone.history.turns (reverse r.gone.history.events)

-- A schedule is that of the run, what is left is all of it, and a picture is well-formed. Other texts are in words.
abbrev pub IsTextOf : Shape → ShownRun → List ℕ → Type 0
IsTextOf shape.Report r text = Unit {0}
IsTextOf shape.Schedule r text = text ≡ schedule_text r.input (schedule_of r.gone.history)
IsTextOf shape.Left r text = text ≡ left_text r.input (left_in r)
IsTextOf (shape.Picture span) r text = IsDocument text
IsTextOf (shape.Lines span) r text = Unit {0}
IsTextOf (shape.Reasons thing after) r text = Unit {0}

-- what is replied with a run
abbrev pub IsRunReply : Shape → ShownRun → Status → List ℕ → Type 0
IsRunReply form r exit.Ok text = IsTextOf form r text
IsRunReply form r exit.Memory text = text ≡ memory_line
IsRunReply form r exit.Refused text = ⊥
IsRunReply form r exit.Fails text = ⊥
IsRunReply form r exit.Unknown text = ⊥
IsRunReply form r exit.NoExpectation text = ⊥
IsRunReply form r exit.NoWitness text = ⊥
IsRunReply form r exit.TooManyTurns text = ⊥
IsRunReply form r exit.Usage text = ⊥
IsRunReply form r exit.Read text = ⊥
IsRunReply form r exit.Write text = ⊥
IsRunReply form r exit.TooLong text = ⊥

-- the text shows this run, and what is written is of it
pub record IsOfShown (how : How) (form : Shape) (f : Friendly) (text : List ℕ) : Type 0 where
  pub run : ShownRun
  pub shown : IsShown (strict_text f.bytes.now) how run
  pub written : IsTextOf form run text

-- what is replied of a run that is made so: what the text shows, or why it shows none
abbrev pub IsShownReply : How → Shape → Friendly → Status → List ℕ → Type 0
IsShownReply how form f exit.Ok text = IsOfShown how form f text
IsShownReply how form f exit.Refused text = IsRefusedIn f text
IsShownReply how form f exit.Memory text = text ≡ memory_line
IsShownReply how form f exit.Fails text = ⊥
IsShownReply how form f exit.Unknown text = ⊥
IsShownReply how form f exit.NoExpectation text = ⊥
IsShownReply how form f exit.NoWitness text = ⊥
IsShownReply how form f exit.TooManyTurns text = ⊥
IsShownReply how form f exit.Usage text = ⊥
IsShownReply how form f exit.Read text = ⊥
IsShownReply how form f exit.Write text = ⊥
IsShownReply how form f exit.TooLong text = ⊥
