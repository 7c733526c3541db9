-- What is replied with a run that a text shows.
use Rattle.std.proofs.Common.{inl, inr}
use Rattle.std.specs.Prelude.{◌≡◌, List, true, ℕ}
use Rattle.nt_ask.specs.declared.answer.Status.{Status}
use Rattle.nt_ask.specs.declared.answer.Status.TheVariants as exit
use Rattle.nt_event.specs.Fitting.{events_fit}
use Rattle.nt_friendly.specs.Text.{strict_text}
use Rattle.nt_lab_words.specs.declared.words.How.{How}
use Rattle.nt_lab_words.specs.declared.words.ThingKind.{ThingKind}
use Rattle.nt_laws.proofs.Named.RunFits.{run_fits}
use Rattle.nt_log.specs.Schedules.{schedule_of, turns_fit}
use Rattle.nt_print.proofs.Turns.{turns_of_fit}
use Rattle.nt_shown.specs.declared.showing.ShownRun.{ShownRun}
use Rattle.nt_shown.specs.Shown.{IsShown}
use Rattle.nt_bench.specs.declared.friendly.Friendly.{Friendly}
use Rattle.nt_bench.specs.declared.running.Shape.{Shape}
use Rattle.nt_bench.specs.Reasons.{IsOfUsual, IsReasonsReply, IsWhyReply}
use Rattle.nt_bench.specs.Running.{IsAnyRun, IsRunReply, IsShownReply, IsUnshownReply}

-- the events of a run name things of its script
pub run_named : (r : ShownRun) → IsAnyRun r → events_fit r.input.script r.gone.history.events ≡ true
run_named r any = run_fits r.input.script r.gone.history.turns r.gone.history.events any.sound.fits any.whole.settled.run

-- and so do its turns
pub turns_named : (r : ShownRun) → IsAnyRun r → turns_fit r.input.script (schedule_of r.gone.history).list ≡ true
turns_named r any = turns_of_fit r.input.script r.gone.history.events (run_named r any)

-- what is replied with the run that a text shows is replied to the text
pub shown_reply : (how : How) (form : Shape) (f : Friendly) (r : ShownRun) (status : Status) (text : List ℕ) →
    IsShown (strict_text f.bytes.now) how r → IsRunReply form r status text → IsShownReply how form f status text
shown_reply how form f r exit.Ok text shown reply = record { run = r; shown = shown; written = reply }
shown_reply how form f r exit.Fails text shown reply = absurd reply
shown_reply how form f r exit.Unknown text shown reply = absurd reply
shown_reply how form f r exit.NoExpectation text shown reply = absurd reply
shown_reply how form f r exit.NoWitness text shown reply = absurd reply
shown_reply how form f r exit.TooManyTurns text shown reply = absurd reply
shown_reply how form f r exit.Memory text shown reply = reply
shown_reply how form f r exit.Refused text shown reply = absurd reply
shown_reply how form f r exit.Usage text shown reply = absurd reply
shown_reply how form f r exit.Read text shown reply = absurd reply
shown_reply how form f r exit.Write text shown reply = absurd reply
shown_reply how form f r exit.TooLong text shown reply = absurd reply

-- why a text shows no run is replied to it
pub unshown_reply : (how : How) (form : Shape) (f : Friendly) (status : Status) (text : List ℕ) →
    IsUnshownReply f status text → IsShownReply how form f status text
unshown_reply how form f exit.Ok text reply = absurd reply
unshown_reply how form f exit.Fails text reply = absurd reply
unshown_reply how form f exit.Unknown text reply = absurd reply
unshown_reply how form f exit.NoExpectation text reply = absurd reply
unshown_reply how form f exit.NoWitness text reply = absurd reply
unshown_reply how form f exit.TooManyTurns text reply = absurd reply
unshown_reply how form f exit.Memory text reply = reply
unshown_reply how form f exit.Refused text reply = reply
unshown_reply how form f exit.Usage text reply = absurd reply
unshown_reply how form f exit.Read text reply = absurd reply
unshown_reply how form f exit.Write text reply = absurd reply
unshown_reply how form f exit.TooLong text reply = absurd reply

-- the same of `why`
pub why_reply : (kind : ThingKind) (f : Friendly) (r : ShownRun) (status : Status) (text : List ℕ) → IsOfUsual f r →
    IsReasonsReply r kind f.named status text → IsWhyReply kind f status text
why_reply kind f r exit.Ok text shown reply = (r, shown, reply)
why_reply kind f r exit.Fails text shown reply = absurd reply
why_reply kind f r exit.Unknown text shown reply = absurd reply
why_reply kind f r exit.NoExpectation text shown reply = absurd reply
why_reply kind f r exit.NoWitness text shown reply = absurd reply
why_reply kind f r exit.TooManyTurns text shown reply = absurd reply
why_reply kind f r exit.Memory text shown reply = reply
why_reply kind f r exit.Refused text shown reply = inr (r, shown, reply)
why_reply kind f r exit.Usage text shown reply = absurd reply
why_reply kind f r exit.Read text shown reply = absurd reply
why_reply kind f r exit.Write text shown reply = absurd reply
why_reply kind f r exit.TooLong text shown reply = absurd reply

-- where a text shows no run
pub why_unshown : (kind : ThingKind) (f : Friendly) (status : Status) (text : List ℕ) → IsUnshownReply f status text → IsWhyReply kind f status text
why_unshown kind f exit.Ok text reply = absurd reply
why_unshown kind f exit.Fails text reply = absurd reply
why_unshown kind f exit.Unknown text reply = absurd reply
why_unshown kind f exit.NoExpectation text reply = absurd reply
why_unshown kind f exit.NoWitness text reply = absurd reply
why_unshown kind f exit.TooManyTurns text reply = absurd reply
why_unshown kind f exit.Memory text reply = reply
why_unshown kind f exit.Refused text reply = inl reply
why_unshown kind f exit.Usage text reply = absurd reply
why_unshown kind f exit.Read text reply = absurd reply
why_unshown kind f exit.Write text reply = absurd reply
why_unshown kind f exit.TooLong text reply = absurd reply
