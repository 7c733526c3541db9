-- What each reason says of a thing, and when the reasons are complete, by the kind of thing.
use Rattle.std.specs.Prelude.{List, ℕ}
use Rattle.nt_event.specs.declared.events.Event.{Event}
use Rattle.nt_event.specs.declared.scripts.Script.{Script}
use Rattle.nt_why.specs.declared.reasons.Reason.{Reason}
use Rattle.nt_why.specs.declared.things.Thing.{Thing}
use Rattle.nt_why.specs.declared.things.Thing.TheVariants as thing
use Rattle.nt_why.specs.Interrupts.{IsWholeInterrupt, SaysInterrupt}
use Rattle.nt_why.specs.Says.{AreComplete, Says}
use Rattle.nt_why.specs.Threads.{IsWholeThread, SaysThread}
use Rattle.nt_why.specs.Timers.{IsWholeTimer, SaysTimer}

-- what a reason says of the thing after the first `end` of these events, which are those of a run with this limit
abbrev pub SaysOf : Script → ℕ → List Event → ℕ → Thing → Reason → Type 0
SaysOf s limit events end (thing.Object x) r = Says s limit events end x r
SaysOf s limit events end (thing.Interrupt p l) r = SaysInterrupt s limit events end p l r
SaysOf s limit events end (thing.Thread t) r = SaysThread s limit events end t r
SaysOf s limit events end (thing.Timer t) r = SaysTimer s limit events end t r

-- the reasons tell all that they are to tell of the thing
abbrev pub AreWhole : Script → ℕ → List Event → ℕ → Thing → List Reason → Type 0
AreWhole s limit events end (thing.Object x) rs = AreComplete s limit events end x rs
AreWhole s limit events end (thing.Interrupt p l) rs = IsWholeInterrupt s limit events end p l rs
AreWhole s limit events end (thing.Thread t) rs = IsWholeThread s limit events end t rs
AreWhole s limit events end (thing.Timer t) rs = IsWholeTimer s limit events end t rs
