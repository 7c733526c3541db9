-- The first events of a run, and the machine after them.
use Rattle.std.specs.Prelude.{IsTrue, List, length, reverse, ◌*◌, ◌<◌, ◌≡◌, ◌≤◌}
use Rattle.nt_event.specs.declared.events.Event.{Event}
use Rattle.nt_event.specs.declared.limits.TheConstants.{EVENTS, TURNS}
use Rattle.nt_event.specs.declared.numbers.CpuNo.{CpuNo}
use Rattle.nt_event.specs.Script.{fits}
use Rattle.nt_event.specs.Step.{IsRun}
use Rattle.nt_history.specs.Briefs.{events_in}
use Rattle.nt_plain.specs.States.{PlainState, view_of}
use Rattle.nt_cpu.specs.Runs.{Follows, state_of}
use Rattle.nt_cpu.specs.States.{CpuState}
use Rattle.nt_why.specs.Past.{past_at}
use Rattle.nt_why.specs.declared.question.Course.{Course}
use Rattle.nt_why.specs.declared.reasons.Reason.{Reason}
use Rattle.nt_why.specs.declared.things.Thing.{Thing}
use Rattle.nt_why.specs.Things.{AreWhole, SaysOf}

-- the events of the whole history, in order, and the first of them that count, the newest first
abbrev pub events_on : Course → List Event
events_on c = events_in c.events.briefs.now c.events.rises.now

abbrev pub past_on : Course → List Event
past_on c = past_at c.end (events_on c)

-- the script fits, the limit is in range, and the events are those of a run
pub record IsCourse (c : Course) : Type 0 where
  pub fit : IsTrue (fits c.script.now)
  pub some : 1 ≤ c.turns
  pub each : c.turns ≤ TURNS
  pub all : c.script.now.cpus * c.turns ≤ EVENTS
  pub run : IsRun c.script.now c.turns (reverse (events_on c))
  pub end : c.end ≤ length c.events.briefs.now

-- this is the script's processor of this number, and the floor, as the first events leave them
pub record IsOn (c : Course) (p : CpuNo) (x : CpuState) (f : PlainState) : Type 0 where
  pub there : p.0 < c.script.now.cpus
  pub cpu : x ≡ state_of c.script.now p c.turns (past_on c)
  pub script : f.script ≡ c.script.now
  pub follows : Follows c.script.now (past_on c) (view_of f)

-- the reason is true of the thing then
abbrev pub IsTrueOf : Course → Thing → Reason → Type 0
IsTrueOf c x r = SaysOf c.script.now c.turns (events_on c) c.end x r

abbrev pub AreWholeOf : Course → Thing → List Reason → Type 0
AreWholeOf c x rs = AreWhole c.script.now c.turns (events_on c) c.end x rs
