-- A question, and the machine after the first events of its history.
use Rattle.std.specs.Prelude.{IsTrue, List, Option, Some, length, reverse, ℕ, ◌*◌, ◌<◌, ◌≡◌, ◌≤◌}
use Rattle.nt_event.specs.declared.events.Event.{Event}
use Rattle.nt_event.specs.declared.limits.TheConstants.{EVENTS, TURNS}
use Rattle.nt_event.specs.declared.numbers.CpuNo.{CpuNo}
use Rattle.nt_event.specs.declared.scripts.Script.{Script}
use Rattle.nt_event.specs.Routines.{owner_of}
use Rattle.nt_event.specs.Script.{fits}
use Rattle.nt_event.specs.Step.{IsRun}
use Rattle.nt_history.specs.Briefs.{events_in}
use Rattle.nt_plain.specs.States.{PlainState, view_of}
use Rattle.nt_cpu.specs.Runs.{Follows, state_of}
use Rattle.nt_cpu.specs.States.{CpuState}
use Rattle.nt_why.specs.Past.{past_at}
use Rattle.nt_why.specs.declared.fates.Object.{Object}
use Rattle.nt_why.specs.declared.fates.Object.TheVariants.{Apc, Dpc}
use Rattle.nt_why.specs.declared.lines.Lines.{Lines}
use Rattle.nt_why.specs.declared.question.Case.{Case}
use Rattle.nt_why.specs.declared.question.Question.{Question}
use Rattle.nt_why.specs.declared.reasons.Reason.{Reason}
use Rattle.nt_why.specs.declared.watch.Watch.TheVariants as watch
use Rattle.nt_why.specs.Fates.{last_insert, thing_of}
use Rattle.nt_why.specs.Lined.{AreTrue}
use Rattle.nt_why.specs.Says.{AreComplete, Says, WaitsAt, class_of, place_of}
use Rattle.nt_why.specs.Watches.{since}

-- the events of the whole history, in order, and the first of them that count, the newest first
abbrev pub events_of : Question → List Event
events_of q = events_in q.events.briefs.now q.events.rises.now

abbrev pub past_of : Question → List Event
past_of q = past_at q.end (events_of q)

-- the script fits, the limit is in range, and the events are those of a run
pub record IsAsked (q : Question) : Type 0 where
  pub fit : IsTrue (fits q.script.now)
  pub some : 1 ≤ q.turns
  pub each : q.turns ≤ TURNS
  pub all : q.script.now.cpus * q.turns ≤ EVENTS
  pub run : IsRun q.script.now q.turns (reverse (events_of q))
  pub end : q.end ≤ length q.events.briefs.now

-- the reason is true of the object that is asked for
abbrev pub IsTold : Question → Reason → Type 0
IsTold q r = Says q.script.now q.turns (events_of q) q.end q.object r

abbrev pub AreAll : Question → List Reason → Type 0
AreAll q rs = AreComplete q.script.now q.turns (events_of q) q.end q.object rs

-- the object that is asked for waits on this processor, if its last insert does
abbrev pub WaitsOn : Question → CpuNo → Type 0
WaitsOn q p = WaitsAt q.script.now (events_of q) q.end q.object p

-- this is the script's processor of this number, and the floor, as the first events leave them
pub record IsAt (q : Question) (p : CpuNo) (c : CpuState) (f : PlainState) : Type 0 where
  pub there : p.0 < q.script.now.cpus
  pub cpu : c ≡ state_of q.script.now p q.turns (past_of q)
  pub script : f.script ≡ q.script.now
  pub follows : Follows q.script.now (past_of q) (view_of f)

-- since when the thread of an APC object does what it does
abbrev pub IsOwnersSince : Script → Object → List Event → Option ℕ → Type 0
IsOwnersSince s (Dpc d) past k = Unit {0}
IsOwnersSince s (Apc a) past k = since s (watch.Doing (owner_of s a)) past ≡ k

abbrev pub IsAwaySince : Question → Option ℕ → Type 0
IsAwaySince q k = IsOwnersSince q.script.now q.object (past_of q) k

-- what the lines of a waiting insert speak of, which stands on p
pub record IsCase (q : Question) (p : CpuNo) (x : Case) : Type 0 where
  pub at : last_insert (thing_of q.object) (past_of q) ≡ Some x.at
  pub place : place_of q.script.now (events_of q) x.at q.object ≡ p
  pub stood : x.stood ≡ since q.script.now (watch.Stand p) (past_of q)
  pub noticed : x.noticed ≡ since q.script.now (watch.Seen p (class_of q.script.now q.object)) (past_of q)
  pub away : IsAwaySince q x.away

-- each line that is told is true
abbrev pub AreTold : Question → Lines → Type 0
AreTold q x = AreTrue (IsTold q) x
