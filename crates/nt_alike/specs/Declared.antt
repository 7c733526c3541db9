-- What a script declares: its processors, its lanes, and the classes that are used. In a script that fits nothing
-- happens on what it does not declare, so histories that are alike there are alike.
use Rattle.std.specs.Prelude.{Bool, List, Some, [], nat_lt, true, ℕ, ◌∷◌, ◌≡◌}
use Rattle.nt_event.specs.declared.commands.TimerKey.{TimerKey}
use Rattle.nt_event.specs.declared.events.Event.{Event}
use Rattle.nt_event.specs.declared.inserts.Setting.{Setting}
use Rattle.nt_event.specs.declared.jobs.Lane.{Lane}
use Rattle.nt_event.specs.declared.jobs.Lane.TheVariants as lane
use Rattle.nt_event.specs.declared.numbers.CpuNo.{CpuNo}
use Rattle.nt_event.specs.declared.scripts.Script.{Script}
use Rattle.nt_event.specs.Classes.{is_used_class}
use Rattle.nt_event.specs.Fitting.{key_fits}
use Rattle.nt_event.specs.Lanes.{lanes_at, touches}
use Rattle.nt_event.specs.Own.{own_of}
use Rattle.nt_event.specs.Requests.{asks, told_by}
use Rattle.nt_event.specs.Script.{fits, has_cpu, has_dpc, has_lock}
use Rattle.nt_event.specs.Step.{IsRun}
use Rattle.nt_timer.specs.Settings.{setting_at}
use Rattle.nt_alike.specs.Alike.{Alike, unnoticed}
use Rattle.nt_alike.specs.Bare.{bare_lanes, bare_own}
use Rattle.nt_alike.specs.Free.{IsFreeRun}

-- the lane is one of the script's
abbrev pub has_lane : Script → Lane → Bool
has_lane s (lane.Object d) = has_dpc s d
has_lane s (lane.Queue p) = has_cpu s p
has_lane s (lane.Threads p) = has_cpu s p
has_lane s lane.Timers = true
has_lane s (lane.Lock k) = has_lock s k

-- the event is by a processor of the script, asks processors of the script alone, for used classes alone, and touches
-- lanes of the script alone
pub record StaysWithin (s : Script) (e : Event) (past : List Event) : Type 0 where
  pub cpu : has_cpu s e.cpu ≡ true
  pub asks : (p : CpuNo) (c : ℕ) → asks s p c e past ≡ true → (has_cpu s p ≡ true) × (is_used_class c ≡ true)
  pub lanes : (x : Lane) → touches s x e past ≡ true → has_lane s x ≡ true

abbrev pub AllStayWithin : Script → List Event → Type 0
AllStayWithin s [] = Unit {0}
AllStayWithin s (e ∷ past) = StaysWithin s e past × AllStayWithin s past

-- in a run of a script that fits, at any limit, each event stays within
abbrev pub NothingBeyond : Type 0
NothingBeyond = (s : Script) (limit : ℕ) (h : List Event) → fits s ≡ true → IsRun s limit h → AllStayWithin s h

-- alike, of the processors, lanes, keys and classes that are declared
pub record AlikeDeclared (s : Script) (h k : List Event) : Type 0 where
  pub lanes : bare_lanes (lanes_at s h) ≡ bare_lanes (lanes_at s k)
  pub order : (a b : TimerKey) (i j m n : Setting) → key_fits s a ≡ true → key_fits s b ≡ true →
      setting_at a (lanes_at s h).timers ≡ Some i → setting_at b (lanes_at s h).timers ≡ Some j →
      setting_at a (lanes_at s k).timers ≡ Some m → setting_at b (lanes_at s k).timers ≡ Some n →
      i.due ≡ j.due → nat_lt i.number j.number ≡ nat_lt m.number n.number
  pub own : (p : CpuNo) → has_cpu s p ≡ true → bare_own (own_of s p h) ≡ bare_own (own_of s p k)
  pub asks : (p : CpuNo) (c : ℕ) → has_cpu s p ≡ true → is_used_class c ≡ true →
      unnoticed s p c 0 h ≡ unnoticed s p c 0 k
  pub told : (x : Lane) (p : CpuNo) (c : ℕ) → has_lane s x ≡ true → has_cpu s p ≡ true → is_used_class c ≡ true →
      unnoticed s p c (told_by s x p c h) h ≡ unnoticed s p c (told_by s x p c k) k

-- so it is enough to compare these
abbrev pub DeclaredAreAlike : Type 0
DeclaredAreAlike = (s : Script) (h k : List Event) → fits s ≡ true → IsFreeRun s h → IsFreeRun s k →
    AlikeDeclared s h k → Alike s h k
