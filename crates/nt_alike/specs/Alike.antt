-- Histories of a script that are alike but for the numbers of their events: they go on alike.
use Rattle.std.specs.Prelude.{Bool, List, Some, [], false, length, max, nat_lt, true, ℕ, ◌&&◌, ◌+◌, ◌∷◌, ◌≡◌}
use Rattle.nt_event.specs.declared.commands.TimerKey.{TimerKey}
use Rattle.nt_event.specs.declared.events.Event.{Event}
use Rattle.nt_event.specs.declared.inserts.Setting.{Setting}
use Rattle.nt_event.specs.declared.jobs.Lane.{Lane}
use Rattle.nt_event.specs.declared.numbers.CpuNo.{CpuNo}
use Rattle.nt_event.specs.declared.scripts.Script.{Script}
use Rattle.nt_event.specs.Lanes.{lanes_at}
use Rattle.nt_event.specs.Own.{own_of}
use Rattle.nt_event.specs.Requests.{asks, seen, told_by}
use Rattle.nt_event.specs.Timers.{Timers}
use Rattle.nt_timer.specs.Settings.{setting_at}
use Rattle.nt_alike.specs.Bare.{bare_event, bare_lanes, bare_own}
use Rattle.nt_alike.specs.Free.{IsFreeRun, MayCome}

-- of each two keys that are set in both, and due at one time, the same one was set first
abbrev pub SameOrder : Timers → Timers → Type 0
SameOrder x y = (a b : TimerKey) (i j k l : Setting) →
    setting_at a x ≡ Some i → setting_at b x ≡ Some j → setting_at a y ≡ Some k → setting_at b y ≡ Some l →
    i.due ≡ j.due → nat_lt i.number j.number ≡ nat_lt k.number l.number

abbrev pub count_if : Bool → ℕ
count_if true = 1
count_if false = 0

-- how many events asked for the class on the processor by a value above this one
abbrev pub newer : Script → CpuNo → ℕ → ℕ → List Event → ℕ
newer s p c v [] = 0
newer s p c v (e ∷ past) = count_if (asks s p c e past && nat_lt v (length past + 1)) + newer s p c v past

-- how many of these the processor has not noticed
abbrev pub unnoticed : Script → CpuNo → ℕ → ℕ → List Event → ℕ
unnoticed s p c v past = newer s p c (max (seen s p c past) v) past

-- What stands in the lanes is the same but for numbers, and so is what each processor keeps; keys due at one time were
-- set in the same order. Of each class each processor has as many asks not noticed (asks), and would have as many were
-- it told by this lane (told). A number counts nowhere else. The asks are also what a lane tells that no event touched;
-- they stand for themselves, since it may be that each declared lane was touched.
pub record Alike (s : Script) (h k : List Event) : Type 0 where
  pub lanes : bare_lanes (lanes_at s h) ≡ bare_lanes (lanes_at s k)
  pub order : SameOrder (lanes_at s h).timers (lanes_at s k).timers
  pub own : (p : CpuNo) → bare_own (own_of s p h) ≡ bare_own (own_of s p k)
  pub asks : (p : CpuNo) (c : ℕ) → unnoticed s p c 0 h ≡ unnoticed s p c 0 k
  pub told : (x : Lane) (p : CpuNo) (c : ℕ) →
      unnoticed s p c (told_by s x p c h) h ≡ unnoticed s p c (told_by s x p c k) k

-- an event that may come after the other history, is this one but for numbers, and leaves the histories alike
pub record HasItsLike (s : Script) (e : Event) (h k : List Event) : Type 0 where
  pub event : Event
  pub comes : MayCome s event k
  pub same : bare_event e ≡ bare_event event
  pub alike : Alike s (e ∷ h) (event ∷ k)

-- where free runs are alike, each event that may come after the one has its like after the other
abbrev pub AlikeGoOn : Type 0
AlikeGoOn = (s : Script) (h k : List Event) (e : Event) → IsFreeRun s h → IsFreeRun s k → Alike s h k → MayCome s e h →
    HasItsLike s e h k
