-- A processor and a floor that follow a run.
use Rattle.std.specs.Prelude.{Bool, List, Some, [], false, length, suc, true, ℕ, ◌&&◌, ◌==◌, ◌||◌, ◌∷◌, ◌≡◌}
use Rattle.nt_event.specs.declared.events.Event.{Event}
use Rattle.nt_event.specs.declared.events.Turn.{Turn}
use Rattle.nt_event.specs.declared.events.Turn.TheVariants.{Look as LookTurn}
use Rattle.nt_event.specs.declared.jobs.Lane.{Lane}
use Rattle.nt_event.specs.declared.numbers.CpuNo.{CpuNo}
use Rattle.nt_event.specs.declared.scripts.Script.{Script}
use Rattle.nt_event.specs.Lanes.{lanes_at}
use Rattle.nt_event.specs.Own.{own_of}
use Rattle.nt_event.specs.Requests.{asked, asks, told_by}
use Rattle.nt_event.specs.Step.{was_asked}
use Rattle.nt_floor.specs.Views.{HasWord, View}
use Rattle.nt_cpu.specs.States.{CpuState}

-- the processor of a run
abbrev pub state_of : Script → CpuNo → ℕ → List Event → CpuState
state_of s p limit past = record { script = s; cpu = p; limit = limit; own = own_of s p past }

-- the event of this number is in the history and asks for the class on the processor
abbrev pub asks_at : Script → ℕ → CpuNo → ℕ → List Event → Bool
asks_at s n q k [] = false
asks_at s n q k (e ∷ past) = asks_at s n q k past || ((n == length past) && asks s q k e past)

-- each value from this class on that rises was asked for
abbrev pub asked_rises : Script → CpuNo → ℕ → List ℕ → List Event → Bool
asked_rises s p k [] past = true
asked_rises s p k (v ∷ vs) past = ((v == 0) || was_asked s p k v past) && asked_rises s p (suc k) vs past

-- the values of a look were asked for
abbrev pub is_asked : Script → Turn → List Event → Bool
is_asked s (LookTurn p r) past = asked_rises s p 0 r.value past
is_asked s t past = true

-- a floor that is alone and tells its states follows the history: its next number, its states, what they tell of requests, its
-- words and its marks are the history's
pub record Follows (s : Script) (past : List Event) (v : View) : Type 0 where
  pub cpus : v.cpus ≡ s.cpus
  pub alone : v.alone ≡ true
  pub next : v.next ≡ length past
  pub states : v.states ≡ Some (lanes_at s past)
  pub told : (x : Lane) (q : CpuNo) (k : ℕ) → HasWord v q k → v.told x q k ≡ told_by s x q k past
  pub value : (q : CpuNo) (k : ℕ) → HasWord v q k → v.value q k ≡ asked s q k past
  pub marked : (n : ℕ) (q : CpuNo) (k : ℕ) → HasWord v q k → v.marked n q k ≡ asks_at s n q k past
