-- Locality: an event reads and changes only what its processor keeps and the lanes that it touches.
use Rattle.std.specs.Prelude.{Bool, List, Ok, Option, [], false, if◌then◌else◌, length, true, ℕ, ◌<◌, ◌∷◌, ◌≡◌}
use Rattle.nt_event.specs.declared.events.Event.{Event}
use Rattle.nt_event.specs.declared.events.Turn.{Turn}
use Rattle.nt_event.specs.declared.events.Turn.TheVariants.{Look as LookTurn}
use Rattle.nt_event.specs.declared.jobs.Lane.{Lane}
use Rattle.nt_event.specs.declared.numbers.CpuNo.{CpuNo}
use Rattle.nt_event.specs.declared.scripts.Script.{Script}
use Rattle.nt_event.specs.Frames.{due_of, time}
use Rattle.nt_event.specs.LaneStates.{lane_state}
use Rattle.nt_event.specs.Lanes.{lanes_of, touches}
use Rattle.nt_event.specs.Own.{own_of}
use Rattle.nt_event.specs.Requests.{asks, seen, served}
use Rattle.nt_event.specs.Step.{IsRun, cpu_at, step}
use Rattle.nt_event.specs.Numbers.{is_of}

-- an event that doesn't touch a lane of the script leaves what stands in it, and what it tells of requests
abbrev pub ChangesOwnLanesOnly : Type 0
ChangesOwnLanesOnly = (s : Script) (x : Lane) (e : Event) (past : List Event) → touches s x e past ≡ false →
    lane_state s x (e ∷ past) ≡ lane_state s x past

-- two histories have the same states on each of these lanes
abbrev pub SameOnEach : Script → List Event → List Event → List Lane → Type 0
SameOnEach s h k [] = Unit {0}
SameOnEach s h k (x ∷ xs) = (lane_state s x h ≡ lane_state s x k) × SameOnEach s h k xs

-- the turn makes the next event, or takes up a thread
abbrev pub makes : Turn → Bool
makes (LookTurn p r) = false
makes t = true

-- the event of a turn Next or Switch is determined by what its processor keeps and the states of the lanes that it
-- touches: where two runs agree on these, the turn gives the same event after both
abbrev pub StepIsLocal : Type 0
StepIsLocal = (s : Script) (limit : ℕ) (h k : List Event) (t : Turn) (e : Event) → IsRun s limit h → IsRun s limit k →
    makes t ≡ true → own_of s (cpu_at t) h ≡ own_of s (cpu_at t) k → step s limit t h ≡ Ok e →
    SameOnEach s h k (lanes_of s e h) → step s limit t k ≡ Ok e

-- the same event after two runs of one length, which agree on what its processor keeps and on the lanes that it touches
pub record Alike (s : Script) (limit : ℕ) (h k : List Event) (e : Event) : Type 0 where
  pub first : IsRun s limit (e ∷ h)
  pub second : IsRun s limit (e ∷ k)
  pub length : length h ≡ length k
  pub own : own_of s e.cpu h ≡ own_of s e.cpu k
  pub lanes : SameOnEach s h k (lanes_of s e h)

-- it asks for the same, touches the same lanes, leaves the same states on them, and its processor keeps the same
pub record LeavesAlike (s : Script) (h k : List Event) (e : Event) : Type 0 where
  pub asks : (p : CpuNo) (c : ℕ) → asks s p c e h ≡ asks s p c e k
  pub lanes : lanes_of s e h ≡ lanes_of s e k
  pub states : SameOnEach s (e ∷ h) (e ∷ k) (lanes_of s e h)
  pub own : own_of s e.cpu (e ∷ h) ≡ own_of s e.cpu (e ∷ k)

abbrev pub EventLeavesTheSame : Type 0
EventLeavesTheSame = (s : Script) (limit : ℕ) (h k : List Event) (e : Event) → Alike s limit h k e → LeavesAlike s h k e

-- ---- what a processor keeps is its part of the history

-- an event of a processor with its number and, of a delay that it calls, its due time
pub record Made : Type 0 where
  pub number : ℕ
  pub event : Event
  pub due : Option ℕ

-- the part of the history that is the processor's, the newest event first
abbrev pub own_part : CpuNo → List Event → List Made
own_part p [] = []
own_part p (e ∷ past) =
    if is_of e p then (record { number = length past; event = e; due = due_of e.what (time past) } ∷ own_part p past)
    else own_part p past

-- what a processor keeps is determined by its part of the history, with the due times of the delays that it called, and
-- by what it has seen and served of each class
abbrev pub KeepsItsPart : Type 0
KeepsItsPart = (s : Script) (p : CpuNo) (h k : List Event) → own_part p h ≡ own_part p k →
    ((c : ℕ) → c < 16 → seen s p c h ≡ seen s p c k) → ((c : ℕ) → c < 16 → served s p c h ≡ served s p c k) →
    own_of s p h ≡ own_of s p k
