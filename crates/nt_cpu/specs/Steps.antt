-- Steps that a processor chooses by itself: the looks before them, and what they are.
use Rattle.std.specs.Prelude.{Bool, List, None, Option, Some, [], false, if◌then◌else◌, nat_lt, suc, true, zero, ℕ}
use Rattle.std.specs.Prelude.{◌&&◌, ◌++◌, ◌<◌, ◌==◌, ◌∷◌, ◌≡◌, ◌≤◌, ◌⊎◌}
use Rattle.nt_event.specs.declared.events.Event.{Event}
use Rattle.nt_event.specs.declared.events.What.TheVariants.{Look as LookEvent}
use Rattle.nt_event.specs.declared.jobs.Job.{Job}
use Rattle.nt_event.specs.declared.jobs.Stand.{Stand}
use Rattle.nt_event.specs.declared.jobs.Task.{Task}
use Rattle.nt_event.specs.declared.jobs.Task.TheVariants.{Alone, Shared}
use Rattle.nt_event.specs.declared.numbers.CpuNo.{CpuNo}
use Rattle.nt_event.specs.Classes.{is_used_class}
use Rattle.nt_event.specs.Jobs.{chosen_task, is_still}
use Rattle.nt_event.specs.Lanes.{what_lanes}
use Rattle.nt_event.specs.Own.{Own, stand_in}
use Rattle.nt_event.specs.Robin.{is_behind, look_values}
use Rattle.nt_event.specs.Step.{event_at, is_cut}
use Rattle.nt_event.specs.Lists.{value_at}
use Rattle.nt_event.specs.Acts.{Found}
use Rattle.nt_floor.specs.Lists.{Lists, Look}
use Rattle.nt_floor.specs.Views.{HasWord, IsMoved, SameFloor, View}
use Rattle.nt_frame.specs.Nesting.{AreNamedBelow}
use Rattle.nt_cpu.specs.States.{CpuState}
use Rattle.nt_cpu.specs.Turns.{HaveStates, IsShared, state_then}
use Rattle.nt_cpu.specs.declared.steps.Local.{Local}
use Rattle.nt_cpu.specs.declared.steps.Local.TheVariants.{Cut as LocalCut, Did as LocalDid, NeedsLane}
use Rattle.nt_cpu.specs.declared.steps.Local.TheVariants.{Quiet as LocalQuiet}
use Rattle.nt_cpu.specs.declared.steps.Turned.{Turned}
use Rattle.nt_cpu.specs.declared.steps.Turned.TheVariants.{Cut, Did, Quiet}

-- ---- looks

abbrev pub look_if : Bool → CpuNo → ℕ → ℕ → List Look
look_if true p k v = record { cpu = p; class = k; value = v } ∷ []
look_if false p k v = []

-- one look at each used class below n of the processor, in order, with these answers
abbrev pub looks_below : CpuNo → ℕ → List ℕ → List Look
looks_below p zero answers = []
looks_below p (suc k) answers = looks_below p k answers ++ look_if (is_used_class k) p k (value_at answers k)

-- these looks were made, where they are told
abbrev pub with_looks : List Look → Option Lists → Option Lists
with_looks looks None = None
with_looks looks (Some l) = Some (record l { looks = l.looks ++ looks })

-- the word of class k of q was looked at
abbrev pub was_looked : CpuNo → ℕ → CpuNo → ℕ → Bool
was_looked p n q k = (q.0 == p.0) && (nat_lt k n && is_used_class k)

-- exactly the used classes below n of the processor were looked at, each once and in order, with these answers (0 for
-- the others): each at least the value that was known, and exactly it where nobody else marks
pub record LooksBelow (n : ℕ) (p : CpuNo) (answers : List ℕ) (v u : View) : Type 0 where
  pub lists : u.lists ≡ with_looks (looks_below p n answers) v.lists
  pub least : (k : ℕ) → k < n → is_used_class k ≡ true → v.value p k ≤ value_at answers k
  pub exact : v.alone ≡ true → (k : ℕ) → k < n → is_used_class k ≡ true → value_at answers k ≡ v.value p k
  pub others : (k : ℕ) → is_used_class k ≡ false → value_at answers k ≡ 0
  pub later : (k : ℕ) → n ≤ k → value_at answers k ≡ 0
  pub value : (q : CpuNo) (k : ℕ) → HasWord v q k → u.value q k
      ≡ (if was_looked p n q k then value_at answers k else v.value q k)
  pub next : v.next ≤ u.next
  pub most : (k : ℕ) → k < n → value_at answers k ≤ u.next
  pub next_exact : v.alone ≡ true → u.next ≡ v.next
  pub drawable : u.drawable ≡ v.drawable
  pub marked : (j : ℕ) (q : CpuNo) (k : ℕ) → HasWord v q k → u.marked j q k ≡ v.marked j q k
  pub same : SameFloor v u

-- one look at each used class
abbrev pub AllLooked : CpuNo → List ℕ → View → View → Type 0
AllLooked p answers v u = LooksBelow 15 p answers v u

-- unless the processor is cut, it looked once at each used class, with these answers; else at none
pub record AreLooked (c : CpuState) (answers : List ℕ) (v u : View) : Type 0 where
  pub cut : is_cut c.limit c.own ≡ true → u ≡ v
  pub looks : is_cut c.limit c.own ≡ false → AllLooked c.cpu answers v u

-- nothing was seen that is above these values, one for each of the 16 classes
abbrev pub SeenWithin : Own → (ℕ → ℕ) → Type 0
SeenWithin x values = (c : ℕ) → c < 16 → value_at x.seen c ≤ values c

-- ---- the step

-- what the processor has to do after looks with these answers: a Look at what rose above the values seen, else what it
-- chooses
abbrev pub local_task : CpuState → List ℕ → Option Task
local_task c answers =
    if is_behind c.own (value_at answers) then Some
    (Alone (LookEvent (record { value = look_values c.own (value_at answers) })))
    else chosen_task c.script c.cpu c.own

-- the answer of a step
abbrev pub local_answer : CpuState → Option Task → Local
local_answer c None = LocalQuiet
local_answer c (Some (Alone w)) = LocalDid (event_at c.script c.cpu w c.own.frames)
local_answer c (Some (Shared job)) = NeedsLane job

abbrev pub local_gives : CpuState → List ℕ → Local
local_gives c answers = if is_cut c.limit c.own then LocalCut else local_answer c (local_task c answers)

-- an event that touches no lane happened under this number; what states were found doesn't matter
pub record IsApart (c d : CpuState) (f : Found) (n : ℕ) (e : Event) (v w : View) : Type 0 where
  pub lanes : what_lanes c.script (stand_in c.cpu c.own) e.what f.lanes ≡ []
  pub states : HaveStates c.script f.lanes
  pub state : d ≡ state_then c f n e
  pub floor : IsMoved c.script n e (stand_in c.cpu c.own) f v w

-- what a step leaves, by its answer: its event happened, or nothing
abbrev pub LocalLeaves : CpuState → CpuState → Local → View → View → Type 0
LocalLeaves c d (LocalDid e) u w = (f : Found) × (n : ℕ) × IsApart c d f n e u w
LocalLeaves c d r u w = (d ≡ c) × (w ≡ u)

-- after the looks the answer is what they and the processor's state give; it is Quiet only where the processor rests or
-- spins still
pub record IsStepped (c d : CpuState) (answers : List ℕ) (r : Local) (v u w : View) : Type 0 where
  pub looked : AreLooked c answers v u
  pub answer : r ≡ local_gives c answers
  pub quiet : r ≡ LocalQuiet → is_still c.own ≡ true
  pub left : LocalLeaves c d r u w

-- ---- steps under lanes

-- the words know what the processor has seen, and its frames are named below their least next number
pub record Knows (c : CpuState) (v : View) : Type 0 where
  pub known : (k : ℕ) → k < 16 → value_at c.own.seen k ≤ v.value c.cpu k
  pub below : (k : ℕ) → k < 16 → value_at c.own.seen k ≤ v.next
  pub named : AreNamedBelow v.next c.own.frames

-- what an advance left, after looks with these answers: its event touched no lane; or a floor made it, as told by
-- `found`; or it rests or spins still, and no request rose; or it is cut
abbrev pub Advanced : CpuState → CpuState → List ℕ → (ℕ → Event → Stand → Found → Type 0) → Turned → View → View →
    Type 0
Advanced c d answers found (Did e) u w =
    ((local_gives c answers ≡ LocalDid e) × LocalLeaves c d (LocalDid e) u w) ⊎
    ((job : Job) × (local_gives c answers ≡ NeedsLane job) ×
    ((f : Found) × (n : ℕ) × (IsShared c d job f n e u w × found n e (stand_in c.cpu c.own) f)))
Advanced c d answers found Quiet u w =
    (local_gives c answers ≡ LocalQuiet) × (is_still c.own ≡ true) × (d ≡ c) × (w ≡ u)
Advanced c d answers found Cut u w = (local_gives c answers ≡ LocalCut) × (d ≡ c) × (w ≡ u)
