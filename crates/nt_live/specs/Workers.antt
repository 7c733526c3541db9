-- What a worker did: the events of its processor with the states in which they were made, and what its pass tells of
-- them.
use Rattle.std.specs.Prelude.{Contains, List, None, Option, Some, [], false, map, true, ℕ, ◌+◌, ◌++◌, ◌<◌, ◌∷◌, ◌≡◌}
use Rattle.std.specs.Prelude.{◌≤◌, ◌⊎◌}
use Rattle.atomic_table.specs.Seated.{TableId}
use Rattle.nt_event.specs.declared.events.Event.{Event}
use Rattle.nt_event.specs.declared.events.What.TheVariants.{Look as LookEvent}
use Rattle.nt_event.specs.declared.numbers.CpuNo.{CpuNo}
use Rattle.nt_event.specs.declared.scripts.Script.{Script}
use Rattle.nt_event.specs.Jobs.{is_still}
use Rattle.nt_event.specs.Lanes.{lane_number, what_lanes}
use Rattle.nt_event.specs.Lists.{value_at}
use Rattle.nt_event.specs.Own.{Own, stand_in}
use Rattle.nt_event.specs.Requests.{asks_in, what_asks}
use Rattle.nt_event.specs.Robin.{is_behind, look_values}
use Rattle.nt_event.specs.Step.{event_at, is_cut}
use Rattle.nt_compose.specs.Choices.{GoesOn}
use Rattle.nt_compose.specs.Parts.{IsTail, Numbered, own_by}
use Rattle.nt_cpu.specs.States.{CpuState}
use Rattle.nt_cpu.specs.Steps.{Knows, looks_below}
use Rattle.nt_mark.specs.declared.marks.Marks.{Marks}
use Rattle.nt_mark.specs.declared.seats.Pass.{Pass}
use Rattle.nt_mark.specs.declared.view.Entry.{Entry}
use Rattle.nt_mark.specs.declared.view.Look.{Look}
use Rattle.nt_mark.specs.declared.view.Mark.{Mark}
use Rattle.nt_mark.specs.declared.view.View.{View}
use Rattle.nt_mark.specs.Names.{pass_table, pass_view}
use Rattle.nt_mark.specs.Views.{entry, look_of, reach, request_word, spent, step_word}
use Rattle.nt_lane.specs.Marked.{mark_for}
use Rattle.nt_lane.specs.Seats.{AreListed, FoundBy}
use Rattle.nt_lane.specs.Views.{look_told, words_of}

-- what contracts see of a worker: its processor, and what its pass has and knows
pub record WorkerState : Type 0 where
  pub cpu : CpuState
  pub view : View

-- its list: the number and event of each entry of its pass
abbrev pub pairs_of : View → List (ℕ × Event)
pairs_of v = map (λ (e : Entry). (e.number, e.event)) v.entries

-- ---- the events of one processor, the newest first

-- a Look at what the pass looked of each class, at requests of events of lower numbers
pub record LooksAt (p : CpuNo) (x : Own) (v : View) (n : ℕ) : Type 0 where
  pub answers : List ℕ
  pub behind : is_behind x (value_at answers) ≡ true
  pub below : (c : ℕ) → c < 16 → value_at answers c ≤ n
  pub looked : (c : ℕ) → c < 16 → (value_at answers c ≡ 0) ⊎ Contains v.looks (look_of p c (value_at answers c))

abbrev pub AtLook : Script → CpuNo → Own → View → Numbered → Type 0
AtLook s p x v m = (l : LooksAt p x v m.number) ×
    (event_at s p (LookEvent (record { value = look_values x (value_at l.answers) })) x.frames ≡ m.placed.event)

abbrev pub AreBelow : ℕ → List Numbered → Type 0
AreBelow n ms = (m : Numbered) → Contains ms m → m.number < n

-- one event of a processor, after these: what it chose to do, in the states that were found, under a greater number
pub record IsStep (s : Script) (limit : ℕ) (p : CpuNo) (v : View) (m : Numbered) (past : List Numbered) : Type 0 where
  pub cpu : m.placed.event.cpu ≡ p
  pub uncut : is_cut limit (own_by s p past) ≡ false
  pub above : AreBelow m.number past
  pub how : AtLook s p (own_by s p past) v m ⊎ GoesOn s p (own_by s p past) m.placed
  pub found : FoundBy s v m.number m.placed.event (stand_in p (own_by s p past)) m.placed.found

abbrev pub AreSteps : Script → ℕ → CpuNo → View → List Numbered → Type 0
AreSteps s limit p v [] = Unit {0}
AreSteps s limit p v (m ∷ past) = IsStep s limit p v m past × AreSteps s limit p v past

-- the event asks for the class on the processor, by what its own processor p kept of the events before it
abbrev pub asks_then : Script → CpuNo → Numbered → List Numbered → CpuNo → ℕ → Type 0
asks_then s p m past q c =
    asks_in s (stand_in p (own_by s p past)) m.placed.event.what m.placed.found.lanes q c ≡ true

-- the pass knows what each of them asked
abbrev pub AreAsked : Script → CpuNo → View → List Numbered → Type 0
AreAsked s p v ms =
    (m : Numbered) (past : List Numbered) → IsTail (m ∷ past) ms → (q : CpuNo) (c : ℕ) → q.0 < s.cpus → c < 16 →
    asks_then s p m past q c →
    m.number + 1 ≤ reach (request_word q c) v

-- a processor made these events, as the pass knows
pub record AreMade (s : Script) (limit : ℕ) (p : CpuNo) (v : View) (ms : List Numbered) : Type 0 where
  pub steps : AreSteps s limit p v ms
  pub below : AreBelow (reach step_word v) ms
  pub asked : AreAsked s p v ms

-- ---- what its pass tells of them

-- the entry of an event
abbrev pub drawn_of : Script → CpuNo → Numbered → List Numbered → Entry
drawn_of s p m past =
    entry m.number m.placed.event
    (map (lane_number s) (what_lanes s (stand_in p (own_by s p past)) m.placed.event.what m.placed.found.lanes))

abbrev pub all_drawn : Script → CpuNo → List Numbered → List Entry
all_drawn s p [] = []
all_drawn s p (m ∷ past) = all_drawn s p past ++ drawn_of s p m past ∷ []

-- the marks of an event
abbrev pub marks_of : Script → CpuNo → Numbered → List Numbered → List Mark
marks_of s p m past =
    map (mark_for m.number) (what_asks s (stand_in p (own_by s p past)) m.placed.event.what m.placed.found.lanes)

abbrev pub all_marks : Script → CpuNo → List Numbered → List Mark
all_marks s p [] = []
all_marks s p (m ∷ past) = all_marks s p past ++ marks_of s p m past

-- ---- a worker

-- its processor and its pass are what these events made of them
pub record IsAtWork (s : Script) (limit : ℕ) (w : WorkerState) : Type 0 where
  pub script : w.cpu.script ≡ s
  pub limit_is : w.cpu.limit ≡ limit
  pub inside : w.cpu.cpu.0 < s.cpus
  pub mine : List Numbered
  pub own : w.cpu.own ≡ own_by s w.cpu.cpu mine
  pub made : AreMade s limit w.cpu.cpu w.view mine
  pub entries : w.view.entries ≡ all_drawn s w.cpu.cpu mine
  pub marks : w.view.marks ≡ all_marks s w.cpu.cpu mine
  pub parts : w.view.parts ≡ 1

-- the pass, as words of any marks, knows what its processor has seen; the processor's frames are named below the
-- least next number
abbrev pub KnowsSeen : CpuState → View → Type 0
KnowsSeen c v = (m : Marks) → Knows c (words_of m v)

-- what stands in a worker whenever nobody turns it
pub record IsWorker (table : TableId) (s : Script) (limit : ℕ) (cpu : CpuState) (pass : Option Pass)
    (list : List (ℕ × Event)) : Type 0 where
  pub here : Pass
  pub pass_is : pass ≡ Some here
  pub at : pass_table here ≡ table
  pub listed : ∥ AreListed (pass_view here) ∥₁
  pub list_is : list ≡ pairs_of (pass_view here)
  pub work : IsAtWork s limit (record { cpu = cpu; view = pass_view here })
  pub knows : KnowsSeen cpu (pass_view here)

abbrev pub view_in : Option Pass → View
view_in None = spent
view_in (Some p) = pass_view p

-- ---- what `work` says

-- the events and looks of the pass are those of before, and more
pub record GoesOnFrom (old new : WorkerState) : Type 0 where
  pub script : new.cpu.script ≡ old.cpu.script
  pub cpu : new.cpu.cpu ≡ old.cpu.cpu
  pub limit : new.cpu.limit ≡ old.cpu.limit
  pub parts : new.view.parts ≡ old.view.parts
  pub entries : List Entry
  pub entries_are : new.view.entries ≡ old.view.entries ++ entries
  pub looks : List Look
  pub looks_are : new.view.looks ≡ old.view.looks ++ looks

-- the last looks since then are one of each used class of its processor, each with the value seen
abbrev pub LookedLast : WorkerState → WorkerState → Type 0
LookedLast old new = (before : List Look) × (last : List Look) × (new.view.looks ≡ old.view.looks ++ (before ++ last)) ×
    (map look_told last ≡ looks_below new.cpu.cpu 15 new.cpu.own.seen)

-- the processor is cut; or it rests or spins still, and since then it looked last at each class and saw no more than it
-- had seen
abbrev pub HasWorked : WorkerState → WorkerState → Type 0
HasWorked old new = (is_cut new.cpu.limit new.cpu.own ≡ true) ⊎ ((is_still new.cpu.own ≡ true) × LookedLast old new)
