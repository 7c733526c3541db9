-- What all passes and lanes show together once they are closed: the processors' events are those of one run.
use Rattle.std.specs.List.Sorted.{IsStrictlyIncreasing}
use Rattle.std.specs.Prelude.{All, Contains, List, [], length, true, ℕ, ◌<◌, ◌∷◌, ◌≡◌, ◌≤◌, ◌⊎◌}
use Rattle.nt_event.specs.declared.numbers.CpuNo.{CpuNo}
use Rattle.nt_event.specs.declared.scripts.Script.{Script}
use Rattle.nt_event.specs.Classes.{is_used_class}
use Rattle.nt_event.specs.Jobs.{is_still}
use Rattle.nt_event.specs.Lanes.{lane_count}
use Rattle.nt_event.specs.Lists.{value_at}
use Rattle.nt_event.specs.Robin.{is_settled}
use Rattle.nt_event.specs.Script.{fits}
use Rattle.nt_event.specs.Step.{is_cut}
use Rattle.nt_compose.specs.Choices.{AreStepped}
use Rattle.nt_compose.specs.Composition.{IsComposed, Placed, events}
use Rattle.nt_compose.specs.Parts.{IsTail, Numbered, own_by, part}
use Rattle.nt_mark.specs.declared.seats.Keeper.{Keeper}
use Rattle.nt_mark.specs.declared.view.Entry.{Entry}
use Rattle.nt_mark.specs.declared.view.LaneList.{LaneList}
use Rattle.nt_mark.specs.declared.view.Look.{Look}
use Rattle.nt_mark.specs.declared.view.Mark.{Mark}
use Rattle.nt_mark.specs.declared.view.View.{View}
use Rattle.nt_mark.specs.Closing.{IsEachOnce, IsOfEntry, IsOfKeeper, WasAsked}
use Rattle.nt_mark.specs.Names.{keeper_lane, keeper_lanes, keeper_notes}
use Rattle.nt_mark.specs.Views.{entry_numbers, note_numbers, reach, request_word}
use Rattle.nt_live.specs.Workers.{AreMade, asks_then, drawn_of}

-- an entry is that of an event of some processor's list
pub record IsDrawnBy (s : Script) (mine : CpuNo → List Numbered) (e : Entry) : Type 0 where
  pub by : CpuNo
  pub event : Numbered
  pub before : List Numbered
  pub is_in : IsTail (event ∷ before) (mine by)
  pub is : e ≡ drawn_of s by event before

-- a mark is that of an event of some processor's list, which asks so
pub record IsMarkedBy (s : Script) (mine : CpuNo → List Numbered) (k : Mark) : Type 0 where
  pub by : CpuNo
  pub event : Numbered
  pub before : List Numbered
  pub is_in : IsTail (event ∷ before) (mine by)
  pub number : k.number ≡ event.number
  pub asks : asks_then s by event before k.cpu k.class

-- one pass knows the events of all processors, each by its list, the newest first, and has the entries and marks of no
-- others
pub record AreTogether (s : Script) (limit : ℕ) (v : View) (mine : CpuNo → List Numbered) : Type 0 where
  pub made : (p : CpuNo) → p.0 < s.cpus → AreMade s limit p v (mine p)
  pub others : (p : CpuNo) → s.cpus ≤ p.0 → mine p ≡ []
  pub entries : (e : Entry) → Contains v.entries e → IsDrawnBy s mine e
  pub marks : (k : Mark) → Contains v.marks k → IsMarkedBy s mine k

-- what closing the marks of a pass and the keepers of all lanes says
pub record IsClosed (s : Script) (v : View) (ks : List Keeper) (n : ℕ) : Type 0 where
  pub once : IsEachOnce n (entry_numbers v.entries)
  pub lanes : IsEachOnce (lane_count s) (keeper_lanes ks)
  pub rise : All (λ k. IsStrictlyIncreasing (note_numbers (keeper_notes k))) ks
  pub notes : All (λ k. All (IsOfEntry v.entries (keeper_lane k)) (keeper_notes k)) ks
  pub prefixes : All (λ (q : LaneList). IsOfKeeper ks q) v.prefixes
  pub looks : All (λ (l : Look). WasAsked v l) v.looks

-- a run of this many events, each in the states that those before it left, which has exactly these events of each
-- processor, each at its number
pub record IsWhole (s : Script) (limit : ℕ) (mine : CpuNo → List Numbered) (n : ℕ) (h : List Placed) : Type 0 where
  pub composed : IsComposed s limit h
  pub stepped : AreStepped s limit h
  pub count : length h ≡ n
  pub parts : (p : CpuNo) → part p h ≡ mine p

-- the events that closed passes and lanes show are those of one run
abbrev pub Gathers : Type 0
Gathers = (s : Script) (limit : ℕ) (v : View) (mine : CpuNo → List Numbered) (ks : List Keeper) (n : ℕ) →
    AreTogether s limit v mine → IsClosed s v ks n → (h : List Placed) × IsWhole s limit mine n h

-- ---- settled

-- a processor has no more to do: it is cut; or it rests or spins still, and saw all that the pass knows to be asked
abbrev pub IsDoneWith : Script → ℕ → View → CpuNo → List Numbered → Type 0
IsDoneWith s limit v p ms = (is_cut limit (own_by s p ms) ≡ true) ⊎ ((is_still (own_by s p ms) ≡ true) ×
    ((c : ℕ) → c < 16 → is_used_class c ≡ true → reach (request_word p c) v ≤ value_at (own_by s p ms).seen c))

-- where the script fits, and each processor has no more to do, as the pass that knows the events of all tells it, the
-- run is settled
abbrev pub AllDoneSettles : Type 0
AllDoneSettles = (s : Script) (limit : ℕ) (v : View) (mine : CpuNo → List Numbered) (n : ℕ) (h : List Placed) →
    fits s ≡ true → AreTogether s limit v mine → IsWhole s limit mine n h →
    ((p : CpuNo) → p.0 < s.cpus → IsDoneWith s limit v p (mine p)) → is_settled s limit (events h) ≡ true
