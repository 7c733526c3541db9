-- What a seat over lanes tells of the events that were made through it.
use Rattle.std.specs.Prelude.{All, Contains, List, [], length, map, ℕ, ◌++◌, ◌<◌, ◌∷◌, ◌≡◌}
use Rattle.nt_compose.specs.Composition.{state_then}
use Rattle.nt_event.specs.declared.events.Event.{Event}
use Rattle.nt_event.specs.declared.jobs.Lane.{Lane}
use Rattle.nt_event.specs.declared.jobs.Stand.{Stand}
use Rattle.nt_event.specs.declared.numbers.CpuNo.{CpuNo}
use Rattle.nt_event.specs.declared.scripts.Script.{Script}
use Rattle.nt_event.specs.LaneStates.{content, told_at}
use Rattle.nt_event.specs.Lanes.{lane_number, what_lanes}
use Rattle.nt_event.specs.Acts.{Found}
use Rattle.nt_mark.specs.declared.view.Entry.{Entry}
use Rattle.nt_mark.specs.declared.view.LaneList.{LaneList}
use Rattle.nt_mark.specs.declared.view.Note.{Note}
use Rattle.nt_mark.specs.declared.view.View.{View}
use Rattle.nt_mark.specs.Rule.{IsLongest}
use Rattle.nt_mark.specs.Views.{entry, note_numbers, note_of}
use Rattle.nt_states.specs.LaneLists.{LaneFits}
use Rattle.nt_lane_record.specs.Held.{state_noted}
use Rattle.nt_lane_record.specs.Records.{Knows}
use Rattle.nt_lane_record.specs.Passes.{Grows}

-- the state found is the one that this list leaves
pub record IsShown (s : Script) (f : Found) (x : Lane) (notes : List Note) : Type 0 where
  pub content : content s f.lanes x ≡ (state_noted s x notes).content
  pub told : (q : CpuNo) (c : ℕ) → q.0 < s.cpus → c < 16 → f.told x q c ≡ told_at (state_noted s x notes).told q c

-- the pass knows a beginning of the lane's list that ends with the event and the state that it leaves, where what
-- stands before it leaves the state found
abbrev pub IsFoundOn : Script → View → ℕ → Event → Stand → Found → Lane → Type 0
IsFoundOn s v n e st f x = (notes : List Note) × IsShown s f x notes × Knows (lane_number s x)
    (notes ++ note_of n (state_then s n st (record { event = e; found = f }) x ∷ []) ∷ []) v

abbrev pub AreFoundOn : Script → View → ℕ → Event → Stand → Found → List Lane → Type 0
AreFoundOn s v n e st f [] = Unit {0}
AreFoundOn s v n e st f (x ∷ xs) = IsFoundOn s v n e st f x × AreFoundOn s v n e st f xs

-- the event of a processor that stood so was made in these states of its lanes, which are lanes of the script
pub record FoundBy (s : Script) (v : View) (n : ℕ) (e : Event) (st : Stand) (f : Found) : Type 0 where
  pub drawn : Contains v.entries (entry n e (map (lane_number s) (what_lanes s st e.what f.lanes)))
  pub threads : length f.lanes.threads ≡ length s.threads
  pub named : All (LaneFits s) (what_lanes s st e.what f.lanes)
  pub on : AreFoundOn s v n e st f (what_lanes s st e.what f.lanes)

pub found_on_later : (s : Script) (v w : View) (n : ℕ) (e : Event) (st : Stand) (f : Found) (xs : List Lane) →
    Grows v w → AreFoundOn s v n e st f xs → AreFoundOn s w n e st f xs
found_on_later s v w n e st f [] g h = tt
found_on_later s v w n e st f (x ∷ xs) g h =
    ((h.0.0, h.0.1, (h.0.2.0, g.prefixes h.0.2.0 h.0.2.1, h.0.2.2, h.0.2.3)), found_on_later s v w n e st f xs g h.1)

pub found_later : (s : Script) (v w : View) (n : ℕ) (e : Event) (st : Stand) (f : Found) → Grows v w →
    FoundBy s v n e st f → FoundBy s w n e st f
found_later s v w n e st f g h =
    record {
      drawn = g.entries _ h.drawn;
      threads = h.threads;
      named = h.named;
      on = found_on_later s v w n e st f _ g h.on;
    }

-- the longest beginning of the lane's list that the pass knows leaves the state found: that is the last state that it
-- knows of the lane
abbrev pub IsShownOn : Script → View → Found → Lane → Type 0
IsShownOn s v f x = (notes : List Note) × IsShown s f x notes × Knows (lane_number s x) notes v ×
    IsLongest (lane_number s x) notes v

abbrev pub AreShownOn : Script → View → Found → List Lane → Type 0
AreShownOn s v f [] = Unit {0}
AreShownOn s v f (x ∷ xs) = IsShownOn s v f x × AreShownOn s v f xs

-- ---- the entries of a pass, on the lists of their lanes

-- the pass knows a beginning of the lane's list that has the number
abbrev pub IsListedOn : View → ℕ → ℕ → Type 0
IsListedOn v n lane = (k : LaneList) × Contains v.prefixes k × (k.lane ≡ lane) × Contains (note_numbers k.notes) n

-- the pass knows each of its entries on the list of each lane of that entry
abbrev pub AreListed : View → Type 0
AreListed v = (e : Entry) → Contains v.entries e → (lane : ℕ) → Contains e.lanes lane → IsListedOn v e.number lane
