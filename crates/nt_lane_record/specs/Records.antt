-- What stands behind a lane's lock beside its state: its numbers, what it tells of requests, and its keeper.
use Rattle.std.specs.List.{list_any}
use Rattle.std.specs.Prelude.{Contains, List, [], get_or, set, ℕ, ◌*◌, ◌++◌, ◌+◌, ◌∷◌, ◌≡◌, ◌≤◌}
use Rattle.atomic_table.specs.Seated.{TableId}
use Rattle.nt_event.specs.declared.events.Event.{Event}
use Rattle.nt_event.specs.declared.numbers.CpuNo.{CpuNo}
use Rattle.nt_event.specs.LaneStates.{told_at}
use Rattle.nt_event.specs.Lists.{table}
use Rattle.nt_event.specs.Numbers.{cpu}
use Rattle.nt_event.specs.Requests.{Ask, is_ask, raised}
use Rattle.nt_mark.specs.declared.view.LaneList.{LaneList}
use Rattle.nt_mark.specs.declared.view.Note.{Note}
use Rattle.nt_mark.specs.declared.view.View.{View}
use Rattle.nt_mark.specs.Rule.{IsAbove}
use Rattle.nt_mark.specs.Views.{entry, first_notes, note_numbers, reach, request_word, step_word}
use Rattle.nt_lane_record.specs.Passes.{Learns}

-- what contracts see of it: the lane's number, the keeper's list, the greatest values asked, what the keeper knows of
-- the step word, and how many events there is still room for
pub record LaneRecord : Type 0 where
  pub lane : ℕ
  pub notes : List Note
  pub told : List (List ℕ)
  pub known : ℕ
  pub room : ℕ

-- ---- told values

-- the place of a processor and class in the list of told values
abbrev pub told_place : CpuNo → ℕ → ℕ
told_place p c = p.0 * 16 + c

-- the values of a list, for each processor and class
abbrev pub told_rows : ℕ → List ℕ → List (List ℕ)
told_rows cpus told = table cpus (λ p. table 16 (λ c. get_or told (told_place (cpu p) c) 0))

-- the list after the asks of the event of this number
abbrev pub raised_list : ℕ → List Ask → List ℕ → List ℕ
raised_list n [] told = told
raised_list n (a ∷ asks) told = raised_list n asks (set told (told_place a.cpu a.class) (n + 1))

-- what the lane tells after the event of this number, which asks for these
abbrev pub told_then : ℕ → ℕ → List Ask → List (List ℕ) → List (List ℕ)
told_then cpus n asks told =
    table cpus (λ p. table 16 (λ c. raised (list_any (is_ask (cpu p) c) asks) n (told_at told (cpu p) c)))

-- what is asked of each processor and class is known to have been asked, and to have been drawn
abbrev pub AreKnown : List (List ℕ) → View → Type 0
AreKnown told v = (p : CpuNo) (c : ℕ) → (told_at told p c ≤ reach (request_word p c) v) ×
    (told_at told p c ≤ reach step_word v)

-- the ask of the event of this number is known
abbrev pub IsAskKnown : ℕ → View → Ask → Type 0
IsAskKnown n v a = n + 1 ≤ reach (request_word a.cpu a.class) v

-- ---- what holds whenever the lock is free

-- the number is that of a known entry with the lane
abbrev pub IsKnownWith : ℕ → View → ℕ → Type 0
IsKnownWith lane v n = (e : Event) × (lanes : List ℕ) × Contains lanes lane × Contains v.known (entry n e lanes)

-- of the numbers of a lane's events, told values and keeper
pub record IsTied (table : TableId) (lane : ℕ) (told : List (List ℕ)) (list : List ℕ) (its_table : TableId)
    (its_lane : ℕ) (v : View) : Type 0 where
  pub at : its_table ≡ table
  pub its_lane_is : its_lane ≡ lane
  pub numbers : list ≡ note_numbers (first_notes v.kept)
  pub known : (n : ℕ) → Contains list n → IsKnownWith lane v n
  pub above : IsAbove (reach step_word v) (first_notes v.kept)
  pub asked : AreKnown told v

-- ---- what the calls do

-- the pass knows this beginning of the lane's list
abbrev pub Knows : ℕ → List Note → View → Type 0
Knows lane notes v = (k : LaneList) × Contains v.prefixes k × (k.lane ≡ lane) × (k.notes ≡ notes)

-- a note was put at the end of the list, with what it tells, and the pass knows it
pub record IsNoted (old new : LaneRecord) (v w : View) (note : Note) (told : List (List ℕ)) : Type 0 where
  pub lane : new.lane ≡ old.lane
  pub notes : new.notes ≡ old.notes ++ note ∷ []
  pub told_is : new.told ≡ told
  pub knows : Knows old.lane new.notes w
  pub learns : Learns v w

-- the lane and the pass told each other what they know
pub record IsMet (old new : LaneRecord) (v w : View) : Type 0 where
  pub lane : new.lane ≡ old.lane
  pub notes : new.notes ≡ old.notes
  pub told : new.told ≡ old.told
  pub room : new.room ≡ old.room
  pub known : new.known ≤ reach step_word w
  pub tells : AreKnown old.told w
  pub knows : Knows old.lane old.notes w
  pub learns : Learns v w
