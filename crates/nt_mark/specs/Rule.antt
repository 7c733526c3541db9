-- The rule of the table, which holds between any two steps, and what each kind of step tells.
use Rattle.std.specs.Prelude.{◌≡◌, ◌⊎◌, ℕ, zero, suc, ◌+◌, ◌*◌, ◌<◌, ◌≤◌, List, [], ◌∷◌, ◌++◌, length, slice_index}
use Rattle.std.specs.Prelude.{slice_index_or, All, Contains, sum_by}
use mathlib.Core.Option.{some}
use lib.ListN.{get_elem?}
use Rattle.std.specs.List.Sorted.{IsStrictlyIncreasing}
use Rattle.nt_event.specs.declared.limits.TheConstants.{EVENTS}
use Rattle.atomic_table.specs.Table.{State, Me}
use Rattle.atomic_table.specs.Seated.{TableId}
use Rattle.nt_event.specs.declared.events.Event.{Event}
use Rattle.nt_event.specs.declared.numbers.CpuNo.{CpuNo}
use Rattle.nt_mark.specs.declared.view.Entry.{Entry}
use Rattle.nt_mark.specs.declared.view.Mark.{Mark}
use Rattle.nt_mark.specs.declared.view.Look.{Look}
use Rattle.nt_mark.specs.declared.view.Note.{Note}
use Rattle.nt_mark.specs.declared.view.LaneList.{LaneList}
use Rattle.nt_mark.specs.declared.view.Reached.{Reached}
use Rattle.nt_mark.specs.declared.view.View.{View}
use Rattle.nt_mark.specs.declared.view.Sizes.{Sizes}
use Rattle.nt_mark.specs.Views.{step_word, request_word, lane_word, mark_of, drawn, marked, looked, noted, note_numbers}
use Rattle.nt_mark.specs.Views.{first_notes, reach}

-- h of each number below n, added up
abbrev pub sum_below : (ℕ → ℕ) → ℕ → ℕ
sum_below h zero = 0
sum_below h (suc n) = sum_below h n + h n

-- some seat has this mark
abbrev pub IsMarked : List View → Mark → Type 0
IsMarked views m = (j : ℕ) × (v : View) × (get_elem? views j ≡ some v) × Contains v.marks m

-- the value is 0, or one more than the number of a mark for this processor and class
abbrev pub IsAsked : List View → CpuNo → ℕ → ℕ → Type 0
IsAsked views p class value = (value ≡ 0) ⊎ ((n : ℕ) × (value ≡ n + 1) × IsMarked views (mark_of p class n))

abbrev pub IsBeginning : {A : Type 0} → List A → List A → Type 0
IsBeginning {A} xs ys = (rest : List A) × (ys ≡ xs ++ rest)

-- each beginning of this lane's list that the view knows is a beginning of these notes
pub record IsLongest (lane : ℕ) (notes : List Note) (v : View) : Type 0 where
  pub fronts : (k : LaneList) → Contains v.prefixes k → k.lane ≡ lane → IsBeginning k.notes notes

-- n is above the last number of the list, if it has one
abbrev pub IsAbove : ℕ → List Note → Type 0
IsAbove n [] = Unit {0}
IsAbove n (x ∷ []) = x.number < n
IsAbove n (x ∷ y ∷ ys) = IsAbove n (y ∷ ys)

-- log has each entry that was drawn at its number, and lists the list of each lane
module _ (key : Sizes) (words : List ℕ) (views : List View) (log : List Entry) (lists : List (List Note)) where
  -- what the rule says of one view
  pub record Fits (v : View) : Type 0 where
    -- a view has at most the limit times its parts entries
    pub few : length v.entries ≤ key.limit * v.parts
    pub own : (e : Entry) → Contains v.entries e → get_elem? log e.number ≡ some e
    -- each mark names the number of an entry of the same view
    pub marks : (m : Mark) → Contains v.marks m → (e : Entry) × Contains v.entries e × (e.number ≡ m.number)
    -- an entry that a view knows stands as an entry in some view
    pub known : (e : Entry) → Contains v.known e → get_elem? log e.number ≡ some e
    -- the prefix that a view knows of a lane's list is a prefix of its keeper's list
    pub prefixes : (k : LaneList) → Contains v.prefixes k → (k.lane < key.lanes) ×
        IsBeginning k.notes (slice_index_or lists k.lane [])
    pub kept : (k : LaneList) → Contains v.kept k → (k.lane < key.lanes) × (k.notes ≡ slice_index_or lists k.lane []) ×
        (k.word ≡ lane_word key.cpus k.lane)
    -- no view knows more of a word than the word holds
    pub reached : (r : Reached) → Contains v.reached r → r.value ≤ slice_index words r.word
    -- each value looked in a request word is 0 or one more than the number of a mark on it
    pub looks : (l : Look) → Contains v.looks l → IsAsked views l.cpu l.class l.value

  pub record Keeps : Type 0 where
    pub wide : length words ≡ 1 + 16 * key.cpus + key.lanes
    pub small : key.limit * key.parts ≤ EVENTS
    -- word 0 is the count of entries in all views, and entries have different numbers below it
    pub steps : slice_index words step_word ≡ length log
    pub drawn_once : (h : ℕ → ℕ) → sum_by (λ v. sum_by (λ (e : Entry). h e.number) v.entries) views
        ≡ sum_below h (length log)
    -- the parts of all views add up to those of the start
    pub parts : sum_by (λ v. v.parts) views ≡ key.parts
    -- each lane is kept by exactly one view, and a lane's word is the length of its keeper's list
    pub kept_once : (h : ℕ → ℕ) → sum_by (λ v. sum_by (λ (k : LaneList). h k.lane) v.kept) views ≡ sum_below h key.lanes
    pub lane_words : (x : ℕ) → x < key.lanes → slice_index words (lane_word key.cpus x)
        ≡ length (slice_index_or lists x [])
    pub all_lists : length lists ≡ key.lanes
    -- the numbers on that list rise, and each is that of an entry with that lane in some view
    pub rise : (x : ℕ) → x < key.lanes → IsStrictlyIncreasing (note_numbers (slice_index_or lists x []))
    pub of_entries : (x : ℕ) (n : Note) → x < key.lanes → Contains (slice_index_or lists x []) n → (e : Entry) ×
        (get_elem? log e.number ≡ some e) × (e.number ≡ n.number) × Contains e.lanes x
    -- a request word is 0 or one more than the number of a mark on it
    pub asked : (p : CpuNo) (class : ℕ) → p.0 < key.cpus → class ≤ 15 →
        IsAsked views p class (slice_index words (request_word p class))
    pub each : (j : ℕ) (v : View) → get_elem? views j ≡ some v → Fits v

abbrev pub Holds : {S : Type 0} → Sizes → State S View → Type 0
Holds key s = (log : List Entry) × (lists : List (List Note)) × Keeps key s.words s.views log lists

-- what the steps tell of the seat before, the number found and the seat after
abbrev pub Draws : {S : Type 0} → Event → List ℕ → ℕ → Me S View → ℕ → Me S View → Type 0
Draws e lanes most m n m' = (m'.1 ≡ m.1) × (m'.0 ≡ drawn m.0 n e lanes) × (reach step_word m.0 ≤ n) ×
    All (λ (l : Look). l.value ≤ n) m.0.looks × (n < most)

abbrev pub Marks : {S : Type 0} → CpuNo → ℕ → ℕ → Me S View → Me S View → Type 0
Marks p class n m m' = (m'.1 ≡ m.1) × (m'.0 ≡ marked m.0 p class n)

abbrev pub Looks : {S : Type 0} → CpuNo → ℕ → Me S View → ℕ → Me S View → Type 0
Looks p class m n m' = (m'.1 ≡ m.1) × (m'.0 ≡ looked m.0 p class n) × (reach (request_word p class) m.0 ≤ n)

abbrev pub Notes : {S : Type 0} → Note → Me S View → ℕ → Me S View → Type 0
Notes x m n m' = (m'.1 ≡ m.1) × (m'.0 ≡ noted m.0 x) × (n ≡ length (first_notes m.0.kept))

-- each list that the seat knows of a lane that it keeps is a beginning of the one that it keeps
abbrev pub Compares : {S : Type 0} → Me S View → Me S View → Type 0
Compares m m' = (m' ≡ m) × ((k : LaneList) → Contains m.0.kept k → IsLongest k.lane k.notes m.0)

-- n lanes from this one on, with empty lists
abbrev pub empty_lists : ℕ → ℕ → ℕ → List LaneList
empty_lists cpus lane zero = []
empty_lists cpus lane (suc n) = record { lane = lane; word = lane_word cpus lane; notes = [] } ∷ empty_lists cpus
    (lane + 1) n

-- the first seat has all parts and keeps all lanes
abbrev pub opening_view : Sizes → View
opening_view key = record {
  parts = key.parts;
  kept = empty_lists key.cpus 0 key.lanes;
  entries = [];
  marks = [];
  looks = [];
  reached = [];
  known = [];
  prefixes = [];
}

abbrev pub no_table : TableId
no_table = record { words = 0; slots = 0; views_name = 0; atom = 0; block = 0; offset = 0; slot_names = [] }
