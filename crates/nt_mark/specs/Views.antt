-- What a seat has and knows, as plain data, and what each kind of step makes of it.
use Rattle.std.specs.Prelude.{◌≡◌, map, ℕ, ◌+◌, ◌*◌, ◌==◌, List, [], ◌∷◌, ◌++◌, max, if◌then◌else◌}
use Rattle.nt_event.specs.declared.events.Event.{Event}
use Rattle.nt_event.specs.declared.numbers.CpuNo.{CpuNo}
use Rattle.nt_mark.specs.LaneState.{LaneState}
use Rattle.nt_mark.specs.declared.view.Entry.{Entry}
use Rattle.nt_mark.specs.declared.view.Mark.{Mark}
use Rattle.nt_mark.specs.declared.view.Look.{Look}
use Rattle.nt_mark.specs.declared.view.Note.{Note}
use Rattle.nt_mark.specs.declared.view.LaneList.{LaneList}
use Rattle.nt_mark.specs.declared.view.Reached.{Reached}
use Rattle.nt_mark.specs.declared.view.View.{View}

-- the word that counts the numbers drawn
abbrev pub step_word : ℕ
step_word = 0

-- the word of a processor's requests of one class, of 16
abbrev pub request_word : CpuNo → ℕ → ℕ
request_word p class = 1 + 16 * p.0 + class

-- the word that counts the notes of a lane, behind those of this many processors
abbrev pub lane_word : ℕ → ℕ → ℕ
lane_word cpus lane = 1 + 16 * cpus + lane

abbrev pub entry : ℕ → Event → List ℕ → Entry
entry n e lanes = record { number = n; event = e; lanes = lanes }

abbrev pub mark_of : CpuNo → ℕ → ℕ → Mark
mark_of p class n = record { cpu = p; class = class; number = n }

abbrev pub look_of : CpuNo → ℕ → ℕ → Look
look_of p class value = record { cpu = p; class = class; value = value }

abbrev pub note_of : ℕ → List LaneState → Note
note_of n states = record { number = n; states = states }

abbrev pub reached_at : ℕ → ℕ → Reached
reached_at w value = record { word = w; value = value }

abbrev pub entry_numbers : List Entry → List ℕ
entry_numbers es = map (λ (e : Entry). e.number) es

abbrev pub note_numbers : List Note → List ℕ
note_numbers ns = map (λ (n : Note). n.number) ns

-- the greatest value that the word is known to have reached
abbrev pub greatest : ℕ → List Reached → ℕ
greatest w [] = 0
greatest w (r ∷ rs) = max (if r.word == w then r.value else 0) (greatest w rs)

-- what a seat knows of a word
abbrev pub reach : ℕ → View → ℕ
reach w v = greatest w v.reached

-- the entries that a seat knows, its own among them
abbrev pub known_entries : View → List Entry
known_entries v = v.known ++ v.entries

-- the beginnings of lanes' lists that a seat knows, the lists that it keeps among them
abbrev pub known_lists : View → List LaneList
known_lists v = v.prefixes ++ v.kept

-- after a draw
abbrev pub drawn : View → ℕ → Event → List ℕ → View
drawn v n e lanes = record v {
  entries = v.entries ++ entry n e lanes ∷ [];
  reached = v.reached
      ++ reached_at step_word (n + 1) ∷ [];
}

-- after a mark
abbrev pub marked : View → CpuNo → ℕ → ℕ → View
marked v p class n = record v {
  marks = v.marks ++ mark_of p class n ∷ [];
  reached = v.reached
      ++ reached_at (request_word p class) (n + 1) ∷ [];
}

-- after a look; what was asked was drawn, so the step word has reached it too
abbrev pub looked : View → CpuNo → ℕ → ℕ → View
looked v p class value = record v {
  looks = v.looks ++ look_of p class value ∷ [];
  reached = v.reached
      ++ reached_at (request_word p class) value ∷ reached_at step_word value ∷ [];
}

-- the list that is kept first, with one note more
abbrev pub noted_at : List LaneList → Note → List LaneList
noted_at [] n = []
noted_at (k ∷ ks) n = record { lane = k.lane; word = k.word; notes = k.notes ++ n ∷ [] } ∷ ks

-- after a note
abbrev pub noted : View → Note → View
noted v n = record v { kept = noted_at v.kept n }

-- the list that is kept first
abbrev pub first_notes : List LaneList → List Note
first_notes [] = []
first_notes (k ∷ ks) = k.notes

abbrev pub kept_lanes : View → List ℕ
kept_lanes v = map (λ (k : LaneList). k.lane) v.kept

abbrev pub kept_words : View → List ℕ
kept_words v = map (λ (k : LaneList). k.word) v.kept

-- a new seat that is told all that this one knows, with these parts and lanes
abbrev pub telling : View → ℕ → List LaneList → View
telling v parts kept = record {
  parts = parts;
  kept = kept;
  entries = [];
  marks = [];
  looks = [];
  reached = v.reached;
  known = known_entries v;
  prefixes = known_lists v;
}

-- the same seat with these parts and lanes
abbrev pub keeping : View → ℕ → List LaneList → View
keeping v parts kept = record v { parts = parts; kept = kept }

abbrev pub first_kept : List LaneList → List LaneList
first_kept [] = []
first_kept (k ∷ ks) = k ∷ []

abbrev pub other_kept : List LaneList → List LaneList
other_kept [] = []
other_kept (k ∷ ks) = ks

-- two seats as one
abbrev pub both : View → View → View
both v w = record {
  parts = v.parts + w.parts;
  kept = v.kept ++ w.kept;
  entries = v.entries ++ w.entries;
  marks = v.marks ++ w.marks;
  looks = v.looks ++ w.looks;
  reached = v.reached ++ w.reached;
  known = v.known ++ w.known;
  prefixes = v.prefixes ++ w.prefixes;
}

-- a seat has what it had, and may know more
pub record HasSame (before after : View) : Type 0 where
  pub parts : after.parts ≡ before.parts
  pub kept : after.kept ≡ before.kept
  pub entries : after.entries ≡ before.entries
  pub marks : after.marks ≡ before.marks
  pub looks : after.looks ≡ before.looks

-- a seat that has and knows nothing
abbrev pub spent : View
spent = record { parts = 0; kept = []; entries = []; marks = []; looks = []; reached = []; known = []; prefixes = [] }
