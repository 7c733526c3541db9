-- What holds of a floor in memory at any time, and what each call leaves of it.
use Rattle.std.specs.Int.Bits.{bit_or}
use Rattle.std.specs.Prelude.{All, List, [], false, get_or, length, max, set, ℕ, ◌%◌, ◌*◌, ◌+◌, ◌<◌, ◌^◌, ◌∷◌, ◌≡◌, ◌≤◌}
use Rattle.nt_event.specs.declared.limits.TheConstants.{EVENTS}
use Rattle.nt_event.specs.declared.events.What.{What}
use Rattle.nt_event.specs.declared.jobs.Lane.{Lane}
use Rattle.nt_event.specs.declared.jobs.Stand.{Stand}
use Rattle.nt_event.specs.declared.numbers.CpuNo.{CpuNo}
use Rattle.nt_event.specs.declared.scripts.Script.{Script}
use Rattle.nt_event.specs.Acting.{acted_event}
use Rattle.nt_event.specs.Lanes.{lane_count, lanes_after, what_lanes}
use Rattle.nt_event.specs.Lists.{table}
use Rattle.nt_event.specs.Requests.{Ask, asks_in, raised, what_asks}
use Rattle.nt_event.specs.Acts.{Found, told_over}
use Rattle.nt_states.specs.AllStates.{AllStates}
use Rattle.nt_states.specs.Allowed.{MayMake}
use Rattle.nt_states.specs.LaneLists.{AskFits, LaneFits}
use Rattle.nt_plain.specs.Classes.{is_told_class}
use Rattle.nt_plain.specs.Places.{row_of, told_in, told_place, value_in, word_place}
use Rattle.nt_plain.specs.States.{PlainState}

-- what holds at any time: the lists have their lengths, a told value was asked and is of a class that lanes tell of, an
-- asked value is one of a number drawn, and the time is as far as the events may have let it advance
pub record IsKept (f : PlainState) : Type 0 where
  pub asked_length : length f.asked ≡ 16 * f.script.cpus
  pub marks_length : length f.marks ≡ f.limit * f.script.cpus
  pub told_length : length f.told ≡ lane_count f.script * f.script.cpus * 16
  pub cpus : f.script.cpus ≤ 64
  pub lane_count : lane_count f.script ≤ 1024
  pub limit : f.limit ≤ EVENTS
  pub next : f.next ≤ f.limit
  pub asked : (p : CpuNo) (c : ℕ) → p.0 < f.script.cpus → c < 16 → value_in f.asked p c ≤ f.next
  pub told : (x : Lane) (p : CpuNo) (c : ℕ) → p.0 < f.script.cpus → c < 16 →
      told_in f.script f.told x p c ≤ value_in f.asked p c
  pub told_others : (x : Lane) (p : CpuNo) (c : ℕ) → p.0 < f.script.cpus → c < 16 → is_told_class x c ≡ false →
      told_in f.script f.told x p c ≡ 0
  pub time : f.lanes.timers.now ≤ f.next * 2 ^ 32

-- ---- words

-- the word of a processor and class is raised to a value
abbrev pub raised_word : ℕ → CpuNo → ℕ → List ℕ → List ℕ
raised_word to p c xs = set xs (word_place p c) (max (value_in xs p c) to)

abbrev pub raised_words : ℕ → List Ask → List ℕ → List ℕ
raised_words to [] xs = xs
raised_words to (a ∷ asks) xs = raised_words to asks (raised_word to a.cpu a.class xs)

-- ---- marks

abbrev pub with_bit : ℕ → ℕ → ℕ
with_bit c x = bit_or x (1 * 2 ^ c % 2 ^ 16)

-- the event of a number is marked for a class of a processor
abbrev pub marked_in : ℕ → ℕ → CpuNo → ℕ → List ℕ → List ℕ
marked_in cpus n p c marks = set marks (row_of cpus n p) (with_bit c (get_or marks (row_of cpus n p) 0))

abbrev pub marked_all : ℕ → ℕ → List Ask → List ℕ → List ℕ
marked_all cpus n [] marks = marks
marked_all cpus n (a ∷ asks) marks = marked_all cpus n asks (marked_in cpus n a.cpu a.class marks)

-- ---- told values

-- a lane tells of these asks with a value
abbrev pub tell_lane : Script → ℕ → Lane → List Ask → List ℕ → List ℕ
tell_lane s to x [] told = told
tell_lane s to x (a ∷ asks) told = tell_lane s to x asks (set told (told_place s x a.cpu a.class) to)

abbrev pub tell_lanes : Script → ℕ → List Lane → List Ask → List ℕ → List ℕ
tell_lanes s to [] asks told = told
tell_lanes s to (x ∷ lanes) asks told = tell_lanes s to lanes asks (tell_lane s to x asks told)

-- ---- what is told

-- the greatest values that the lanes that an event touches tell its processor, its own requests among them
abbrev pub told_values : PlainState → Stand → What → List ℕ
told_values f st w =
    table 16 (λ c. raised (asks_in f.script st w f.lanes st.cpu c) f.next
    (told_over (told_in f.script f.told) (what_lanes f.script st w f.lanes) st.cpu c))

-- ---- calls

-- the states of the lanes of a floor
abbrev pub states_of : PlainState → AllStates
states_of f = record { script = f.script; lanes = f.lanes }

abbrev pub drawn : PlainState → PlainState
drawn f = record f { next = f.next + 1 }

abbrev pub marked : CpuNo → ℕ → ℕ → PlainState → PlainState
marked p c n f =
    record f { asked = raised_word (n + 1) p c f.asked; marks = marked_in f.script.cpus n p c f.marks }

-- the states in which a floor makes its next event, and what the lanes tell then
abbrev pub found_of : PlainState → Found
found_of f = record { lanes = f.lanes; told = λ x p c. told_in f.script f.told x p c }

-- what the event under lanes of a processor that stands so leaves
abbrev pub made : Stand → What → PlainState → PlainState
made st w f =
    record f {
      next = f.next + 1;
      asked = raised_words (f.next + 1) (what_asks f.script st w f.lanes) f.asked;
      marks = marked_all f.script.cpus f.next (what_asks f.script st w f.lanes) f.marks;
      lanes = lanes_after f.script f.next st (acted_event st f.lanes w) f.lanes;
      told = tell_lanes f.script (f.next + 1) (what_lanes f.script st w f.lanes)
          (what_asks f.script st w f.lanes) f.told;
    }

-- an event that a job gives, with the lanes that it touches and what it asks for
pub record IsPlanned (f : PlainState) (st : Stand) (w : What) (xs : List Lane) (ys : List Ask) : Type 0 where
  pub given : MayMake (states_of f) st w
  pub room : f.next < f.limit
  pub lanes : xs ≡ what_lanes f.script st w f.lanes
  pub asks : ys ≡ what_asks f.script st w f.lanes
  pub lanes_named : All (LaneFits f.script) xs
  pub asks_named : All (AskFits f.script) ys
