-- What contracts see of words and floors, and what each call does to it.
use Rattle.std.specs.Prelude.{Bool, IfSome, List, Option, Some, [], false, map, if◌then◌else◌, max, true, ℕ, ◌&&◌, ◌+◌}
use Rattle.std.specs.Prelude.{◌<◌, ◌==◌, ◌^◌, ◌||◌, ◌≡◌, ◌≤◌}
use Rattle.nt_event.specs.declared.events.Event.{Event}
use Rattle.nt_event.specs.declared.events.Rises.{Rises}
use Rattle.nt_event.specs.declared.jobs.Lane.{Lane}
use Rattle.nt_event.specs.declared.jobs.Stand.{Stand}
use Rattle.nt_event.specs.declared.numbers.CpuNo.{CpuNo}
use Rattle.nt_event.specs.declared.scripts.Script.{Script}
use Rattle.nt_event.specs.Lanes.{Lanes, lane_number, lanes_after, lanes_at, what_lanes}
use Rattle.nt_event.specs.Lists.{table, value_at}
use Rattle.nt_event.specs.Requests.{asks_in, raised, what_asks}
use Rattle.nt_event.specs.Acts.{Found, Told, told_after}
use Rattle.nt_floor.specs.Lists.{Lists, with_draw, with_look, with_mark, with_marks}

pub record View : Type 0 where
  -- the number of processors
  pub cpus : ℕ
  -- whether nobody else draws, marks or looks at the words
  pub alone : Bool
  -- how many numbers may still be drawn, and the least next one
  pub drawable : ℕ
  pub next : ℕ
  -- the draws, marks and looks, where they are told
  pub lists : Option Lists
  -- the value that is known of a processor's word of a class
  pub value : CpuNo → ℕ → ℕ
  -- the event of a number was marked here as asking for a class of a processor
  pub marked : ℕ → CpuNo → ℕ → Bool
  -- the states of the lanes, where they are told, and what they tell of requests then
  pub states : Option Lanes
  pub told : Told

-- the states are these, where they are told
abbrev pub Tells : Option Lanes → Lanes → Type 0
Tells states l = IfSome states (λ m. m ≡ l)

-- a processor and a class for which the view has a word
abbrev pub HasWord : View → CpuNo → ℕ → Type 0
HasWord v p c = (p.0 < v.cpus) × (c < 16)

-- neither the processors, nor who else is there, nor the states of the lanes changed
pub record SameFloor (v w : View) : Type 0 where
  pub cpus : w.cpus ≡ v.cpus
  pub alone : w.alone ≡ v.alone
  pub states : w.states ≡ v.states
  pub told : (x : Lane) (p : CpuNo) (c : ℕ) → HasWord v p c → w.told x p c ≡ v.told x p c

-- the number of an event was drawn: not below the least next one, and exactly it where nobody else draws; its ask fits
-- 64 bits
pub record IsDrawn (n : ℕ) (e : Event) (v w : View) : Type 0 where
  pub least : v.next ≤ n
  pub exact : v.alone ≡ true → n ≡ v.next
  pub fits : n + 1 < 2 ^ 64
  pub next : w.next ≡ n + 1
  pub drawable : w.drawable + 1 ≡ v.drawable
  pub lists : w.lists ≡ with_draw n e [] v.lists
  pub value : (p : CpuNo) (c : ℕ) → HasWord v p c → w.value p c ≡ v.value p c
  pub marked : (k : ℕ) (p : CpuNo) (c : ℕ) → HasWord v p c → w.marked k p c ≡ v.marked k p c
  pub same : SameFloor v w

-- the mark is for this word
abbrev pub is_word : CpuNo → ℕ → CpuNo → ℕ → Bool
is_word p c q d = (q.0 == p.0) && (d == c)

-- the event of number n was marked as asking for class c of p
pub record IsMarked (p : CpuNo) (c n : ℕ) (v w : View) : Type 0 where
  pub next : w.next ≡ v.next
  pub drawable : w.drawable ≡ v.drawable
  pub lists : w.lists ≡ with_mark p c n v.lists
  pub value : (q : CpuNo) (d : ℕ) → HasWord v q d → w.value q d
      ≡ (if is_word p c q d then max (v.value q d) (n + 1) else v.value q d)
  pub marked : (k : ℕ) (q : CpuNo) (d : ℕ) → HasWord v q d → w.marked k q d
      ≡ (v.marked k q d || ((k == n) && is_word p c q d))
  pub same : SameFloor v w

-- a look at the word of class c of p gave this value: at least the known one, and exactly it where nobody else marks
pub record IsLooked (p : CpuNo) (c a : ℕ) (v w : View) : Type 0 where
  pub least : v.value p c ≤ a
  pub exact : v.alone ≡ true → a ≡ v.value p c
  pub next : (v.next ≤ w.next) × (a ≤ w.next)
  pub next_exact : v.alone ≡ true → w.next ≡ v.next
  pub drawable : w.drawable ≡ v.drawable
  pub lists : w.lists ≡ with_look p c a v.lists
  pub value : (q : CpuNo) (d : ℕ) → HasWord v q d → w.value q d ≡ (if is_word p c q d then a else v.value q d)
  pub marked : (k : ℕ) (q : CpuNo) (d : ℕ) → HasWord v q d → w.marked k q d ≡ v.marked k q d
  pub same : SameFloor v w

-- an event under lanes was made in the states found, by a processor that stood so: exactly its asks were marked, and
-- where the states are told they are what it leaves
pub record IsMoved (s : Script) (n : ℕ) (e : Event) (st : Stand) (f : Found) (v w : View) : Type 0 where
  pub cpus : w.cpus ≡ v.cpus
  pub alone : w.alone ≡ v.alone
  pub least : (v.next ≤ n) × (n + 1 ≤ w.next)
  pub exact : v.alone ≡ true → (n ≡ v.next) × (w.next ≡ n + 1)
  pub drawable : w.drawable + 1 ≡ v.drawable
  pub lists : w.lists ≡ with_marks n (what_asks s st e.what f.lanes)
      (with_draw n e (map (lane_number s) (what_lanes s st e.what f.lanes)) v.lists)
  pub marked : (k : ℕ) (q : CpuNo) (c : ℕ) → HasWord v q c → w.marked k q c
      ≡ (v.marked k q c || ((k == n) && asks_in s st e.what f.lanes q c))
  pub value : v.alone ≡ true → (q : CpuNo) (c : ℕ) → HasWord v q c → w.value q c
      ≡ raised (asks_in s st e.what f.lanes q c) n (v.value q c)
  pub never_falls : (q : CpuNo) (c : ℕ) → HasWord v q c → v.value q c ≤ w.value q c
  pub asked : (q : CpuNo) (c : ℕ) → HasWord v q c → asks_in s st e.what f.lanes q c ≡ true → n + 1 ≤ w.value q c
  pub before : Tells v.states f.lanes
  pub after : Tells w.states (lanes_after s n st e f.lanes)
  pub told_before : v.alone ≡ true → (x : Lane) (q : CpuNo) (c : ℕ) → HasWord v q c → v.told x q c ≡ f.told x q c
  pub told_after : v.alone ≡ true → (x : Lane) (q : CpuNo) (c : ℕ) → HasWord v q c → w.told x q c
      ≡ told_after s n st e.what f x q c

-- a processor that stood so was told these values: what it has seen rose to them, and its words know them
pub record IsTold (st : Stand) (told : Rises) (old new : List ℕ) (w : View) : Type 0 where
  pub seen : new ≡ table 16 (λ c. max (value_at old c) (value_at told.value c))
  pub known : (c : ℕ) → c < 16 → (value_at told.value c ≤ w.value st.cpu c) × (value_at told.value c ≤ w.next)

-- no event was made; a floor that is alone didn't change at all
pub record IsUnmoved (v w : View) : Type 0 where
  pub same : SameFloor v w
  pub drawable : w.drawable ≡ v.drawable
  pub lists : w.lists ≡ v.lists
  pub next : v.next ≤ w.next
  pub never_falls : (q : CpuNo) (c : ℕ) → HasWord v q c → v.value q c ≤ w.value q c
  pub marked : (k : ℕ) (q : CpuNo) (c : ℕ) → HasWord v q c → w.marked k q c ≡ v.marked k q c
  pub exact : v.alone ≡ true → (w.next ≡ v.next) × ((q : CpuNo) (c : ℕ) → HasWord v q c → w.value q c ≡ v.value q c)

-- nothing happened on it: nobody else is there, so many numbers may be drawn, the lanes are as the script opens them,
-- and nobody asked for anything
pub record IsOpening (s : Script) (numbers : ℕ) (v : View) : Type 0 where
  pub cpus : v.cpus ≡ s.cpus
  pub alone : v.alone ≡ true
  pub drawable : v.drawable ≡ numbers
  pub next : v.next ≡ 0
  pub states : v.states ≡ Some (lanes_at s [])
  pub told : (x : Lane) (p : CpuNo) (c : ℕ) → HasWord v p c → v.told x p c ≡ 0
  pub value : (p : CpuNo) (c : ℕ) → HasWord v p c → v.value p c ≡ 0
  pub marked : (k : ℕ) (p : CpuNo) (c : ℕ) → HasWord v p c → v.marked k p c ≡ false
