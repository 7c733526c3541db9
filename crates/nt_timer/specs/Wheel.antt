-- The wheel of timers: where each key stands.
use Rattle.std.specs.Prelude.{List, None, Option, Some, if◌then◌else◌, length, nat_le, nat_lt, slice_index, ℕ, ◌+◌, ◌<◌}
use Rattle.std.specs.Prelude.{◌≡◌, ◌≤◌, ◌⊎◌}
use Rattle.nt_event.specs.declared.inserts.Setting.{Setting}
use Rattle.nt_event.specs.Timers.{setting_in}
use Rattle.nt_timer.specs.declared.due.DueKey.{DueKey}
use Rattle.nt_timer.specs.declared.rings.TheConstants.{HEADS}
use Rattle.nt_timer.specs.Due.{AreSorted, EachOnce, IsBefore, IsIn, placed, without}
use Rattle.nt_timer.specs.Slots.{slot_index}

-- the time, and when each key is due, if it is set
pub record WheelFacts : Type 0 where
  pub now : ℕ
  pub settings : List (Option Setting)

abbrev pub due_key : ℕ → Setting → DueKey
due_key k s = record { due = s.due; number = s.number; key = k }

-- the ring of a key that is set: that of its slot, where it isn't due and has one of the wheel's slots, else none
abbrev pub home_of : ℕ → ℕ → ℕ → ℕ
home_of now due k =
    if nat_le due now then HEADS + k else if nat_lt (slot_index now due) HEADS then slot_index now due else HEADS + k

-- the key stands where its setting says
abbrev pub Stands : ℕ → List DueKey → ℕ → Option Setting → ℕ → Type 0
Stands now due k None home = home ≡ HEADS + k
Stands now due k (Some s) home = (home ≡ home_of now s.due k) × (s.due ≤ now → IsIn (due_key k s) due)

-- a due key is one that is set and due, and stands in no slot
pub record IsListed (now : ℕ) (settings : List (Option Setting)) (homes : List ℕ) (e : DueKey) : Type 0 where
  pub below : e.key < length settings
  pub setting : Setting
  pub set : setting_in settings e.key ≡ Some setting
  pub same : e ≡ due_key e.key setting
  pub reached : setting.due ≤ now
  pub alone : slice_index homes (HEADS + e.key) ≡ HEADS + e.key

-- each key stands where its setting says, in a ring that is allowed, or is one of those that are excepted there
pub record IsKept (now : ℕ) (Allowed : ℕ → Type 0) (Excepted : ℕ → ℕ → Type 0) (settings : List (Option Setting))
    (homes : List ℕ)
    (due : List DueKey) : Type 0 where
  pub nodes : length homes ≡ HEADS + length settings
  pub sorted : AreSorted due
  pub once : EachOnce due
  pub listed : (e : DueKey) → IsIn e due → IsListed now settings homes e
  pub stands : (k : ℕ) → k < length settings →
      (Stands now due k (setting_in settings k) (slice_index homes (HEADS + k)) ×
      Allowed (slice_index homes (HEADS + k))) ⊎
      Excepted k (slice_index homes (HEADS + k))

-- no key stands in a slot below the lowest
abbrev pub IsWheel : ℕ → ℕ → List (Option Setting) → List ℕ → List DueKey → Type 0
IsWheel lowest now settings homes due = IsKept now (λ home. lowest ≤ home) (λ k home. ⊥) settings homes due

-- while the time goes on from `past` to `now`, a key may still wait in a slot from this one on, up to that of the new
-- time
abbrev pub Waits : ℕ → ℕ → ℕ → Option Setting → ℕ → Type 0
Waits past now from None home = ⊥
Waits past now from (Some s) home =
    (past < s.due) × (home ≡ slot_index past s.due) × (from ≤ home) × (home ≤ slot_index past now)

abbrev pub IsPassed : ℕ → ℕ → ℕ → ℕ → Type 0
IsPassed past now from home = (home < from) ⊎ (slot_index past now < home)

abbrev pub IsTurned : ℕ → ℕ → ℕ → ℕ → List (Option Setting) → List ℕ → List DueKey → Type 0
IsTurned lowest past now from settings homes due =
    IsKept now (λ home. (lowest ≤ home) × IsPassed past now from home)
    (λ k home. Waits past now from (setting_in settings k) home) settings homes due

-- what is left of the due keys without the key that has this setting
abbrev pub due_without : ℕ → ℕ → Option Setting → List DueKey → List DueKey
due_without now k None due = due
due_without now k (Some s) due = if nat_le s.due now then without k due else due

-- the due keys with the key that has this setting, where it is due
abbrev pub due_with : ℕ → ℕ → Setting → List DueKey → List DueKey
due_with now k s due = if nat_le s.due now then placed (due_key k s) due else due

-- the key is due, and no due key is before it
pub record IsFirstKey (now : ℕ) (settings : List (Option Setting)) (e : DueKey) : Type 0 where
  pub setting : Setting
  pub set : setting_in settings e.key ≡ Some setting
  pub same : e ≡ due_key e.key setting
  pub reached : setting.due ≤ now
  pub first : (k : ℕ) (s : Setting) → setting_in settings k ≡ Some s → s.due ≤ now →
      (k ≡ e.key) ⊎ IsBefore e (due_key k s)
