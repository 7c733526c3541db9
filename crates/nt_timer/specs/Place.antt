-- The slot of a key that isn't due, by digits of six bits.
use Rattle.std.specs.Prelude.{Some, ℕ, ◌%◌, ◌/◌, ◌<◌, ◌^◌, ◌≡◌, ◌≤◌}
use Rattle.nt_event.specs.declared.commands.TimerKey.{TimerKey}
use Rattle.nt_event.specs.declared.inserts.Setting.{Setting}
use Rattle.nt_event.specs.Timers.{Timers}
use Rattle.nt_timer.specs.Settings.{setting_at}
use Rattle.nt_timer.specs.declared.slots.Slot.{Slot}

-- the digit of six bits at this place, from 0, the lowest
abbrev pub digit : ℕ → ℕ → ℕ
digit place x = x / 64 ^ place % 64

-- the level is the greatest place at which the digits of the time and of the due time differ, the slot is that digit of
-- the due time
pub record IsSlotOf (now due level slot : ℕ) : Type 0 where
  pub own : slot ≡ digit level due
  pub differs : digit level now ≡ digit level due → ⊥
  pub above : (place : ℕ) → level < place → digit place now ≡ digit place due

-- a key that is set and isn't due, in its slot
pub record IsPlace (x : Timers) (key : TimerKey) (s : Slot) : Type 0 where
  pub setting : Setting
  pub is_set : setting_at key x ≡ Some setting
  pub late : x.now < setting.due
  pub slot : IsSlotOf x.now setting.due s.level s.slot

-- the key isn't set or is due
abbrev pub HasNoPlace : Timers → TimerKey → Type 0
HasNoPlace x key = (s : Setting) → setting_at key x ≡ Some s → s.due ≤ x.now
