-- What calls do to the timers, one after another.
use Rattle.std.specs.Prelude.{List, None, ℕ, [], ◌+◌, ◌<◌, ◌∷◌}
use Rattle.nt_event.specs.declared.commands.TimerKey.{TimerKey}
use Rattle.nt_event.specs.declared.commands.TimerKey.TheVariants.{Delay as OfDelay, Timer as OfTimer}
use Rattle.nt_event.specs.declared.numbers.ThreadNo.{ThreadNo}
use Rattle.nt_event.specs.declared.numbers.TimerNo.{TimerNo}
use Rattle.nt_event.specs.Timers.{Timers}
use Rattle.nt_timer.specs.Settings.{due_at, expired, with_setting}

-- a call that changes the time or a setting: a set with its due field, period and number, a cancel, a delay with its
-- due time and number, an advance, or an expiry with its number
pub data Change : Type 0 where
  Set : TimerNo → ℕ → ℕ → ℕ → Change
  Cancelled : TimerNo → Change
  Delayed : ThreadNo → ℕ → ℕ → Change
  Advanced : ℕ → Change
  Expired : TimerKey → ℕ → Change

abbrev pub changed : Change → Timers → Timers
changed (Set t due period n) x = with_setting (OfTimer t) (due_at (x.now + due) n period) x
changed (Cancelled t) x = with_setting (OfTimer t) None x
changed (Delayed t due n) x = with_setting (OfDelay t) (due_at due n 0) x
changed (Advanced units) x = record x { now = x.now + units }
changed (Expired key n) x = expired key n x

-- the timers after the changes, of which the last stands first
abbrev pub after_changes : Timers → List Change → Timers
after_changes x [] = x
after_changes x (c ∷ past) = changed c (after_changes x past)

-- every set, delay and expiry among the changes has a number below n
abbrev pub NumberedBelow : ℕ → List Change → Type 0
NumberedBelow n [] = Unit {0}
NumberedBelow n (Set t due period m ∷ past) = (m < n) × NumberedBelow n past
NumberedBelow n (Delayed t due m ∷ past) = (m < n) × NumberedBelow n past
NumberedBelow n (Expired key m ∷ past) = (m < n) × NumberedBelow n past
NumberedBelow n (_ ∷ past) = NumberedBelow n past

-- each set, delay and expiry has a number above those before it
abbrev pub NumbersRise : List Change → Type 0
NumbersRise [] = Unit {0}
NumbersRise (Set t due period m ∷ past) = NumberedBelow m past × NumbersRise past
NumbersRise (Delayed t due m ∷ past) = NumberedBelow m past × NumbersRise past
NumbersRise (Expired key m ∷ past) = NumberedBelow m past × NumbersRise past
NumbersRise (_ ∷ past) = NumbersRise past
