-- The settings of timers and delays by their keys: what calls answer and leave.
use Rattle.std.specs.Prelude.{List, None, Option, Some, filter, length, option_map, replicate, slice_set, ℕ, ◌<◌, ◌≤◌}
use Rattle.std.specs.Prelude.{◌≡◌}
use Rattle.nt_event.specs.declared.commands.TimerKey.{TimerKey}
use Rattle.nt_event.specs.declared.commands.TimerKey.TheVariants.{Delay as OfDelay, Timer as OfTimer}
use Rattle.nt_event.specs.declared.inserts.Setting.{Setting}
use Rattle.nt_event.specs.Timers.{Timers, first_due, is_due_key, renewed, set_keys, setting_in}

-- time 0, nothing set
abbrev pub new_timers : ℕ → ℕ → Timers
new_timers timers threads =
    record { now = 0; timers = replicate timers None; delays = replicate threads None }

-- the key is one of a timer or thread that the tables have
abbrev pub IsKey : TimerKey → Timers → Type 0
IsKey (OfTimer t) x = t.0 < length x.timers
IsKey (OfDelay t) x = t.0 < length x.delays

-- when the key is due, where it is set
abbrev pub setting_at : TimerKey → Timers → Option Setting
setting_at (OfTimer t) x = setting_in x.timers t.0
setting_at (OfDelay t) x = setting_in x.delays t.0

abbrev pub with_setting : TimerKey → Option Setting → Timers → Timers
with_setting (OfTimer t) setting x = record x { timers = slice_set x.timers t.0 setting }
with_setting (OfDelay t) setting x = record x { delays = slice_set x.delays t.0 setting }

abbrev pub due_at : ℕ → ℕ → ℕ → Option Setting
due_at due n period = Some (record { due = due; number = n; period = period })

-- what an expiry by the event of this number leaves of the key
abbrev pub setting_after : TimerKey → ℕ → Timers → Option Setting
setting_after (OfTimer t) n x = renewed n x.now (setting_in x.timers t.0)
setting_after (OfDelay t) n x = None

abbrev pub expired : TimerKey → ℕ → Timers → Timers
expired key n x = with_setting key (setting_after key n x) x

-- the first due key and the number of the event that set it
abbrev pub due_entry : Timers → Option (TimerKey × ℕ)
due_entry x = option_map (λ k. (k.key, k.setting.number)) (first_due x)

-- how many keys are due
abbrev pub due_count : Timers → ℕ
due_count x = length (filter (is_due_key x.now) (set_keys x))

-- what stands past the numbers of timers and threads is not set
abbrev pub IsNumbered : List (Option Setting) → Type 0
IsNumbered xs = (n : ℕ) → 65536 ≤ n → setting_in xs n ≡ None
