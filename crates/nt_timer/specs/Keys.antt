-- Timers and delays by the numbers of their keys: the timers first, then the delays of threads.
use Rattle.std.specs.Prelude.{if◌then◌else◌, nat_lt, ℕ, ◌+◌, ◌-◌}
use Rattle.nt_event.specs.declared.commands.TimerKey.{TimerKey}
use Rattle.nt_event.specs.declared.commands.TimerKey.TheVariants.{Delay as OfDelay, Timer as OfTimer}
use Rattle.nt_event.specs.Numbers.{thread, timer}

-- where there are so many timers
abbrev pub index_of : ℕ → TimerKey → ℕ
index_of timers (OfTimer t) = t.0
index_of timers (OfDelay t) = timers + t.0

abbrev pub key_of : ℕ → ℕ → TimerKey
key_of timers i = if nat_lt i timers then OfTimer (timer i) else OfDelay (thread (i - timers))
