-- The numbers of things, and whose an event is.
use Rattle.std.specs.Prelude.{Bool, None, Option, Some, false, ℕ, ◌==◌}
use Rattle.nt_event.specs.declared.events.Event.{Event}
use Rattle.nt_event.specs.declared.numbers.ApcNo.{ApcNo}
use Rattle.nt_event.specs.declared.numbers.CpuNo.{CpuNo}
use Rattle.nt_event.specs.declared.numbers.DpcNo.{DpcNo}
use Rattle.nt_event.specs.declared.numbers.LockNo.{LockNo}
use Rattle.nt_event.specs.declared.numbers.RoutineNo.{RoutineNo}
use Rattle.nt_event.specs.declared.numbers.ThreadNo.{ThreadNo}
use Rattle.nt_event.specs.declared.numbers.TimerNo.{TimerNo}

abbrev pub cpu : ℕ → CpuNo
cpu n = record { 0 = n }

abbrev pub thread : ℕ → ThreadNo
thread n = record { 0 = n }

abbrev pub dpc : ℕ → DpcNo
dpc n = record { 0 = n }

abbrev pub apc : ℕ → ApcNo
apc n = record { 0 = n }

abbrev pub timer : ℕ → TimerNo
timer n = record { 0 = n }

abbrev pub lock : ℕ → LockNo
lock n = record { 0 = n }

abbrev pub routine : ℕ → RoutineNo
routine n = record { 0 = n }

abbrev pub is_thread : Option ThreadNo → ThreadNo → Bool
is_thread None t = false
is_thread (Some x) t = x.0 == t.0

-- the event is one of the processor's
abbrev pub is_of : Event → CpuNo → Bool
is_of e p = e.cpu.0 == p.0

-- the thread ran before the event, or was taken up by it
abbrev pub is_by : Event → ThreadNo → Bool
is_by e t = is_thread e.thread t
