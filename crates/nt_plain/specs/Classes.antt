-- The classes that a lane tells of: an event that touches it asks for no other one.
use Rattle.std.specs.Prelude.{Bool, List, false, get_or, if◌then◌else◌, max, true, ℕ, ◌==◌, ◌||◌}
use Rattle.nt_event.specs.declared.jobs.Lane.{Lane}
use Rattle.nt_event.specs.declared.jobs.Lane.TheVariants.{Lock as LockLane, Object as ObjectLane, Queue as QueueLane}
use Rattle.nt_event.specs.declared.jobs.Lane.TheVariants.{Threads as ThreadsLane, Timers as TimersLane}
use Rattle.nt_event.specs.Classes.{apc_class, clock_class, dispatch_class, lock_class, threaded_class}
use Rattle.nt_event.specs.Lists.{table, value_at}

-- threaded DPCs, kernel APCs, dispatch and the clock: what asks for a device's interrupt touches no lane
abbrev pub is_work_class : ℕ → Bool
is_work_class c = ((threaded_class == c || apc_class == c) || dispatch_class == c) || clock_class == c

abbrev pub is_lock : Lane → Bool
is_lock (ObjectLane d) = false
is_lock (QueueLane p) = false
is_lock (ThreadsLane p) = false
is_lock TimersLane = false
is_lock (LockLane k) = true

-- a lock tells of its release alone
abbrev pub is_told_class : Lane → ℕ → Bool
is_told_class x c = if is_lock x then lock_class == c else is_work_class c

-- the value of a class is raised to the one that is told
abbrev pub raised_class : ℕ → List ℕ → List ℕ → List ℕ
raised_class c told values = table 16 (λ k. max (value_at values k) (if c == k then get_or told c 0 else 0))
