-- The state of one lane, and the pieces of a history.
use Rattle.std.specs.Prelude.{Bool, List, [], false, get_or, if◌then◌else◌, length, suc, true, ℕ, ◌==◌, ◌∷◌}
use Rattle.nt_event.specs.declared.events.Event.{Event}
use Rattle.nt_event.specs.declared.events.What.{What}
use Rattle.nt_event.specs.declared.jobs.Lane.{Lane}
use Rattle.nt_event.specs.declared.jobs.Lane.TheVariants.{Lock as LockLane, Object as ObjectLane, Queue as QueueLane}
use Rattle.nt_event.specs.declared.jobs.Lane.TheVariants.{Threads as ThreadsLane, Timers as TimersLane}
use Rattle.nt_event.specs.declared.jobs.Stand.{Stand}
use Rattle.nt_event.specs.declared.numbers.CpuNo.{CpuNo}
use Rattle.nt_event.specs.declared.scripts.Script.{Script}
use Rattle.nt_event.specs.declared.scripts.ThreadDecl.{ThreadDecl}
use Rattle.nt_event.specs.Lanes.{Lanes, facts_at, lanes_at, lock_at, object_at, queue_at, touches}
use Rattle.nt_event.specs.Locks.{LockState}
use Rattle.nt_event.specs.Objects.{ObjectState}
use Rattle.nt_event.specs.Queues.{QueueState}
use Rattle.nt_event.specs.Requests.{asks_in, raised, told_by}
use Rattle.nt_event.specs.Threads.{ThreadFacts}
use Rattle.nt_event.specs.Timers.{Timers}
use Rattle.nt_event.specs.Numbers.{cpu, is_of, thread}
use Rattle.nt_event.specs.Lists.{table, value_at}

-- the facts of the threads of p, from this number on
abbrev pub threads_from : CpuNo → ℕ → List ThreadDecl → Lanes → List ThreadFacts
threads_from p n [] l = []
threads_from p n (x ∷ xs) l =
    if x.cpu.0 == p.0 then (facts_at l (thread n) ∷ threads_from p (suc n) xs l) else threads_from p (suc n) xs l

pub data Content : Type 0 where
  OfObject : ObjectState → Content
  OfQueue : QueueState → Content
  OfThreads : List ThreadFacts → Content
  OfTimers : Timers → Content
  OfLock : LockState → Content

-- what stands in a lane
abbrev pub content : Script → Lanes → Lane → Content
content s l (ObjectLane d) = OfObject (object_at l d)
content s l (QueueLane p) = OfQueue (queue_at l p)
content s l (ThreadsLane p) = OfThreads (threads_from p 0 s.threads l)
content s l TimersLane = OfTimers l.timers
content s l (LockLane k) = OfLock (lock_at l k)

-- the greatest value asked for each processor and class by the events that touch the lane
abbrev pub told_table : Script → Lane → List Event → List (List ℕ)
told_table s x past = table s.cpus (λ p. table 16 (λ c. told_by s x (cpu p) c past))

abbrev pub told_at : List (List ℕ) → CpuNo → ℕ → ℕ
told_at xs p c = value_at (get_or xs p.0 []) c

-- what the event of this number, which asks so, leaves of the values of a lane that it touches
abbrev pub told_table_after : Script → ℕ → Stand → What → Lanes → List (List ℕ) → List (List ℕ)
told_table_after s n st w l xs =
    table s.cpus (λ p. table 16 (λ c. raised (asks_in s st w l (cpu p) c) n (told_at xs (cpu p) c)))

pub record LaneState : Type 0 where
  pub content : Content
  pub told : List (List ℕ)

abbrev pub lane_state : Script → Lane → List Event → LaneState
lane_state s x past = record { content = content s (lanes_at s past) x; told = told_table s x past }

-- ---- pieces

-- an event with its number
pub record Entry : Type 0 where
  pub number : ℕ
  pub event : Event

abbrev pub entry_if : Bool → ℕ → Event → List Entry → List Entry
entry_if true n e more = record { number = n; event = e } ∷ more
entry_if false n e more = more

-- the part of the history that is the processor's, the newest event first
abbrev pub cpu_piece : CpuNo → List Event → List Entry
cpu_piece p [] = []
cpu_piece p (e ∷ past) = entry_if (is_of e p) (length past) e (cpu_piece p past)

-- the part that touches the lane
abbrev pub lane_piece : Script → Lane → List Event → List Entry
lane_piece s x [] = []
lane_piece s x (e ∷ past) = entry_if (touches s x e past) (length past) e (lane_piece s x past)
