-- The threads of a script as contracts see them, and what an event leaves of them.
use Rattle.std.specs.Prelude.{List, [], get_or, length, ℕ}
use Rattle.nt_event.specs.declared.events.Event.{Event}
use Rattle.nt_event.specs.declared.jobs.Stand.{Stand}
use Rattle.nt_event.specs.declared.numbers.ThreadNo.{ThreadNo}
use Rattle.nt_event.specs.declared.scripts.Script.{Script}
use Rattle.nt_event.specs.Threads.{ThreadFacts, start_facts}
use Rattle.nt_event.specs.Waits.{facts as facts_at, facts_after}
use Rattle.nt_event.specs.Lists.{table}
use Rattle.nt_event.specs.Numbers.{thread}

-- a thread's facts among those of all threads in order
abbrev pub facts_among : List ThreadFacts → ThreadNo → ThreadFacts
facts_among facts t = get_or facts t.0 start_facts

-- the script, and the facts of each of its threads
pub record ThreadLanes : Type 0 where
  pub script : Script
  pub facts : List ThreadFacts

abbrev pub facts_in : ThreadLanes → ThreadNo → ThreadFacts
facts_in x t = facts_among x.facts t

-- before any event
abbrev pub start : Script → ThreadLanes
start s = record { script = s; facts = table (length s.threads) (λ t. facts_at s (thread t) []) }

-- what the event of this number leaves, of a processor that stood so
abbrev pub left : ℕ → Stand → Event → ThreadLanes → ThreadLanes
left n st e x =
    record x {
      facts = table (length x.script.threads)
          (λ t. facts_after x.script (thread t) n st e (facts_in x (thread t)));
    }
