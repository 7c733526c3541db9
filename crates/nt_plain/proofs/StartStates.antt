-- The states before any event.
use Rattle.std.proofs.Common.{ap, arith, sym, ◌∙◌}
use Rattle.std.specs.Prelude.{List, [], false, length, ℕ, ◌≡◌}
use Rattle.nt_event.specs.declared.scripts.Script.{Script}
use Rattle.nt_event.specs.Lanes.{lanes_at}
use Rattle.nt_event.specs.Lists.{table}
use Rattle.nt_event.specs.Locks.{LockState, free_lock}
use Rattle.nt_event.proofs.Tables.{get_or-table, length-table_from}
use Rattle.nt_event.specs.Timers.{Timers, timers_at}
use Rattle.nt_states.specs.DpcLanes as dpcs
use Rattle.nt_states.specs.DpcLanes.{DpcLanes}
use Rattle.nt_states.specs.ThreadLanes as threads
use Rattle.nt_states.specs.ThreadLanes.{ThreadLanes}
use Rattle.nt_timer.specs.Laws.{IsSized}
use Rattle.nt_timer.specs.Settings.{new_timers}
use Rattle.nt_timer.proofs.Events.{timer_calls_are_events}
use Rattle.nt_states.specs.AllStates.{AllStates}
use Rattle.nt_plain.specs.Locks.{AreLocks}

-- the parts of the states
abbrev pub states_of : Script → DpcLanes → ThreadLanes → Timers → List LockState → AllStates
states_of s d t x k =
    record {
      script = s;
      lanes = record { objects = d.objects; queues = d.queues; threads = t.facts; timers = x; locks = k };
    }

-- new timers for the numbers of timers and threads of a script are its timers before any event
start_times : (s : Script) (x : Timers) (n m : ℕ) → x ≡ new_timers n m → n ≡ length s.timers → m ≡ length s.threads → x ≡ timers_at s []
start_times s x n m hx hn hm =
    hx ∙ (ap (λ (k : ℕ). new_timers k m) hn ∙ (ap (λ (k : ℕ). new_timers (length s.timers) k) hm ∙ sym (timer_calls_are_events.start s)))

-- new timers have a place for each timer and each thread of the script
pub start_sized : (s : Script) (x : Timers) (n m : ℕ) → x ≡ new_timers n m → n ≡ length s.timers → m ≡ length s.threads → IsSized s x
start_sized s x n m hx hn hm =
    rw (start_times s x n m hx hn hm)
    (record { timers = length-table_from 0 (length s.timers) _; delays = length-table_from 0 (length s.threads) _ })

-- the free locks at the start are one for each lock of the script, with a flag for each processor
pub start_locks : (s : Script) → AreLocks s (table s.locks (λ i. free_lock s))
start_locks s =
    let size : length (table s.locks (λ i. free_lock s)) ≡ s.locks = length-table_from 0 s.locks _ in
    record {
      count = size;
      flags = λ i d l. rw (get_or-table s.locks i (λ k. free_lock s) d (omega (arith, size, l))) (length-table_from 0 s.cpus (λ q. false));
    }

-- the parts before any event together are the states of the empty history
pub start_states : (s : Script) (d : DpcLanes) (t : ThreadLanes) (x : Timers) (k : List LockState) (n m : ℕ) → d ≡ dpcs.start s → t ≡ threads.start s →
    x ≡ new_timers n m → n ≡ length s.timers → m ≡ length s.threads → k ≡ table s.locks (λ i. free_lock s) →
    states_of s d t x k ≡ record { script = s; lanes = lanes_at s [] }
start_states s d t x k n m hd ht hx hn hm hk =
    let times = start_times s x n m hx hn hm in
    λ j. record { script = s; lanes = record { objects = (hd j).objects; queues = (hd j).queues; threads = (ht j).facts; timers = times j; locks = hk j } }
