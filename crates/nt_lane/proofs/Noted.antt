-- A lane that noted an event.
use Rattle.std.proofs.Common.{ap, arith, subst, sym, ◌∙◌}
use Rattle.std.specs.Prelude.{All, Bool, Contains, IfSome, IsTrue, None, Option, Some, false, true, List, [], get_or, ℕ, ◌*◌, ◌+◌, ◌-◌, length, ◌++◌, ◌<◌, ◌^◌}
use Rattle.std.specs.Prelude.{◌∷◌, ◌≡◌, ◌≤◌}
use Rattle.nt_event.specs.declared.events.Event.{Event}
use Rattle.nt_event.specs.declared.jobs.Lane.{Lane}
use Rattle.nt_event.specs.declared.jobs.Lane.TheVariants.{Lock as LockLane, Threads as ThreadsLane, Timers as TimersLane}
use Rattle.nt_event.specs.declared.jobs.Stand.{Stand}
use Rattle.nt_event.specs.declared.limits.TheConstants.{EVENTS}
use Rattle.nt_event.specs.declared.scripts.Script.{Script}
use Rattle.nt_event.specs.LaneStates.{Content, lane_state}
use Rattle.nt_event.specs.Requests.{Ask}
use Rattle.nt_dpc.specs.Objects.{ObjectFacts}
use Rattle.nt_dpc.specs.Queues.{QueueFacts}
use Rattle.nt_event.specs.Acts.{is_among}
use Rattle.nt_mark.specs.declared.view.Entry.{Entry}
use Rattle.nt_mark.specs.declared.view.Note.{Note}
use Rattle.nt_mark.specs.declared.view.View.{View}
use Rattle.nt_mark.specs.Views.{entry, reach, request_word, step_word}
use Rattle.nt_event.specs.Numbers.{thread}
use Rattle.nt_event.specs.Waits.{facts_after}
use Rattle.nt_states.specs.ThreadLanes.{facts_in, left}
use Rattle.nt_event.proofs.Tables.{length-table_from}
use Rattle.nt_event.specs.Timers.{Timers}
use Rattle.nt_lane_record.specs.Held.{GroupState, IsGroupThere, IsLastNoted, next_of, state_noted}
use Rattle.nt_lane.specs.Locks.{HeldLanes, Kept, in_each}
use Rattle.nt_lane_record.specs.Records.{IsAskKnown, IsNoted, LaneRecord, told_then}
use Rattle.nt_lane.specs.Steps.{AreLeftBy, DpcsLeft, IsStep, KnowsLeft, LeavesGroup, LeavesSpin, LeavesTimers, is_touched, note_left, object_name, queue_name}
use Rattle.nt_lane_record.specs.Passes.{Learns}
use Rattle.nt_lane_record.proofs.Ends.{next_more, shown_more}
use Rattle.nt_lane_record.proofs.Tying.{learns_through}

module _ (s : Script) (n : ℕ) (asks : List Ask) (next : Content) (r t : LaneRecord) (v w : View)
    (noted : IsNoted r t v w (note_left s n asks next r) (told_then s.cpus n asks r.told)) where
  -- the state noted last is the one that it left
  pub last_noted : (x : Lane) (now : Content) → IsLastNoted s x now r → IsLastNoted s x next t
  last_noted x now last = record {
    number = noted.lane ∙ last.number;
    last = ap (λ (ns : List Note). state_noted s x ns) noted.notes
        ∙ (shown_more (lane_state s x []) r.notes (note_left s n asks next r) ∙ (λ i. record { content = next; told = sym noted.told_is i }));
  }

  -- the list ends with the event
  pub next_noted : next_of t.notes ≡ n + 1
  next_noted = ap next_of noted.notes ∙ next_more r.notes (note_left s n asks next r)

  -- the time of a noted lane is as far as the events up to its last note may have let it advance
  pub time_noted : (time : ℕ) → time ≤ n * 2 ^ 32 + (2 ^ 32 - 1) → time ≤ next_of t.notes * 2 ^ 32
  time_noted time h = rw next_noted (omega (arith, h))

  -- the pass knows the list
  pub knows_noted : (all : List Ask) (left : Content) → asks ≡ all → next ≡ left → KnowsLeft s n all left r w
  knows_noted all left a b =
      let k = noted.knows in
      (k.0, k.1, k.2, k.3 ∙ (noted.notes ∙ (λ i. r.notes ++ note_left s n (a i) (b i) r ∷ [])))

-- ---- the threads and the timers of a lane

-- the threads are still those of the processor and of the script
pub group_there : (s : Script) (n : ℕ) (st : Stand) (e : Event) (g : GroupState) → IsGroupThere s g →
    IsGroupThere s (record g { threads = left n st e g.threads })
group_there s n st e g h = record {
  named = h.named;
  script = h.script;
  count = length-table_from 0 (length g.threads.script.threads)
      (λ t. facts_after g.threads.script (thread t) n st e (facts_in g.threads (thread t))) ∙ ap (λ (x : Script). length x.threads) h.script;
}

-- the time is as far as the events before the one of this number may have let it advance
pub time_before : (time next n : ℕ) → time ≤ next * 2 ^ 32 → next ≤ n → time ≤ n * 2 ^ 32
time_before time next n h k = omega (arith, h, k)

-- a time that an event moves on by less than 2^32 stays within the bound of the events up to it
pub time_left : (n old new : ℕ) → old ≤ n * 2 ^ 32 → new ≤ old + (2 ^ 32 - 1) → new ≤ n * 2 ^ 32 + (2 ^ 32 - 1)
time_left n old new h k = omega (arith, h, k)

-- before an event of an allowed number the time can go on by 2^32 and stay within 2^50
pub time_below : (n old : ℕ) → old ≤ n * 2 ^ 32 → n < EVENTS → old + 2 ^ 32 ≤ 2 ^ 50
time_below n old h k = omega (arith, h, k)

-- ---- the steps

-- when a lane notes an event, asks known before stay known to a pass that reaches as far in each word
asks_later : (n : ℕ) (v w : View) (asks : List Ask) → ((u : ℕ) → reach u v ≤ reach u w) → All (IsAskKnown n v) asks → All (IsAskKnown n w) asks
asks_later n v w asks le h = λ k d l. let a = h k d l in let b = le (request_word (get_or asks k d).cpu (get_or asks k d).class) in omega (arith, a, b)

-- the step stays one when the pass learns more
pub step_later : (s : Script) (v w : View) (n : ℕ) (e : Event) (numbers : List ℕ) (asks : List Ask) → Learns v w → IsStep s v n e numbers asks →
    IsStep s w n e numbers asks
step_later s v w n e numbers asks l h = record {
  drew = subst (λ (es : List Entry). Contains es (entry n e numbers)) (sym l.entries) h.drew;
  beyond = (let a = h.beyond in let b = l.least step_word in omega (arith, a, b));
  below = h.below;
  asks_named = h.asks_named;
  asked = asks_later n v w asks l.least h.asked;
}

-- what the pass knows of a lane, it knows when it learns more
pub knows_later : (s : Script) (v w : View) (n : ℕ) (asks : List Ask) (left : Content) (r : LaneRecord) → Learns v w → KnowsLeft s n asks left r v →
    KnowsLeft s n asks left r w
knows_later s v w n asks left r l h = (h.0, l.grows.prefixes h.0 h.1, h.2, h.3)

-- ---- all held lanes

-- what the pass knows of them, it knows when it learns more
module _ (s : Script) (n : ℕ) (st : Stand) (e : Event) (asks : List Ask) (v w : View) (l : Learns v w) where
  dpcs_later : (a b : Bool) (o : Option (Kept ObjectFacts)) (q : Option (Kept QueueFacts)) → DpcsLeft s n e asks v a b o q → DpcsLeft s n e asks w a b o q
  dpcs_later true true None q h = tt
  dpcs_later true true (Some x) None h = tt
  dpcs_later true true (Some x) (Some y) h =
      ((h.0.0, l.grows.prefixes h.0.0 h.0.1, h.0.2, h.0.3), (h.1.0, l.grows.prefixes h.1.0 h.1.1, h.1.2, h.1.3))
  dpcs_later true false None q h = tt
  dpcs_later true false (Some x) q h = (h.0, l.grows.prefixes h.0 h.1, h.2, h.3)
  dpcs_later false true o None h = tt
  dpcs_later false true o (Some y) h = (h.0, l.grows.prefixes h.0 h.1, h.2, h.3)
  dpcs_later false false o q h = tt

  group_later : (lanes : List Lane) (o : Option (Kept GroupState)) →
      IfSome o (λ k. IsTrue (is_among (ThreadsLane k.state.cpu) lanes) → LeavesGroup s n st e asks k v) →
      IfSome o (λ k. IsTrue (is_among (ThreadsLane k.state.cpu) lanes) → LeavesGroup s n st e asks k w)
  group_later lanes None h = tt
  group_later lanes (Some k) h = λ among. let a = h among in (a.0, l.grows.prefixes a.0 a.1, a.2, a.3)

  timers_later : (lanes : List Lane) (o : Option (Kept Timers)) →
      IfSome o (λ k. IsTrue (is_among TimersLane lanes) → LeavesTimers s n st e asks k v) →
      IfSome o (λ k. IsTrue (is_among TimersLane lanes) → LeavesTimers s n st e asks k w)
  timers_later lanes None h = tt
  timers_later lanes (Some k) h = λ among. let a = h among in (a.0, l.grows.prefixes a.0 a.1, a.2, a.3)

-- the object and the queue left it first, then the threads, then the timers, then the spin lock
pub all_left : (s : Script) (n : ℕ) (st : Stand) (e : Event) (lanes : List Lane) (asks : List Ask) (h : HeldLanes) (u v w x : View) → Learns u v → Learns v w →
    Learns w x → DpcsLeft s n e asks u (is_touched (in_each h.object object_name) lanes) (is_touched (in_each h.queue queue_name) lanes) h.object h.queue →
    IfSome h.group (λ k. IsTrue (is_among (ThreadsLane k.state.cpu) lanes) → LeavesGroup s n st e asks k v) →
    IfSome h.timers (λ k. IsTrue (is_among TimersLane lanes) → LeavesTimers s n st e asks k w) →
    IfSome h.spin_lock (λ k. IsTrue (is_among (LockLane k.state.lock) lanes) → LeavesSpin s n e asks k x) →
    AreLeftBy s n st e lanes asks h x
all_left s n st e lanes asks h u v w x a b c dpcs group timers spin_lock = record {
  dpcs = dpcs_later s n st e asks u x (learns_through u v x a (learns_through v w x b c)) (is_touched (in_each h.object object_name) lanes)
      (is_touched (in_each h.queue queue_name) lanes) h.object h.queue dpcs;
  group = group_later s n st e asks v x (learns_through v w x b c) lanes h.group group;
  timers = timers_later s n st e asks w x c lanes h.timers timers;
  spin_lock = spin_lock;
}
