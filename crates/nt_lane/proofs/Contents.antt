-- The states of held lanes, as contents of the lanes before and after an event.
use Rattle.std.proofs.Common.{ap, refl, sym, ◌∙◌}
use Rattle.std.proofs.lemmas.Bool.{ltb-true}
use Rattle.std.specs.Prelude.{IsTrue, List, Option, Some, cond, get_or, length, suc, ℕ, ◌==◌, ◌∷◌, ◌≡◌, []}
use Rattle.nt_event.specs.declared.events.Event.{Event}
use Rattle.nt_event.specs.declared.jobs.Lane.TheVariants.{Lock as LockLane, Object as ObjectLane, Queue as QueueLane, Threads as ThreadsLane}
use Rattle.nt_event.specs.declared.jobs.Lane.TheVariants.{Timers as TimersLane}
use Rattle.nt_event.specs.declared.jobs.Stand.{Stand}
use Rattle.nt_event.specs.declared.numbers.CpuNo.{CpuNo}
use Rattle.nt_event.specs.declared.numbers.DpcNo.{DpcNo}
use Rattle.nt_event.specs.declared.numbers.LockNo.{LockNo}
use Rattle.nt_event.specs.declared.scripts.ThreadDecl.{ThreadDecl}
use Rattle.nt_event.specs.LaneStates.{OfLock, OfObject, OfQueue, OfThreads, OfTimers, content, threads_from}
use Rattle.nt_event.specs.Lanes.{Lanes, lanes_after, lock_at, object_at, queue_at}
use Rattle.nt_event.specs.Lists.{table}
use Rattle.nt_event.specs.Locks.{LockState, lock_after, start_lock}
use Rattle.nt_event.specs.Numbers.{cpu, dpc, lock, thread}
use Rattle.nt_event.specs.Objects.{ObjectState, object_after, start_object}
use Rattle.nt_event.specs.Queues.{QueueState, queue_after, start_queue}
use Rattle.nt_event.specs.Script.{has_cpu, has_dpc, has_lock}
use Rattle.nt_event.specs.Threads.{start_facts}
use Rattle.nt_event.specs.Timers.{Timers, timers_after}
use Rattle.nt_event.specs.Waits.{facts_after}
use Rattle.nt_event.proofs.Tables.{get_or-table}
use Rattle.nt_dpc.specs.Objects.{ObjectFacts}
use Rattle.nt_dpc.specs.Queues.{QueueFacts}
use Rattle.nt_states.specs.ThreadLanes.{left}
use Rattle.nt_lane.specs.Answers.{HeldStates, held_lanes, threads_told, timers_told}
use Rattle.nt_lane_record.specs.Held.{GroupState, SpinFacts, group_content, with_threads}
use Rattle.nt_lane.specs.Steps.{object_left, queue_left, spin_left}
use Rattle.nt_lane.proofs.HeldTold.{object_is_told, queue_is_told, spin_is_told}

module _ (h : HeldStates) where
  -- the content of the lane of a held object before an event is the object's own state
  pub object_before : (d : DpcNo) (o : ObjectFacts) → IsTrue (has_dpc h.script d) → h.object ≡ Some o →
      content h.script (held_lanes h) (ObjectLane d) ≡ OfObject o.state
  object_before d o named is = ap OfObject (sym (object_is_told h d o named is))

  -- the content of the lane of a held queue before an event is the queue's own state
  pub queue_before : (p : CpuNo) (q : QueueFacts) → IsTrue (has_cpu h.script p) → h.queue ≡ Some q →
      content h.script (held_lanes h) (QueueLane p) ≡ OfQueue q.state
  queue_before p q named is = ap OfQueue (sym (queue_is_told h p q named is))

  -- they hang on the threads alone
  same_threads : (p : CpuNo) (k : ℕ) (xs : List ThreadDecl) (l m : Lanes) → l.threads ≡ m.threads → threads_from p k xs l ≡ threads_from p k xs m
  same_threads p k [] l m same = refl
  same_threads p k (x ∷ xs) l m same =
      let rest = same_threads p (suc k) xs l m same in
      λ i. cond (x.cpu.0 == p.0) (get_or (same i) k start_facts ∷ rest i) (rest i)

  told_group : (g : GroupState) → h.group ≡ Some g → (held_lanes h).threads ≡ g.threads.facts
  told_group g is = ap (λ (o : Option GroupState). threads_told h.script o) is

  -- the content of the threads lane of a held group before an event is the states of its processor's threads
  pub group_before : (p : CpuNo) (g : GroupState) → h.group ≡ Some g → g.cpu ≡ p → g.threads.script ≡ h.script →
      content h.script (held_lanes h) (ThreadsLane p) ≡ group_content g
  group_before p g is same script =
      let facts : threads_from p 0 h.script.threads (held_lanes h) ≡ threads_from p 0 h.script.threads (with_threads g.threads) =
      same_threads p 0 h.script.threads (held_lanes h) (with_threads g.threads) (told_group g is) in
      let named : threads_from p 0 h.script.threads (with_threads g.threads) ≡ threads_from g.cpu 0 g.threads.script.threads (with_threads g.threads) =
      λ i. threads_from (sym same i) 0 (sym script i).threads (with_threads g.threads) in
      ap OfThreads (facts ∙ named)

  -- the content of the timers lane before an event is the timers that are held
  pub timers_before : (t : Timers) → h.timers ≡ Some t → content h.script (held_lanes h) TimersLane ≡ OfTimers t
  timers_before t is = ap (λ (o : Option Timers). OfTimers (timers_told h.script o)) is

  -- the content of the lane of a held spin lock before an event is the lock's own state
  pub spin_before : (k : LockNo) (x : SpinFacts) → IsTrue (has_lock h.script k) → h.spin_lock ≡ Some x →
      content h.script (held_lanes h) (LockLane k) ≡ OfLock x.state
  spin_before k x named is = ap OfLock (sym (spin_is_told h k x named is))

-- what the event leaves
module _ (h : HeldStates) (n : ℕ) (st : Stand) (e : Event) where
  abbrev after : Lanes
  after = lanes_after h.script n st e (held_lanes h)

  -- the content of a held object's lane after an event is the state that the event leaves of the object
  pub object_then : (d : DpcNo) (o : ObjectFacts) → IsTrue (has_dpc h.script d) → h.object ≡ Some o → o.dpc ≡ d →
      content h.script after (ObjectLane d) ≡ OfObject (object_left n e o).state
  object_then d o named is same =
      let below = ltb-true d.0 (length h.script.dpcs) named in
      let at : object_at after d ≡ object_after d n e.cpu e.what (object_at (held_lanes h) d) =
      get_or-table (length h.script.dpcs) d.0 (λ i. object_after (dpc i) n e.cpu e.what (object_at (held_lanes h) (dpc i))) start_object below in
      let old : object_after d n e.cpu e.what (object_at (held_lanes h) d) ≡ object_after d n e.cpu e.what o.state =
      ap (λ (x : ObjectState). object_after d n e.cpu e.what x) (sym (object_is_told h d o named is)) in
      let number : object_after d n e.cpu e.what o.state ≡ object_after o.dpc n e.cpu e.what o.state =
      ap (λ (x : DpcNo). object_after x n e.cpu e.what o.state) (sym same) in
      ap OfObject (at ∙ (old ∙ number))

  -- the content of a held queue's lane after an event is the state that the event leaves of the queue
  pub queue_then : (p : CpuNo) (q : QueueFacts) → IsTrue (has_cpu h.script p) → h.queue ≡ Some q → q.cpu ≡ p →
      content h.script after (QueueLane p) ≡ OfQueue (queue_left h.script n e (held_lanes h).objects q).state
  queue_then p q named is same =
      let below = ltb-true p.0 h.script.cpus named in
      let objects = (held_lanes h).objects in
      let at : queue_at after p ≡ queue_after h.script p n e.cpu e.what objects (queue_at (held_lanes h) p) =
      get_or-table h.script.cpus p.0 (λ i. queue_after h.script (cpu i) n e.cpu e.what objects (queue_at (held_lanes h) (cpu i))) start_queue below in
      let old : queue_after h.script p n e.cpu e.what objects (queue_at (held_lanes h) p) ≡ queue_after h.script p n e.cpu e.what objects q.state =
      ap (λ (x : QueueState). queue_after h.script p n e.cpu e.what objects x) (sym (queue_is_told h p q named is)) in
      let number : queue_after h.script p n e.cpu e.what objects q.state ≡ queue_after h.script q.cpu n e.cpu e.what objects q.state =
      ap (λ (x : CpuNo). queue_after h.script x n e.cpu e.what objects q.state) (sym same) in
      ap OfQueue (at ∙ (old ∙ number))

  -- the content of a held group's threads lane after an event is the threads as the event leaves them
  pub group_then : (p : CpuNo) (g : GroupState) → h.group ≡ Some g → g.cpu ≡ p → g.threads.script ≡ h.script →
      content h.script after (ThreadsLane p) ≡ group_content (record g { threads = left n st e g.threads })
  group_then p g is same script =
      let all : after.threads ≡ (left n st e g.threads).facts =
      λ i. table (length (sym script i).threads)
      (λ t. facts_after (sym script i) (thread t) n st e (get_or (told_group h g is i) (thread t).0 start_facts)) in
      let facts : threads_from p 0 h.script.threads after ≡ threads_from p 0 h.script.threads (with_threads (left n st e g.threads)) =
      same_threads h p 0 h.script.threads after (with_threads (left n st e g.threads)) all in
      let named : threads_from p 0 h.script.threads (with_threads (left n st e g.threads))
      ≡ threads_from g.cpu 0 g.threads.script.threads (with_threads (left n st e g.threads)) =
      λ i. threads_from (sym same i) 0 (sym script i).threads (with_threads (left n st e g.threads)) in
      ap OfThreads (facts ∙ named)

  -- the content of the timers lane after an event is the held timers as the event leaves them
  pub timers_then : (t : Timers) → h.timers ≡ Some t → content h.script after TimersLane ≡ OfTimers (timers_after h.script n st e t)
  timers_then t is = ap (λ (o : Option Timers). OfTimers (timers_after h.script n st e (timers_told h.script o))) is

  -- the content of a held spin lock's lane after an event is the state that the event leaves of the lock
  pub spin_then : (k : LockNo) (x : SpinFacts) → IsTrue (has_lock h.script k) → h.spin_lock ≡ Some x → x.lock ≡ k →
      content h.script after (LockLane k) ≡ OfLock (spin_left h.script e x).state
  spin_then k x named is same =
      let below = ltb-true k.0 h.script.locks named in
      let at : lock_at after k ≡ lock_after h.script k e (lock_at (held_lanes h) k) =
      get_or-table h.script.locks k.0 (λ i. lock_after h.script (lock i) e (lock_at (held_lanes h) (lock i))) start_lock below in
      let old : lock_after h.script k e (lock_at (held_lanes h) k) ≡ lock_after h.script k e x.state =
      ap (λ (y : LockState). lock_after h.script k e y) (sym (spin_is_told h k x named is)) in
      let number : lock_after h.script k e x.state ≡ lock_after h.script x.lock e x.state =
      ap (λ (y : LockNo). lock_after h.script y e x.state) (sym same) in
      ap OfLock (at ∙ (old ∙ number))
