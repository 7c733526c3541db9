-- What the calls leave of all states is what the event leaves.
use Rattle.std.proofs.Common.{ap, subst, sym, ◌∙◌}
use Rattle.std.proofs.lemmas.Bool.{ltb-true}
use Rattle.std.specs.Prelude.{ℕ, ◌≡◌}
use Rattle.nt_event.specs.declared.events.Event.{Event}
use Rattle.nt_event.specs.declared.events.What.{What}
use Rattle.nt_event.specs.declared.jobs.Stand.{Stand}
use Rattle.nt_event.specs.declared.numbers.CpuNo.{CpuNo}
use Rattle.nt_event.specs.declared.scripts.Script.{Script}
use Rattle.nt_event.specs.Acting.{acted_event}
use Rattle.nt_event.specs.Lanes.{lanes_after}
use Rattle.nt_event.specs.Timers.{timers_after}
use Rattle.nt_states.specs.DpcLanes as dpcs
use Rattle.nt_states.specs.DpcLanes.{DpcLanes}
use Rattle.nt_states.specs.ThreadFits.{MayLeave}
use Rattle.nt_states.specs.ThreadLanes as threads
use Rattle.nt_states.specs.ThreadLanes.{ThreadLanes}
use Rattle.nt_plain.specs.declared.states.States.TheInside.{Inside}
use Rattle.nt_states.specs.AllStates.{AllStates, dpcs_of, threads_of}
use Rattle.nt_states.specs.Allowed.{MayMake}
use Rattle.nt_plain.specs.Kept.{IsKept, states_in}
use Rattle.nt_plain.specs.Locks.{MayMove, locks_left}
use Rattle.nt_plain.proofs.LocksLeft.{still_locks}
use Rattle.nt_states.specs.Sound.{IsSound}
use Rattle.nt_states.specs.Timed.{MayTime, timed}
use Rattle.nt_states.proofs.ForDpcs.{may_dpcs}
use Rattle.nt_states.proofs.ForThreads.{may_threads}
use Rattle.nt_states.proofs.ForTimers.{may_timers}
use Rattle.nt_states.proofs.Knowns.{knows}
use Rattle.nt_states.proofs.TimersLeft.{sized_after, timers_left}

-- ---- the parts are those of the whole

-- the objects and queues among all states that are kept are the ones that the DPC part holds
pub dpcs_are : (a : Inside) → IsKept a → dpcs_of (states_in a) ≡ a.dpcs
dpcs_are a h =
    ap (λ (s : Script). record { script = s; objects = a.dpcs.objects; queues = a.dpcs.queues }) (sym h.dpcs)

-- the threads among all states that are kept are the ones that the thread part holds
pub threads_are : (a : Inside) → IsKept a → threads_of (states_in a) ≡ a.threads
threads_are a h = ap (λ (s : Script). record { script = s; facts = a.threads.facts }) (sym h.threads)

-- ---- the event may be made of each part

-- an event that may be made in all states may be made in the objects and queues
pub may_leave_dpcs : (a : Inside) (x : AllStates) (st : Stand) (w : What) → IsKept a → states_in a ≡ x → MayMake x st w → dpcs.MayLeave a.dpcs st.cpu w
may_leave_dpcs a x st w kept e g =
    let h : MayMake (states_in a) st w = subst (λ (z : AllStates). MayMake z st w) (sym e) g in
    subst (λ (d : DpcLanes). dpcs.MayLeave d st.cpu w) (dpcs_are a kept) (may_dpcs (states_in a) st w (knows (states_in a) st w h))

-- an event that may be made in all states may be made in the threads
pub may_leave_threads : (a : Inside) (x : AllStates) (st : Stand) (e : Event) → IsKept a → states_in a ≡ x → MayMake x st e.what → e
    ≡ acted_event st x.lanes e.what → MayLeave a.threads st e
may_leave_threads a x st e kept same g made =
    let h : MayLeave (threads_of x) st e = subst (λ (z : Event). MayLeave (threads_of x) st z) (sym made) (may_threads x st e.what g) in
    let k : MayLeave (threads_of (states_in a)) st e = subst (λ (z : AllStates). MayLeave (threads_of z) st e) (sym same) h in
    subst (λ (t : ThreadLanes). MayLeave t st e) (threads_are a kept) k

-- an event that may be made in all states may be made in the timers
pub may_leave_timers : (a : Inside) (x : AllStates) (st : Stand) (e : Event) → IsKept a → states_in a ≡ x → MayMake x st e.what → e
    ≡ acted_event st x.lanes e.what → MayTime a.script.now a.timers e e.what
may_leave_timers a x st e kept same g made =
    let sound : IsSound x = subst (λ (z : AllStates). IsSound z) same kept.sound in
    let h : MayTime x.script x.lanes.timers e e.what = subst (λ (z : Event). MayTime x.script x.lanes.timers z e.what) (sym made)
    (may_timers x st sound e.what g) in
    subst (λ (z : AllStates). MayTime z.script z.lanes.timers e e.what) (sym same) h

-- an event that may be made in all states may make its move of the spin locks
pub may_move_locks : (a : Inside) (x : AllStates) (st : Stand) (w : What) → IsKept a → states_in a ≡ x → MayMake x st w →
    MayMove a.script.now a.locks st.cpu w
may_move_locks a x st w kept same g =
    let h : MayMake (states_in a) st w = subst (λ (z : AllStates). MayMake z st w) (sym same) g in
    record { locks = kept.locks; cpu = ltb-true st.cpu.0 a.script.now.cpus h.may.stand.cpu; named = h.named }

-- ---- what is left

-- the fields after the event
pub record AreLeft (a b : Inside) (n : ℕ) (st : Stand) (e : Event) : Type 0 where
  pub script : b.script.now ≡ a.script.now
  pub dpcs : b.dpcs ≡ dpcs.left n st.cpu e.what a.dpcs
  pub threads : b.threads ≡ threads.left n st e a.threads
  pub timers : b.timers ≡ timed n st e.thread e.what a.timers
  pub locks : b.locks ≡ locks_left a.script.now st.cpu e.what a.locks

module _ (a b : Inside) (x : AllStates) (n : ℕ) (st : Stand) (e : Event) (kept : IsKept a) (same : states_in a ≡ x) (g : MayMake x st e.what)
    (made : e ≡ acted_event st x.lanes e.what) (left : AreLeft a b n st e) where
  times : b.timers ≡ timers_after a.script.now n st e a.timers
  times =
      left.timers ∙ sym (timers_left a.script.now st e n a.timers kept.sound.timers (may_leave_timers a x st e kept same g made))

  -- the states stay sound and of one script after an event that may be made
  pub kept_after : IsKept b
  kept_after = record {
    sound = record {
      script = rw left.script kept.sound.script;
      timers = rw (left.script, times) (sized_after a.script.now st e n a.timers);
    };
    dpcs = ap (λ (d : DpcLanes). d.script) left.dpcs ∙ (kept.dpcs ∙ sym left.script);
    threads = ap (λ (t : ThreadLanes). t.script) left.threads ∙ (kept.threads ∙ sym left.script);
    locks = rw (left.script, left.locks) (still_locks a.script.now st.cpu e.what a.locks kept.locks);
  }

  by_cpu : e.cpu ≡ st.cpu
  by_cpu = ap (λ (z : Event). z.cpu) made

  inside_left : states_in b ≡ record { script = a.script.now; lanes = lanes_after a.script.now n st e (states_in a).lanes }
  inside_left =
      let d : b.dpcs ≡ dpcs.left n e.cpu e.what (dpcs_of (states_in a)) = left.dpcs
      ∙ ap (λ (z : DpcLanes). dpcs.left n st.cpu e.what z) (sym (dpcs_are a kept))
      ∙ ap (λ (p : CpuNo). dpcs.left n p e.what (dpcs_of (states_in a))) (sym by_cpu) in
      let t : b.threads ≡ threads.left n st e (threads_of (states_in a)) = left.threads
      ∙ ap (λ (z : ThreadLanes). threads.left n st e z) (sym (threads_are a kept)) in
      let u = times in
      let k : b.locks ≡ locks_left a.script.now e.cpu e.what a.locks = left.locks
      ∙ ap (λ (p : CpuNo). locks_left a.script.now p e.what a.locks) (sym by_cpu) in
      let s = left.script in
      λ j. record { script = s j; lanes = record { objects = (d j).objects; queues = (d j).queues; threads = (t j).facts; timers = u j; locks = k j } }

  -- all states are those that the event leaves
  pub all_left : states_in b ≡ record x { lanes = lanes_after x.script n st e x.lanes }
  all_left =
      inside_left ∙ ap (λ (z : AllStates). record z { lanes = lanes_after z.script n st e z.lanes }) same
