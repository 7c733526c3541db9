-- A lock tells of its release alone, another lane of four classes: an event that touches a lane asks for no class of which it doesn't tell.
use Rattle.std.proofs.Common.{inl, inr}
use Rattle.std.proofs.lemmas.Bool.{and_left, and_right, or_from, or_parts}
use Rattle.std.specs.List.{list_any}
use Rattle.std.specs.Prelude.{Bool, List, None, Option, Some, [], false, if◌then◌else◌, is_some, nat_lt, not, option_and_then, refl, suc, true, ℕ, ◌&&◌, ◌++◌}
use Rattle.std.specs.Prelude.{◌+◌, ◌==◌, ◌||◌, ◌∷◌, ◌≡◌, ◌⊎◌}
use Rattle.nt_event.specs.declared.commands.ApcKind.TheVariants as kinds
use Rattle.nt_event.specs.declared.commands.Command.{Command}
use Rattle.nt_event.specs.declared.commands.Command.TheVariants as cmd
use Rattle.nt_event.specs.declared.commands.Reply.{Reply}
use Rattle.nt_event.specs.declared.commands.Reply.TheVariants.{Blocked, Done, No, Refused, Spin, Status, Yes}
use Rattle.nt_event.specs.declared.commands.TimerKey.{TimerKey}
use Rattle.nt_event.specs.declared.commands.TimerKey.TheVariants as keys
use Rattle.nt_event.specs.declared.events.Begun.{Begun}
use Rattle.nt_event.specs.declared.events.Begun.TheVariants as begun
use Rattle.nt_event.specs.declared.events.What.{What}
use Rattle.nt_event.specs.declared.events.What.TheVariants as what
use Rattle.nt_event.specs.declared.frames.Body.{Body}
use Rattle.nt_event.specs.declared.frames.Body.TheVariants as on
use Rattle.nt_event.specs.declared.inserts.Part.{Part}
use Rattle.nt_event.specs.declared.inserts.Part.TheVariants.{Ordinary as OrdinaryPart, Threaded as ThreadedPart}
use Rattle.nt_event.specs.declared.inserts.Standing.{Standing}
use Rattle.nt_event.specs.declared.jobs.Lane.{Lane}
use Rattle.nt_event.specs.declared.jobs.Lane.TheVariants.{Lock as LockLane, Object as ObjectLane, Queue as QueueLane, Threads as ThreadsLane}
use Rattle.nt_event.specs.declared.jobs.Lane.TheVariants.{Timers as TimersLane}
use Rattle.nt_event.specs.declared.jobs.Stand.{Stand}
use Rattle.nt_event.specs.declared.numbers.ApcNo.{ApcNo}
use Rattle.nt_event.specs.declared.numbers.CpuNo.{CpuNo}
use Rattle.nt_event.specs.declared.numbers.DpcNo.{DpcNo}
use Rattle.nt_event.specs.declared.numbers.LockNo.{LockNo}
use Rattle.nt_event.specs.declared.scripts.Script.{Script}
use Rattle.nt_event.specs.Apcs.{has_kernel}
use Rattle.nt_event.specs.Classes.{apc_class, clock_class, dispatch_class, lock_class, threaded_class}
use Rattle.nt_event.specs.Lanes.{Lanes, begin_lanes, command_lanes, end_lanes, expire_lanes, facts_at, facts_of, insert_lanes, lane_if, lock_at, object_at}
use Rattle.nt_event.specs.Lanes.{queue_at, standing_lanes, what_lanes}
use Rattle.nt_event.specs.Numbers.{cpu}
use Rattle.nt_event.specs.Objects.{ObjectState, queue_for}
use Rattle.nt_event.specs.Queues.{QueueState, depth_of, insert_asks}
use Rattle.nt_event.specs.Regions.{some_came_to_0}
use Rattle.nt_event.specs.Replies.{is_refused, is_yes}
use Rattle.nt_event.specs.Requests.{Ask, apc_asks, ask_if, asks_in, command_asks, dpc_asks, end_asks, is_ask, queue_asks, spinner_asks, what_asks}
use Rattle.nt_event.specs.Routines.{cpu_of, depth_limit, is_kernel_kind, kind_of, owner_of, part_of}
use Rattle.nt_event.specs.Threads.{ends_by_alert, ends_by_apc, ends_by_expiry, is_gone}
use Rattle.nt_event.specs.Waits.{new_pick}
use Rattle.nt_event.specs.Acts.{is_among}
use Rattle.nt_plain.specs.Classes.{is_told_class, is_work_class}

-- a class that isn't one of the four
record IsOther (c : ℕ) : Type 0 where
  threaded : (threaded_class == c) ≡ false
  apc : (apc_class == c) ≡ false
  dispatch : (dispatch_class == c) ≡ false
  clock : (clock_class == c) ≡ false

-- a class that is no work class is none of the four work classes
is_other : (c : ℕ) → is_work_class c ≡ false → IsOther c
is_other c h =
    let p = or_parts ((threaded_class == c || apc_class == c) || dispatch_class == c) (clock_class == c) h in
    let q = or_parts (threaded_class == c || apc_class == c) (dispatch_class == c) p.0 in
    let r = or_parts (threaded_class == c) (apc_class == c) q.0 in
    record { threaded = r.0; apc = r.1; dispatch = q.1; clock = p.1 }

-- the asks are for none of the class
abbrev AskNone : List Ask → CpuNo → ℕ → Type 0
AskNone asks p c = list_any (is_ask p c) asks ≡ false

-- a request of another class put before requests that ask nothing of a class still asks nothing of it
one : (q p : CpuNo) (k c : ℕ) (more : List Ask) → (k == c) ≡ false → AskNone more p c → AskNone (record { cpu = q; class = k } ∷ more) p c
one q p k c more other rest = or_from (q.0 == p.0 && k == c) (list_any (is_ask p c) more) (and_right (q.0 == p.0) (k == c) other) rest

-- a single conditional request of another class asks nothing of a class
one_if : (b : Bool) (q p : CpuNo) (k c : ℕ) → (k == c) ≡ false → AskNone (ask_if b q k) p c
one_if true q p k c other = one q p k c [] other refl
one_if false q p k c other = refl

-- a conditional request of another class joined to requests that ask nothing of a class asks nothing of it
two_if : (b : Bool) (q p : CpuNo) (k c : ℕ) (more : List Ask) → (k == c) ≡ false → AskNone more p c → AskNone (ask_if b q k ++ more) p c
two_if true q p k c more other rest = one q p k c more other rest
two_if false q p k c more other rest = rest

-- the requests of an inserted DPC ask nothing outside the four work classes
by_part : (s : Script) (part : Part) (o : ObjectState) (by q : CpuNo) (x : QueueState) (p : CpuNo) (c : ℕ) → IsOther c → AskNone (dpc_asks s part o by q x) p c
by_part s ThreadedPart o by q x p c h = one q p threaded_class c [] h.threaded refl
by_part s OrdinaryPart o by q x p c h =
    one_if (insert_asks o.importance (q.0 == by.0) (nat_lt (depth_limit s) (depth_of x.pending + 1)) x.idle) q p dispatch_class c h.dispatch

-- the requests of a queued DPC ask nothing outside the four work classes
by_queue : (s : Script) (d : DpcNo) (by : CpuNo) (l : Lanes) (p : CpuNo) (c : ℕ) → IsOther c → AskNone (queue_asks s d by l) p c
by_queue s d by l p c h =
    by_part s (part_of s d) (object_at l d) by (queue_for (object_at l d).target by) (queue_at l (queue_for (object_at l d).target by)) p c h

-- the requests of an inserted APC ask nothing outside the four work classes
by_apc : (s : Script) (a : ApcNo) (l : Lanes) (p : CpuNo) (c : ℕ) → IsOther c → AskNone (apc_asks s a l) p c
by_apc s a l p c h =
    two_if (is_kernel_kind (kind_of s a)) (cpu_of s (owner_of s a)) p apc_class c
    (ask_if (ends_by_apc (new_pick s a 0) (facts_at l (owner_of s a))) (cpu_of s (owner_of s a)) dispatch_class) h.apc
    (one_if (ends_by_apc (new_pick s a 0) (facts_at l (owner_of s a))) (cpu_of s (owner_of s a)) p dispatch_class c h.dispatch)

-- the lane is not touched, or none of the class is asked for
abbrev TellNone : Lane → List Lane → List Ask → CpuNo → ℕ → Type 0
TellNone x lanes asks p c = (is_among x lanes ≡ false) ⊎ AskNone asks p c

-- a call, refused or not, tells a lane nothing of a class if its lanes and requests do not
by_call : (refused : Bool) (x : Lane) (lanes : List Lane) (asks : List Ask) (p : CpuNo) (c : ℕ) → TellNone x lanes asks p c →
    TellNone x (if refused then [] else lanes) asks p c
by_call true x lanes asks p c h = inl refl
by_call false x lanes asks p c h = h

-- ---- a lane that is no lock's

-- the lane is none of a lock
abbrev IsWork : Lane → Type 0
IsWork x = (k : LockNo) → is_among x (LockLane k ∷ []) ≡ false

-- case: a command tells a work lane of no class other than the four
by_command : (s : Script) (st : Stand) (k : Command) (y : Reply) (l : Lanes) (x : Lane) (p : CpuNo) (c : ℕ) → IsWork x → IsOther c →
    TellNone x (command_lanes s st.cpu k y l) (command_asks s st k y l) p c
by_command s st (cmd.Queue d) Yes l x p c work h = inr (by_queue s d st.cpu l p c h)
by_command s st (cmd.Queue d) Done l x p c work h = inr refl
by_command s st (cmd.Queue d) No l x p c work h = inr refl
by_command s st (cmd.Queue d) (Status n) l x p c work h = inr refl
by_command s st (cmd.Queue d) Blocked l x p c work h = inr refl
by_command s st (cmd.Queue d) Spin l x p c work h = inr refl
by_command s st (cmd.Queue d) (Refused r) l x p c work h = inr refl
by_command s st (cmd.InsertApc a) Yes l x p c work h = inr (by_apc s a l p c h)
by_command s st (cmd.InsertApc a) Done l x p c work h = inr refl
by_command s st (cmd.InsertApc a) No l x p c work h = inr refl
by_command s st (cmd.InsertApc a) (Status n) l x p c work h = inr refl
by_command s st (cmd.InsertApc a) Blocked l x p c work h = inr refl
by_command s st (cmd.InsertApc a) Spin l x p c work h = inr refl
by_command s st (cmd.InsertApc a) (Refused r) l x p c work h = inr refl
by_command s st (cmd.Release t) Yes l x p c work h = inr (one (cpu_of s t) p dispatch_class c [] h.dispatch refl)
by_command s st (cmd.Release t) Done l x p c work h = inr refl
by_command s st (cmd.Release t) No l x p c work h = inr refl
by_command s st (cmd.Release t) (Status n) l x p c work h = inr refl
by_command s st (cmd.Release t) Blocked l x p c work h = inr refl
by_command s st (cmd.Release t) Spin l x p c work h = inr refl
by_command s st (cmd.Release t) (Refused r) l x p c work h = inr refl
by_command s st (cmd.Alert t m) No l x p c work h =
    inr (one_if (not (is_gone (facts_at l t)) && ends_by_alert m (facts_at l t)) (cpu_of s t) p dispatch_class c h.dispatch)
by_command s st (cmd.Alert t m) Done l x p c work h = inr refl
by_command s st (cmd.Alert t m) Yes l x p c work h = inr refl
by_command s st (cmd.Alert t m) (Status n) l x p c work h = inr refl
by_command s st (cmd.Alert t m) Blocked l x p c work h = inr refl
by_command s st (cmd.Alert t m) Spin l x p c work h = inr refl
by_command s st (cmd.Alert t m) (Refused r) l x p c work h = inr refl
by_command s st (cmd.Clock units) Done l x p c work h = inr (one st.cpu p clock_class c [] h.clock refl)
by_command s st (cmd.Clock units) Yes l x p c work h = inr refl
by_command s st (cmd.Clock units) No l x p c work h = inr refl
by_command s st (cmd.Clock units) (Status n) l x p c work h = inr refl
by_command s st (cmd.Clock units) Blocked l x p c work h = inr refl
by_command s st (cmd.Clock units) Spin l x p c work h = inr refl
by_command s st (cmd.Clock units) (Refused r) l x p c work h = inr refl
by_command s st cmd.LeaveCrit y l x p c work h = inl refl
by_command s st cmd.LeaveGuard y l x p c work h = inl refl
by_command s st (cmd.Interrupt q level) y l x p c work h = inl refl
by_command s st (cmd.Raise level) y l x p c work h = inl refl
by_command s st (cmd.Lower level) y l x p c work h = inl refl
by_command s st (cmd.Unqueue d) y l x p c work h = inr refl
by_command s st (cmd.SetImportance d i) y l x p c work h = inr refl
by_command s st (cmd.SetTarget d q) y l x p c work h = inr refl
by_command s st (cmd.SetTimer t due period) y l x p c work h = inr refl
by_command s st (cmd.CancelTimer t) y l x p c work h = inr refl
by_command s st (cmd.RemoveApc a) y l x p c work h = inr refl
by_command s st cmd.EnterCrit y l x p c work h = inl refl
by_command s st cmd.EnterGuard y l x p c work h = inl refl
by_command s st (cmd.StartWait m a) y l x p c work h = inr refl
by_command s st (cmd.Delay m a units) y l x p c work h = inr refl
by_command s st (cmd.TestAlert m) y l x p c work h = inr refl
by_command s st cmd.ToUser y l x p c work h = inr refl
by_command s st cmd.Yield y l x p c work h = inr refl
by_command s st (cmd.Acquire k) y l x p c work h = inl (work k)
by_command s st (cmd.Unlock k) y l x p c work h = inl (work k)
by_command s st (cmd.Note n) y l x p c work h = inl refl

-- case: the end of a frame tells a lane of no class other than the four
by_end : (st : Stand) (body : Option Body) (l : Lanes) (x : Lane) (p : CpuNo) (c : ℕ) → IsOther c →
    TellNone x (end_lanes st.cpu body) (end_asks st body l) p c
by_end st (Some (on.Base t)) l x p c h =
    inr (one_if (some_came_to_0 st.regions st.below || has_kernel (facts_of l st.thread).apcs) st.cpu p apc_class c h.apc)
by_end st (Some (on.Apc a kinds.User)) l x p c h =
    inr (one_if (some_came_to_0 st.regions st.below) st.cpu p apc_class c h.apc)
by_end st (Some (on.Apc a kinds.Normal)) l x p c h = inl refl
by_end st (Some (on.Apc a kinds.Special)) l x p c h = inl refl
by_end st (Some (on.Int level)) l x p c h = inl refl
by_end st (Some (on.Dpc d)) l x p c h = inl refl
by_end st (Some (on.Threaded d)) l x p c h = inl refl
by_end st (Some (on.Rundown a)) l x p c h = inl refl
by_end st None l x p c h = inl refl

-- case: any event tells a work lane of no class other than the four
by_event : (s : Script) (st : Stand) (w : What) (l : Lanes) (x : Lane) (p : CpuNo) (c : ℕ) → IsWork x → IsOther c →
    TellNone x (what_lanes s st w l) (what_asks s st w l) p c
by_event s st (what.Call f k y) l x p c work h =
    by_call (is_refused y) x (command_lanes s st.cpu k y l) (command_asks s st k y l) p c (by_command s st k y l x p c work h)
by_event s st (what.Fire d Yes) l x p c work h = inr (by_queue s d st.cpu l p c h)
by_event s st (what.Fire d Done) l x p c work h = inr refl
by_event s st (what.Fire d No) l x p c work h = inr refl
by_event s st (what.Fire d (Status n)) l x p c work h = inr refl
by_event s st (what.Fire d Blocked) l x p c work h = inr refl
by_event s st (what.Fire d Spin) l x p c work h = inr refl
by_event s st (what.Fire d (Refused r)) l x p c work h = inr refl
by_event s st (what.Expire (keys.Delay t) from) l x p c work h =
    inr (one_if (ends_by_expiry from (facts_at l t)) (cpu_of s t) p dispatch_class c h.dispatch)
by_event s st (what.Expire (keys.Timer t) from) l x p c work h = inr refl
by_event s st (what.Switch t status) l x p c work h = inr (one_if (has_kernel (facts_at l t).apcs) st.cpu p apc_class c h.apc)
by_event s st (what.End f) l x p c work h = by_end st st.body l x p c h
by_event s st (what.Normal f) l x p c work h = inl refl
by_event s st (what.Look r) l x p c work h = inl refl
by_event s st (what.Begin b from) l x p c work h = inr refl
by_event s st (what.Clean class) l x p c work h = inr refl
by_event s st (what.Rewait f y) l x p c work h = inr refl
by_event s st (what.Flush a from) l x p c work h = inr refl
by_event s st (what.Gone t) l x p c work h = inr refl
by_event s st (what.Free f k) l x p c work h = inl (work k)
by_event s st what.Rest l x p c work h = inr refl

-- ---- a lock's lane

-- the requests of a released lock ask nothing of any class but the lock's
spinners_none : (n : ℕ) (flags : List Bool) (p : CpuNo) (c : ℕ) → (lock_class == c) ≡ false → AskNone (spinner_asks n flags) p c
spinners_none n [] p c h = refl
spinners_none n (b ∷ flags) p c h =
    two_if b (cpu n) p lock_class c (spinner_asks (suc n) flags) h (spinners_none (suc n) flags p c h)

module _ (j : LockNo) where
  -- a lane that may be touched too
  no_lock_if : (b : Bool) (y : Lane) → is_among (LockLane j) (y ∷ []) ≡ false → is_among (LockLane j) (lane_if b y) ≡ false
  no_lock_if true y h = h
  no_lock_if false y h = refl

  at_insert : (p : CpuNo) (d : DpcNo) (y : Reply) (l : Lanes) → is_among (LockLane j) (insert_lanes p d y l) ≡ false
  at_insert p d y l = no_lock_if (is_yes y) (QueueLane (queue_for (object_at l d).target p)) refl

  at_removal : (o : Option Standing) → is_among (LockLane j) (standing_lanes o) ≡ false
  at_removal None = refl
  at_removal (Some at) = refl

  at_command : (s : Script) (st : Stand) (k : Command) (y : Reply) (l : Lanes) (p : CpuNo) (c : ℕ) → (lock_class == c) ≡ false →
      TellNone (LockLane j) (command_lanes s st.cpu k y l) (command_asks s st k y l) p c
  at_command s st (cmd.Unlock k) Done l p c h = inr (spinners_none 0 (lock_at l k).spinners p c h)
  at_command s st (cmd.Unlock k) Yes l p c h = inr refl
  at_command s st (cmd.Unlock k) No l p c h = inr refl
  at_command s st (cmd.Unlock k) (Status n) l p c h = inr refl
  at_command s st (cmd.Unlock k) Blocked l p c h = inr refl
  at_command s st (cmd.Unlock k) Spin l p c h = inr refl
  at_command s st (cmd.Unlock k) (Refused r) l p c h = inr refl
  at_command s st (cmd.Acquire k) y l p c h = inr refl
  at_command s st (cmd.Queue d) y l p c h = inl (at_insert st.cpu d y l)
  at_command s st (cmd.Unqueue d) y l p c h = inl (at_removal (object_at l d).standing)
  at_command s st (cmd.Raise level) y l p c h = inl refl
  at_command s st (cmd.Lower level) y l p c h = inl refl
  at_command s st (cmd.SetImportance d i) y l p c h = inl refl
  at_command s st (cmd.SetTarget d q) y l p c h = inl refl
  at_command s st (cmd.SetTimer t due period) y l p c h = inl refl
  at_command s st (cmd.CancelTimer t) y l p c h = inl refl
  at_command s st (cmd.InsertApc a) y l p c h = inl refl
  at_command s st (cmd.RemoveApc a) y l p c h = inl refl
  at_command s st cmd.EnterCrit y l p c h = inl refl
  at_command s st cmd.EnterGuard y l p c h = inl refl
  at_command s st cmd.LeaveCrit y l p c h = inl refl
  at_command s st cmd.LeaveGuard y l p c h = inl refl
  at_command s st (cmd.StartWait m a) y l p c h = inl refl
  at_command s st (cmd.Delay m a units) y l p c h = inl refl
  at_command s st (cmd.Release t) y l p c h = inl refl
  at_command s st (cmd.Alert t m) y l p c h = inl refl
  at_command s st (cmd.TestAlert m) y l p c h = inl refl
  at_command s st (cmd.Interrupt q level) y l p c h = inl refl
  at_command s st (cmd.Clock units) y l p c h = inl refl
  at_command s st cmd.ToUser y l p c h = inl refl
  at_command s st cmd.Yield y l p c h = inl refl
  at_command s st (cmd.Note n) y l p c h = inl refl

  at_begin : (st : Stand) (b : Begun) → is_among (LockLane j) (begin_lanes st b) ≡ false
  at_begin st (begun.Int level) = refl
  at_begin st (begun.Dpc d) = no_lock_if st.sweep TimersLane refl
  at_begin st (begun.Threaded d) = refl
  at_begin st (begun.Apc a) = refl

  at_clean : (apcs both : Bool) (p : CpuNo) → is_among (LockLane j) (if apcs then (ThreadsLane p ∷ []) else (QueueLane p ∷ lane_if both TimersLane)) ≡ false
  at_clean true both p = refl
  at_clean false both p = no_lock_if both TimersLane refl

  at_expiry : (s : Script) (key : TimerKey) → is_among (LockLane j) (expire_lanes s key) ≡ false
  at_expiry s (keys.Timer t) = refl
  at_expiry s (keys.Delay t) = refl

  at_end : (p : CpuNo) (body : Option Body) → is_among (LockLane j) (end_lanes p body) ≡ false
  at_end p (Some (on.Base t)) = refl
  at_end p (Some (on.Apc a kinds.User)) = refl
  at_end p (Some (on.Apc a kinds.Normal)) = refl
  at_end p (Some (on.Apc a kinds.Special)) = refl
  at_end p (Some (on.Int level)) = refl
  at_end p (Some (on.Dpc d)) = refl
  at_end p (Some (on.Threaded d)) = refl
  at_end p (Some (on.Rundown a)) = refl
  at_end p None = refl

  at_event : (s : Script) (st : Stand) (w : What) (l : Lanes) (p : CpuNo) (c : ℕ) → (lock_class == c) ≡ false →
      TellNone (LockLane j) (what_lanes s st w l) (what_asks s st w l) p c
  at_event s st (what.Call f k y) l p c h =
      by_call (is_refused y) (LockLane j) (command_lanes s st.cpu k y l) (command_asks s st k y l) p c (at_command s st k y l p c h)
  at_event s st (what.Free f k) l p c h = inr (spinners_none 0 (lock_at l k).spinners p c h)
  at_event s st (what.Fire d y) l p c h = inl (at_insert st.cpu d y l)
  at_event s st (what.Expire key from) l p c h = inl (at_expiry s key)
  at_event s st (what.Switch t status) l p c h = inl refl
  at_event s st (what.End f) l p c h = inl (at_end st.cpu st.body)
  at_event s st (what.Normal f) l p c h = inl refl
  at_event s st (what.Look r) l p c h = inl refl
  at_event s st (what.Begin b from) l p c h = inl (at_begin st b)
  at_event s st (what.Clean class) l p c h = inl (at_clean (class == apc_class) (st.sweep && (class == dispatch_class)) st.cpu)
  at_event s st (what.Rewait f y) l p c h =
      inl (no_lock_if (is_some (option_and_then (λ w. w.due) st.again)) TimersLane refl)
  at_event s st (what.Flush a from) l p c h = inl refl
  at_event s st (what.Gone t) l p c h = inl refl
  at_event s st what.Rest l p c h = inl refl

-- ---- each lane

-- an event that touches a lane asks for no class that the lane does not tell of
each_event : (s : Script) (st : Stand) (w : What) (l : Lanes) (x : Lane) (p : CpuNo) (c : ℕ) → is_told_class x c ≡ false →
    TellNone x (what_lanes s st w l) (what_asks s st w l) p c
each_event s st w l (ObjectLane d) p c h = by_event s st w l (ObjectLane d) p c (λ k. refl) (is_other c h)
each_event s st w l (QueueLane q) p c h = by_event s st w l (QueueLane q) p c (λ k. refl) (is_other c h)
each_event s st w l (ThreadsLane q) p c h = by_event s st w l (ThreadsLane q) p c (λ k. refl) (is_other c h)
each_event s st w l TimersLane p c h = by_event s st w l TimersLane p c (λ k. refl) (is_other c h)
each_event s st w l (LockLane k) p c h = at_event k s st w l p c h

-- an event that touches the lane asks for no class of which the lane doesn't tell
pub tells_of_others : (s : Script) (st : Stand) (w : What) (l : Lanes) (x : Lane) (p : CpuNo) (c : ℕ) → is_told_class x c ≡ false →
    (is_among x (what_lanes s st w l) && asks_in s st w l p c) ≡ false
tells_of_others s st w l x p c h = go (each_event s st w l x p c h)
  where
    go : TellNone x (what_lanes s st w l) (what_asks s st w l) p c → (is_among x (what_lanes s st w l) && asks_in s st w l p c) ≡ false
    go (inl none) = and_left (is_among x (what_lanes s st w l)) (asks_in s st w l p c) none
    go (inr none) = and_right (is_among x (what_lanes s st w l)) (asks_in s st w l p c) none
