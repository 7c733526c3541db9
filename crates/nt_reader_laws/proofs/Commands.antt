-- A refused command changes nothing but the place in the routine that called it.
use Rattle.nt_close.proofs.Rests.{clear_inner, rested_clear}
use Rattle.nt_event.proofs.Moves.{own_stays, queue_moves}
use Rattle.nt_event.proofs.Tables.{get_or-table, length-table_from, table-same}
use Rattle.nt_event.specs.Calls.{stops, wait_begun}
use Rattle.nt_event.specs.Classes.{lock_class}
use Rattle.nt_event.specs.Commands.{reply}
use Rattle.nt_event.specs.Frames.{Frames, at_head, at_name, called, due_of, effect_by, frames_in, frames_of, held_moved, innermost, level_moved, own_after}
use Rattle.nt_event.specs.Frames.{own_frames, running, running_after, spin_moved, thread_after, thread_frames, thread_if, thread_part, time, time_after}
use Rattle.nt_event.specs.LaneStates.{lane_state}
use Rattle.nt_event.specs.Lanes.{Lanes, lanes_at, lanes_of, lock_at, queue_at, same_lane, what_lanes}
use Rattle.nt_event.specs.Jobs.{level_at}
use Rattle.nt_event.specs.Lists.{head_of, is_null, table}
use Rattle.nt_event.specs.Locks.{Frees, Gets, LockMove, NoMove, Spins, call_move, lock_move, lock_moved, lock_of}
use Rattle.nt_event.specs.Numbers.{cpu, dpc, is_by, is_of, is_thread, lock, thread, timer}
use Rattle.nt_event.specs.Objects.{ObjectState, object_after, object_of, objects_at}
use Rattle.nt_event.specs.Own.{fire, fire_after, is_rest, made, own_of, rested, stand_in, took, took_after}
use Rattle.nt_event.specs.Queues.{QueueState, queue_after, queue_of, start_queue}
use Rattle.nt_event.specs.Regions.{owes_sweep, stand_at, sweep_after}
use Rattle.nt_event.specs.Requests.{Ask, asked, asks, command_asks, is_ask, raised, seen, seen_after, served, served_after, told, told_by_all, what_asks}
use Rattle.nt_event.specs.Step.{IsRun, thread_field}
use Rattle.nt_event.specs.Threads.{ThreadFacts}
use Rattle.nt_event.specs.Timers.{blocked_after, delay_setting, expired_delay, timer_after, timer_setting, timers_at}
use Rattle.nt_event.specs.Waits.{facts, is_of_thread, made_facts, named_facts}
use Rattle.nt_event.specs.declared.commands.Command.{Command}
use Rattle.nt_event.specs.declared.commands.Command.TheVariants.{Acquire, Clock, Delay, Queue, Release, SetTimer, Unlock, Yield}
use Rattle.nt_event.specs.declared.commands.Refusal.{Refusal}
use Rattle.nt_event.specs.declared.commands.Reply.TheVariants.{Done, Refused, Spin}
use Rattle.nt_event.specs.declared.events.Event.{Event}
use Rattle.nt_event.specs.declared.events.What.{What}
use Rattle.nt_event.specs.declared.events.What.TheVariants.{Call}
use Rattle.nt_event.specs.declared.frames.Again.{Again}
use Rattle.nt_event.specs.Frame.{Frame}
use Rattle.nt_event.specs.declared.frames.Held.{Held}
use Rattle.nt_event.specs.declared.inserts.Setting.{Setting}
use Rattle.nt_event.specs.declared.jobs.Lane.{Lane}
use Rattle.nt_event.specs.declared.jobs.Stand.{Stand}
use Rattle.nt_event.specs.declared.numbers.CpuNo.{CpuNo}
use Rattle.nt_event.specs.declared.numbers.DpcNo.{DpcNo}
use Rattle.nt_event.specs.declared.numbers.ThreadNo.{ThreadNo}
use Rattle.nt_event.specs.declared.numbers.TimerNo.{TimerNo}
use Rattle.nt_event.specs.declared.scripts.Script.{Script}
use Rattle.nt_reader_laws.specs.Commands.{LeavesAllButPlace, RefusedCommandsTakeTheirPlace, at_head_if, at_next_place, own_placed, placed, placed_on}
use Rattle.nt_runs.proofs.Calm.{level_inner}
use Rattle.nt_runs.proofs.Facts.{if_none}
use Rattle.nt_runs.proofs.Known.{Known, KnownCall, legal_known, refusal_in, reply_or}
use Rattle.nt_runs.proofs.Names.{Apart, NotAmong, all_named}
use Rattle.nt_runs.proofs.Parts.{inner_locked}
use Rattle.nt_runs.proofs.Running.{frames_when, part_of_running, running_here, same_thread, thread_named}
use Rattle.nt_runs.proofs.Shared.{part_head}
use Rattle.nt_runs.proofs.Turns.{is_next}
use Rattle.nt_runs.proofs.Untouched.{untouched}
use Rattle.nt_runs.specs.SomeFrame.{among}
use Rattle.std.proofs.Common.{ap, refl, subst, sym, ◌∙◌}
use Rattle.std.proofs.Math.Nat.{max-zero}
use Rattle.std.proofs.lemmas.Bool.{eq-eqb, eqb-true}
use Rattle.std.specs.List.{list_any}
use Rattle.std.specs.Option.{option_or}
use Rattle.std.specs.Prelude.{Bool, List, None, Option, Some, [], false, if◌then◌else◌, is_none, is_some, length, max, true, ℕ, ◌&&◌, ◌+◌, ◌<◌, ◌==◌, ◌∷◌, ◌≡◌}

-- ---- what a refused call does, command by command

-- a refused call moves no lock
refused_move : (c : Command) (r : Refusal) → call_move c (Refused r) ≡ NoMove
refused_move (Acquire x) r = refl
refused_move (Unlock x) r = refl
refused_move c r = refl

-- of a frame that doesn't spin
refused_next : (due : Option ℕ) (c : Command) (r : Refusal) (f : Frame) → f.spin ≡ None → called due c (Refused r) f ≡ at_next_place f
refused_next due c r f q =
    go (wait_begun due c) (call_move c (Refused r)) (refused_move c r) ∙ ap (λ (o : Option Held). record (at_next_place f) { spin = o }) (sym q)
  where
    go : (o : Option Again) (m : LockMove) → m ≡ NoMove →
        record (effect_by o c (Refused r) f) {
          place = f.place + 1;
          level = level_moved m f (effect_by o c (Refused r) f).level;
          spin = spin_moved m f;
          held = held_moved m f;
        } ≡ record (at_next_place f) { spin = None }
    go None NoMove e = refl
    go (Some w) NoMove e = refl
    go o (Gets x) e = cc
    go o (Spins x) e = cc
    go o (Frees x) e = cc

-- a refused call does not stop its routine
refused_goes_on : (c : Command) (r : Refusal) → stops c (Refused r) ≡ false
refused_goes_on Yield r = refl
refused_goes_on c r = refl

-- a refused call leaves the sweep as it was
refused_sweep : (n : ℕ) (c : Command) (r : Refusal) (old : Bool) → sweep_after (Call n c (Refused r)) old ≡ old
refused_sweep n (SetTimer t due period) r old = refl
refused_sweep n c r old = refl

-- a refused call asks for nothing
refused_asks : (s : Script) (st : Stand) (c : Command) (r : Refusal) (l : Lanes) → command_asks s st c (Refused r) l ≡ []
refused_asks s st (Queue d) r l = refl
refused_asks s st c r l = refl

-- a refused call leaves each DPC object as it was
refused_object : (d : DpcNo) (n m : ℕ) (by : CpuNo) (c : Command) (r : Refusal) (o : ObjectState) → object_after d n by (Call m c (Refused r)) o ≡ o
refused_object d n m by (Queue e) r o = refl
refused_object d n m by c r o = refl

-- a refused call leaves each DPC queue as it was
refused_queue : (s : Script) (p : CpuNo) (n m : ℕ) (by : CpuNo) (c : Command) (r : Refusal) (objects : List ObjectState) (x : QueueState) →
    queue_after s p n by (Call m c (Refused r)) objects x ≡ x
refused_queue s p n m by (Queue e) r objects x = go (by.0 == p.0)
  where
    go : (b : Bool) → record x { idle = if b then x.idle else x.idle } ≡ x
    go true = refl
    go false = refl
refused_queue s p n m by c r objects x = go (by.0 == p.0)
  where
    go : (b : Bool) → record x { idle = if b then x.idle else x.idle } ≡ x
    go true = refl
    go false = refl

-- a refused call leaves the facts of the calling thread as they were
refused_made : (s : Script) (n m : ℕ) (st : Stand) (c : Command) (r : Refusal) (x : ThreadFacts) → made_facts s n st (Call m c (Refused r)) x ≡ x
refused_made s n m st (Yield) r x = refl
refused_made s n m st c r x = refl

-- a refused call leaves the facts of the threads that it names as they were
refused_named : (s : Script) (t : ThreadNo) (n m : ℕ) (c : Command) (r : Refusal) (x : ThreadFacts) → named_facts s t n (Call m c (Refused r)) x ≡ x
refused_named s t n m (Release u) r x = refl
refused_named s t n m c r x = refl

-- a refused call leaves the time as it was
refused_time : (m now : ℕ) (c : Command) (r : Refusal) → time_after (Call m c (Refused r)) now ≡ now
refused_time m now (Clock u) r = refl
refused_time m now c r = refl

-- a refused call leaves each timer's setting as it was
refused_timer : (t : TimerNo) (n m now : ℕ) (c : Command) (r : Refusal) (old : Option Setting) → timer_after t n now (Call m c (Refused r)) old ≡ old
refused_timer t n m now (SetTimer x due period) r old = refl
refused_timer t n m now c r old = refl

-- a refused call leaves a blocked thread's setting as it was
refused_blocked : (n m now : ℕ) (again : Option Again) (c : Command) (r : Refusal) (old : Option Setting) →
    blocked_after n now again (Call m c (Refused r)) old ≡ old
refused_blocked n m now again (Delay mode a u) r old = refl
refused_blocked n m now again c r old = refl

-- ---- the innermost frame

-- a list of frames that the test finds empty is empty
null_list : (fs : List Frame) → is_null fs ≡ true → fs ≡ []
null_list [] h = refl
null_list (f ∷ fs) h = cc

-- numbers that are not the same differ by the test
unequal : (m n : ℕ) → (m ≡ n → ⊥) → (m == n) ≡ false
unequal m n h = go (m == n) refl
  where
    go : (b : Bool) → (m == n) ≡ b → b ≡ false
    go false e = refl
    go true e = absurd (h (eqb-true m n e))

-- changing the frames of a name that is not among them leaves all frames as they were
at_name_none : (n : ℕ) (g : Frame → Frame) (fs : List Frame) → NotAmong n fs → at_name n g fs ≡ fs
at_name_none n g [] h = refl
at_name_none n g (f ∷ fs) h = ap (λ (b : Bool). (if b then g f else f) ∷ fs) (unequal f.name n h.0)

-- the call of the first frame of a part
head_placed : (due : Option ℕ) (c : Command) (r : Refusal) (f : Frame) (fs : List Frame) → f.spin ≡ None → head_of fs ≡ Some f →
    at_name f.name (called due c (Refused r)) fs ≡ at_head at_next_place fs
head_placed due c r f [] q h = cc
head_placed due c r f (g ∷ fs) q h =
    let same : g ≡ f = cc in
    let name : (g.name == f.name) ≡ true = eq-eqb g.name f.name (ap (λ (x : Frame). x.name) same) in
    ap (λ (b : Bool). (if b then called due c (Refused r) g else g) ∷ fs) name
    ∙ ap (λ (x : Frame). x ∷ fs) (refused_next due c r g (ap (λ (x : Frame). x.spin) same ∙ q))

-- no frame of a thread's part has the name of the first one of the own part
apart_head : (f : Frame) (gs fs : List Frame) → head_of gs ≡ Some f → Apart gs fs → NotAmong f.name fs
apart_head f [] fs h a = cc
apart_head f (g ∷ gs) fs h a =
    let same : g ≡ f = cc in subst (λ (x : Frame). NotAmong x.name fs) same a.0

-- the innermost frame is the first of the processor's own, if it has any
own_head : (x : Frames) (f : Frame) → innermost x ≡ Some f → is_null x.own ≡ false → head_of x.own ≡ Some f
own_head x f h n = go x.own refl
  where
    go : (fs : List Frame) → x.own ≡ fs → head_of fs ≡ Some f
    go [] e = let k : is_null {A = Frame} [] ≡ false = subst (λ (fs : List Frame). is_null fs ≡ false) e n in cc
    go (g ∷ fs) e =
        let k : option_or (head_of (g ∷ fs)) (head_of (thread_part x)) ≡ Some f =
        subst (λ (gs : List Frame). option_or (head_of gs) (head_of (thread_part x)) ≡ Some f) e h in
        cc

-- ---- a frame that spins tries its lock again, which isn't refused; so the frame of a refused call spins on none

-- a refusal is not a reply to trying for a lock
not_refused : (b : Bool) (r : Refusal) → Refused r ≡ (if b then Done else Spin) → ⊥
not_refused true r h = cc
not_refused false r h = cc

-- in a run a frame whose call is refused spins on no lock
no_spin : (s : Script) (limit : ℕ) (p : CpuNo) (past : List Event) (n : ℕ) (c : Command) (r : Refusal) → IsRun s limit past →
    (k : KnownCall s p (own_of s p past) (lanes_at s past) n c (Refused r)) → k.frame.spin ≡ None
no_spin s limit p past n c r run k = go k.frame.spin refl
  where
    same_command : (a b : Command) → ◌≡◌ {A = Option Command} (Some a) (Some b) → a ≡ b
    same_command a b e = cc

    go : (o : Option Held) → k.frame.spin ≡ o → k.frame.spin ≡ None
    go None q = q
    go (Some h) q =
        let locked = inner_locked s limit p past k.frame run k.goes_on.inner in
        let again = locked.retry h q in
        let command : c ≡ Acquire h.lock = same_command c (Acquire h.lock) (sym k.command ∙ again.0) in
        let level : level_at (own_of s p past) ≡ 2 = level_inner (own_of s p past) k.frame k.goes_on.inner ∙ locked.spun (ap is_some q) in
        let here : Refused r ≡ reply_or (refusal_in (own_of s p past) k.frame (Acquire h.lock))
        (reply s (stand_in p (own_of s p past)) (lanes_at s past) (Acquire h.lock)) =
        subst (λ (d : Command). Refused r ≡ reply_or (refusal_in (own_of s p past) k.frame d) (reply s (stand_in p (own_of s p past)) (lanes_at s past) d))
        command k.reply in
        let free : among h.lock k.frame.held ≡ false = again.1 in
        let none : refusal_in (own_of s p past) k.frame (Acquire h.lock) ≡ None = rw (level, free) refl in
        absurd (not_refused (is_none (lock_at (lanes_at s past) h.lock).holder) r
        (here ∙ ap (λ (o : Option Refusal). reply_or o (reply s (stand_in p (own_of s p past)) (lanes_at s past) (Acquire h.lock))) none))

-- ---- the frames

-- the refused call of a processor of a run
record Refusing (s : Script) (limit : ℕ) (e : Event) (past : List Event) (c : Command) (r : Refusal) (f : Frame) : Type 0 where
  run : IsRun s limit (e ∷ past)
  is_call : e.what ≡ Call f.name c (Refused r)
  inner : innermost (frames_of s e.cpu past) ≡ Some f
  spin : f.spin ≡ None

module _ (s : Script) (limit : ℕ) (e : Event) (past : List Event) (c : Command) (r : Refusal) (f : Frame) (k : Refusing s limit e past c r f) where
  here : is_of e e.cpu ≡ true
  here = eq-eqb e.cpu.0 e.cpu.0 refl

  due : Option ℕ
  due = due_of e.what (time past)

  by_running : e.thread ≡ running e.cpu past
  by_running = thread_named s limit e past k.run.0 ∙ ap (λ (w : What). thread_field w (running e.cpu past)) k.is_call

  own_after_call : own_frames e.cpu (e ∷ past) ≡ at_name f.name (called (due_of e.what (time past)) c (Refused r)) (own_frames e.cpu past)
  own_after_call = rw here (ap (λ (w : What). own_after (length past) (due_of e.what (time past)) w (own_frames e.cpu past)) k.is_call)

  thread_after_call : (t : ThreadNo) → thread_frames s e.cpu t (e ∷ past)
      ≡ (if is_thread (running e.cpu past) t then at_name f.name (called (due_of e.what (time past)) c (Refused r)) (thread_frames s e.cpu t past)
      else thread_frames s e.cpu t past)
  thread_after_call t =
      frames_when s e.cpu t e past (is_by e t) here refl ∙ (go (is_by e t)
      ∙ ap (λ (o : Option ThreadNo). if is_thread o t then at_name f.name (called (due_of e.what (time past)) c (Refused r)) (thread_frames s e.cpu t past)
      else thread_frames s e.cpu t past) by_running)
    where
      go : (b : Bool) → thread_if b s (length past) (due_of e.what (time past)) e.what (thread_frames s e.cpu t past)
          ≡ (if b then at_name f.name (called (due_of e.what (time past)) c (Refused r)) (thread_frames s e.cpu t past) else thread_frames s e.cpu t past)
      go true = ap (λ (w : What). thread_after s (length past) (due_of e.what (time past)) w (thread_frames s e.cpu t past)) k.is_call
      go false = refl

  running_stays : running e.cpu (e ∷ past) ≡ running e.cpu past
  running_stays =
      rw here (ap (λ (w : What). running_after w (running e.cpu past)) k.is_call ∙ if_none (stops c (Refused r)) (running e.cpu past) (refused_goes_on c r))

  -- with a frame on the own part
  own_placed_first : is_null (own_frames e.cpu past) ≡ false → own_frames e.cpu (e ∷ past) ≡ at_head at_next_place (own_frames e.cpu past)
  own_placed_first n =
      own_after_call ∙ head_placed (due_of e.what (time past)) c r f (own_frames e.cpu past) k.spin (own_head (frames_of s e.cpu past) f k.inner n)

  thread_stays : is_null (own_frames e.cpu past) ≡ false → (t : ThreadNo) → thread_frames s e.cpu t (e ∷ past) ≡ thread_frames s e.cpu t past
  thread_stays n t = thread_after_call t ∙ go (is_thread (running e.cpu past) t)
    where
      fs : List Frame
      fs = thread_frames s e.cpu t past

      go : (b : Bool) → (if b then at_name f.name (called (due_of e.what (time past)) c (Refused r)) (thread_frames s e.cpu t past)
          else thread_frames s e.cpu t past) ≡ thread_frames s e.cpu t past
      go true =
          at_name_none f.name (called (due_of e.what (time past)) c (Refused r)) (thread_frames s e.cpu t past)
          (apart_head f (own_frames e.cpu past) (thread_frames s e.cpu t past) (own_head (frames_of s e.cpu past) f k.inner n) (all_named s e.cpu t past).apart)
      go false = refl

  -- with none there
  own_stays_empty : is_null (own_frames e.cpu past) ≡ true → own_frames e.cpu (e ∷ past) ≡ own_frames e.cpu past
  own_stays_empty n =
      let empty : own_frames e.cpu past ≡ [] = null_list (own_frames e.cpu past) n in
      own_after_call ∙ (ap (at_name f.name (called (due_of e.what (time past)) c (Refused r))) empty ∙ sym empty)

  part_placed : is_null (own_frames e.cpu past) ≡ true → (t : ThreadNo) → thread_frames s e.cpu t (e ∷ past)
      ≡ at_head_if (is_thread (running e.cpu past) t) at_next_place (thread_frames s e.cpu t past)
  part_placed n t = thread_after_call t ∙ go (is_thread (running e.cpu past) t) refl
    where
      go : (b : Bool) → is_thread (running e.cpu past) t ≡ b →
          (if b then at_name f.name (called (due_of e.what (time past)) c (Refused r)) (thread_frames s e.cpu t past) else thread_frames s e.cpu t past)
          ≡ at_head_if b at_next_place (thread_frames s e.cpu t past)
      go false q = refl
      go true q =
          let run : running e.cpu past ≡ Some t = same_thread (running e.cpu past) t q in
          let there = running_here s limit e.cpu t past k.run.1 run in
          let part : thread_part (frames_of s e.cpu past) ≡ thread_frames s e.cpu t past = part_of_running s e.cpu t past there.0 run in
          head_placed (due_of e.what (time past)) c r f (thread_frames s e.cpu t past) k.spin
          (sym (ap head_of part) ∙ part_head (frames_of s e.cpu past) f k.inner n)

  frames_placed : frames_of s e.cpu (e ∷ past) ≡ placed (frames_of s e.cpu past)
  frames_placed = go (is_null (own_frames e.cpu past)) refl
    where
      go : (b : Bool) → is_null (own_frames e.cpu past) ≡ b → frames_of s e.cpu (e ∷ past)
          ≡ (if b then record (frames_of s e.cpu past) { threads = placed_on (running e.cpu past) (frames_of s e.cpu past).threads }
          else record (frames_of s e.cpu past) { own = at_head at_next_place (own_frames e.cpu past) })
      go false n = λ i. record { own = own_placed_first n i; running = running_stays i; threads = parts i }
        where
          parts : table (length s.threads) (λ t. thread_frames s e.cpu (thread t) (e ∷ past))
              ≡ table (length s.threads) (λ t. thread_frames s e.cpu (thread t) past)
          parts = table-same _ _ _ (λ t l. thread_stays n (thread t))
      go true n = λ i. record { own = own_stays_empty n i; running = running_stays i; threads = parts i }
        where
          size : length (table (length s.threads) (λ t. thread_frames s e.cpu (thread t) past)) ≡ length s.threads
          size = length-table_from 0 (length s.threads) (λ t. thread_frames s e.cpu (thread t) past)

          read : (t : ℕ) → t < length s.threads → thread_frames s e.cpu (thread t) past ≡ frames_in (frames_of s e.cpu past).threads (thread t)
          read t l = sym (get_or-table (length s.threads) t (λ t. thread_frames s e.cpu (thread t) past) [] l)

          parts : table (length s.threads) (λ t. thread_frames s e.cpu (thread t) (e ∷ past)) ≡ placed_on (running e.cpu past) (frames_of s e.cpu past).threads
          parts =
              table-same (length s.threads) (λ t. thread_frames s e.cpu (thread t) (e ∷ past))
              (λ t. at_head_if (is_thread (running e.cpu past) (thread t)) at_next_place (frames_in (frames_of s e.cpu past).threads (thread t)))
              (λ t l. part_placed n (thread t) ∙ ap (at_head_if (is_thread (running e.cpu past) (thread t)) at_next_place) (read t l))
              ∙ ap (λ (n : ℕ). table n (λ t. at_head_if (is_thread (running e.cpu past) (thread t)) at_next_place
              (frames_in (frames_of s e.cpu past).threads (thread t)))) (sym size)

  -- ---- lanes and requests

  touches_none : lanes_of s e past ≡ []
  touches_none = ap (λ (w : What). what_lanes s (stand_at s e.cpu past) w (lanes_at s past)) k.is_call

  asks_none : what_asks s (stand_at s e.cpu past) e.what (lanes_at s past) ≡ []
  asks_none =
      ap (λ (w : What). what_asks s (stand_at s e.cpu past) w (lanes_at s past)) k.is_call ∙ refused_asks s (stand_at s e.cpu past) c r (lanes_at s past)

  asks_nobody : (p : CpuNo) (class : ℕ) → asks s p class e past ≡ false
  asks_nobody p class = ap (λ (xs : List Ask). list_any (is_ask p class) xs) asks_none

  tells_nothing : (p : CpuNo) (class : ℕ) → told s p class e past ≡ 0
  tells_nothing p class = ap (λ (xs : List Lane). told_by_all s xs p class past) touches_none

  seen_stays : (class : ℕ) → seen s e.cpu class (e ∷ past) ≡ seen s e.cpu class past
  seen_stays class =
      rw here (ap (λ (w : What). seen_after (length past) w class (asks s e.cpu class e past) (told s e.cpu class e past) (seen s e.cpu class past)) k.is_call
      ∙ (ap (λ (b : Bool). raised b (length past) (max (max (seen s e.cpu class past) 0) (told s e.cpu class e past))) (asks_nobody e.cpu class)
      ∙ (ap (λ (v : ℕ). max (max (seen s e.cpu class past) 0) v) (tells_nothing e.cpu class)
      ∙ (max-zero (max (seen s e.cpu class past) 0) ∙ max-zero (seen s e.cpu class past)))))

  served_stays : (class : ℕ) → served s e.cpu class (e ∷ past) ≡ served s e.cpu class past
  served_stays class =
      ap (λ (b : Bool). if b then served_after e.what class (seen s e.cpu class (e ∷ past)) (served s e.cpu class past) else served s e.cpu class past) here
      ∙ ap (λ (w : What). served_after w class (seen s e.cpu class (e ∷ past)) (served s e.cpu class past)) k.is_call ∙ go (class == lock_class)
    where
      go : (b : Bool) → (if b && false then seen s e.cpu class (e ∷ past) else served s e.cpu class past) ≡ served s e.cpu class past
      go true = refl
      go false = refl

  not_rested : rested e.cpu past ≡ false
  not_rested = go (rested e.cpu past) refl
    where
      go : (b : Bool) → rested e.cpu past ≡ b → b ≡ false
      go false h = refl
      go true h =
          let none : innermost (frames_of s e.cpu past) ≡ None = clear_inner s e.cpu past (rested_clear s limit e.cpu past k.run.1 h) in
          let some = k.inner in
          cc

  own_placed_after : own_of s e.cpu (e ∷ past) ≡ own_placed (own_of s e.cpu past)
  own_placed_after = λ i. record {
    made = m i;
    frames = frames_placed i;
    seen = n i;
    served = v i;
    rested = d i;
    took = t i;
    fire = x i;
    sweep = w i;
  }
    where
      m : made e.cpu (e ∷ past) ≡ made e.cpu past + 1
      m = rw here

      n : table 16 (λ class. seen s e.cpu class (e ∷ past)) ≡ table 16 (λ class. seen s e.cpu class past)
      n = table-same 16 _ _ (λ class l. seen_stays class)

      v : table 16 (λ class. served s e.cpu class (e ∷ past)) ≡ table 16 (λ class. served s e.cpu class past)
      v = table-same 16 _ _ (λ class l. served_stays class)

      d : rested e.cpu (e ∷ past) ≡ rested e.cpu past
      d = rw here (ap is_rest k.is_call ∙ sym not_rested)

      t : took e.cpu (e ∷ past) ≡ took e.cpu past
      t = rw here (ap (λ (w : What). took_after w (took e.cpu past)) k.is_call)

      x : fire s e.cpu (e ∷ past) ≡ fire s e.cpu past
      x = rw here (ap (λ (w : What). fire_after s w (fire s e.cpu past)) k.is_call)

      w : owes_sweep e.cpu (e ∷ past) ≡ owes_sweep e.cpu past
      w = rw here (ap (λ (w : What). sweep_after w (owes_sweep e.cpu past)) k.is_call ∙ refused_sweep f.name c r (owes_sweep e.cpu past))

  object_stays : (d : DpcNo) → object_of d (e ∷ past) ≡ object_of d past
  object_stays d =
      ap (λ (w : What). object_after d (length past) e.cpu w (object_of d past)) k.is_call ∙ refused_object d (length past) f.name e.cpu c r (object_of d past)

  facts_stay : (t : ThreadNo) → facts s t (e ∷ past) ≡ facts s t past
  facts_stay t =
      ap (λ (w : What). named_facts s t (length past) w (if is_of_thread s t e then made_facts s (length past) (stand_at s e.cpu past) w (facts s t past)
      else facts s t past)) k.is_call ∙ (refused_named s t (length past) f.name c r (if is_of_thread s t e then
      made_facts s (length past) (stand_at s e.cpu past) (Call f.name c (Refused r)) (facts s t past) else facts s t past) ∙ go (is_of_thread s t e))
    where
      go : (b : Bool) → (if b then made_facts s (length past) (stand_at s e.cpu past) (Call f.name c (Refused r)) (facts s t past) else facts s t past)
          ≡ facts s t past
      go true = refused_made s (length past) f.name (stand_at s e.cpu past) c r (facts s t past)
      go false = refl

  timers_stay : timers_at s (e ∷ past) ≡ timers_at s past
  timers_stay = λ i. record { now = n i; timers = t i; delays = d i }
    where
      n : time (e ∷ past) ≡ time past
      n = ap (λ (w : What). time_after w (time past)) k.is_call ∙ refused_time f.name (time past) c r

      t : table (length s.timers) (λ t. timer_setting (timer t) (e ∷ past)) ≡ table (length s.timers) (λ t. timer_setting (timer t) past)
      t = table-same _ _ _ (λ j l. ap (λ (w : What). timer_after (timer j) (length past) (time past) w (timer_setting (timer j) past)) k.is_call
          ∙ refused_timer (timer j) (length past) f.name (time past) c r (timer_setting (timer j) past))

      one : (t : ThreadNo) → delay_setting s t (e ∷ past) ≡ delay_setting s t past
      one t = ap (expired_delay t e.what) (go (is_of_thread s t e)) ∙ ap (λ (w : What). expired_delay t w (delay_setting s t past)) k.is_call
        where
          go : (b : Bool) → (if b then blocked_after (length past) (time past) (stand_at s e.cpu past).again e.what (delay_setting s t past)
              else delay_setting s t past) ≡ delay_setting s t past
          go true =
              ap (λ (w : What). blocked_after (length past) (time past) (stand_at s e.cpu past).again w (delay_setting s t past)) k.is_call
              ∙ refused_blocked (length past) f.name (time past) (stand_at s e.cpu past).again c r (delay_setting s t past)
          go false = refl

      d : table (length s.threads) (λ t. delay_setting s (thread t) (e ∷ past)) ≡ table (length s.threads) (λ t. delay_setting s (thread t) past)
      d = table-same _ _ _ (λ j l. one (thread j))

  lanes_stay : lanes_at s (e ∷ past) ≡ lanes_at s past
  lanes_stay = λ i. record { objects = o i; queues = q i; threads = t i; timers = timers_stay i; locks = l i }
    where
      o : objects_at s (e ∷ past) ≡ objects_at s past
      o = table-same _ _ _ (λ j l. object_stays (dpc j))

      queue_table : table s.cpus (λ p. queue_after s (cpu p) (length past) e.cpu e.what (objects_at s past) (queue_at (lanes_at s past) (cpu p)))
          ≡ table s.cpus (λ p. queue_of s (cpu p) past)
      queue_table = table-same _ _ _
          (λ j l. ap (λ (w : What). queue_after s (cpu j) (length past) e.cpu w (objects_at s past) (queue_at (lanes_at s past) (cpu j))) k.is_call
          ∙ (refused_queue s (cpu j) (length past) f.name e.cpu c r (objects_at s past) (queue_at (lanes_at s past) (cpu j))
          ∙ get_or-table s.cpus j (λ p. queue_of s (cpu p) past) start_queue l))

      q : table s.cpus (λ p. queue_of s (cpu p) (e ∷ past)) ≡ table s.cpus (λ p. queue_of s (cpu p) past)
      q = queue_moves s e past ∙ queue_table

      t : table (length s.threads) (λ t. facts s (thread t) (e ∷ past)) ≡ table (length s.threads) (λ t. facts s (thread t) past)
      t = table-same _ _ _ (λ j l. facts_stay (thread j))

      l : table s.locks (λ x. lock_of s (lock x) (e ∷ past)) ≡ table s.locks (λ x. lock_of s (lock x) past)
      l = ap (λ (m : LockMove). table s.locks (λ x. lock_moved s (lock x) e.cpu m (lock_of s (lock x) past))) (ap lock_move k.is_call ∙ refused_move c r)

  stays_in_lane : (x : Lane) → lane_state s x (e ∷ past) ≡ lane_state s x past
  stays_in_lane x = untouched s x e past (ap (λ (xs : List Lane). list_any (same_lane x) xs) touches_none)

  leaves_all : LeavesAllButPlace s e past f.name
  leaves_all = record {
    caller = f;
    innermost = k.inner;
    named = refl;
    own = own_placed_after;
    others = λ p o. own_stays s p e past o;
    touches = touches_none;
    lanes = lanes_stay;
    states = stays_in_lane;
    asks = asks_none;
    asked = λ p class. ap (λ (b : Bool). raised b (length past) (asked s p class past)) (asks_nobody p class);
  }

-- in a run a refused command changes only its frame's place and its processor's count of events
pub refused_takes_place : RefusedCommandsTakeTheirPlace
refused_takes_place s limit e past name c r run w =
    let known : KnownCall s e.cpu (own_of s e.cpu past) (lanes_at s past) name c (Refused r) =
    subst (λ (w : What). is_next w ≡ true → Known s e.cpu (own_of s e.cpu past) (lanes_at s past) w) w (λ n. legal_known s limit e past run.0 n) refl in
    let call : e.what ≡ Call known.frame.name c (Refused r) = w ∙ ap (λ (n : ℕ). Call n c (Refused r)) known.name in
    subst (LeavesAllButPlace s e past) (sym known.name)
    (leaves_all s limit e past c r known.frame (record {
      run = run;
      is_call = call;
      inner = known.goes_on.inner;
      spin = no_spin s limit e.cpu past name c r run.1 known;
    }))
