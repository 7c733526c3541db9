-- In a run each open frame of a thread tells whether its last wait event was interrupted.
use Rattle.nt_event.proofs.Options.{both}
use Rattle.nt_event.specs.Frames.{at_name, called, due_of, end_on_thread, ended_base, ended_on_thread, flushed, frames_of, freed, innermost, is_base_body}
use Rattle.nt_event.specs.Frames.{new_frame, normal_of, own_frames, resumed, rewaited, running, switched_to, thread_after, thread_frames, time}
use Rattle.nt_event.specs.Jobs.{ready}
use Rattle.nt_event.specs.Lanes.{lanes_at}
use Rattle.nt_event.specs.Lists.{is_null}
use Rattle.nt_event.specs.Numbers.{is_by, is_of}
use Rattle.nt_event.specs.Own.{own_of}
use Rattle.nt_event.specs.Regions.{stand_at}
use Rattle.nt_event.specs.Replies.{kernel_apc}
use Rattle.nt_event.specs.Routines.{cpu_of, kind_of, rundown_of}
use Rattle.nt_event.specs.Step.{IsRun, thread_field}
use Rattle.nt_event.specs.Threads.{ended_status, is_ready, ready_doing, status_of, waiting, waiting_of}
use Rattle.nt_event.specs.Waits.{facts, is_of_thread}
use Rattle.nt_event.specs.declared.commands.Command.{Command}
use Rattle.nt_event.specs.declared.commands.Command.TheVariants.{Delay, StartWait, Yield}
use Rattle.nt_event.specs.declared.commands.Reply.{Reply}
use Rattle.nt_event.specs.declared.commands.Reply.TheVariants.{Blocked, Done, Status}
use Rattle.nt_event.specs.declared.events.Begun.TheVariants.{Apc}
use Rattle.nt_event.specs.declared.events.Event.{Event}
use Rattle.nt_event.specs.declared.events.What.{What}
use Rattle.nt_event.specs.declared.events.What.TheVariants.{Begin, Call, End, Flush, Free, Gone, Normal, Rewait, Switch}
use Rattle.nt_event.specs.declared.frames.Again.{Again}
use Rattle.nt_event.specs.declared.frames.Body.{Body}
use Rattle.nt_event.specs.declared.frames.Body.TheVariants.{Apc as OnApc, Rundown as OnRundown}
use Rattle.nt_event.specs.Frame.{Frame}
use Rattle.nt_event.specs.declared.numbers.ApcNo.{ApcNo}
use Rattle.nt_event.specs.declared.numbers.CpuNo.{CpuNo}
use Rattle.nt_event.specs.declared.numbers.RoutineNo.{RoutineNo}
use Rattle.nt_event.specs.declared.numbers.ThreadNo.{ThreadNo}
use Rattle.nt_event.specs.declared.scripts.Script.{Script}
use Rattle.nt_event.specs.declared.threads.Doing.{Doing}
use Rattle.nt_event.specs.declared.threads.Doing.TheVariants.{Blocked as IsBlocked, Gone as IsGone, Ready as IsReady, Running as IsRunning}
use Rattle.nt_event.specs.declared.threads.Waiting.{Waiting}
use Rattle.nt_readings.proofs.Follow.{HeadIs, namer, not_equal}
use Rattle.nt_readings.proofs.Frames.{thread_falls}
use Rattle.nt_readings.proofs.Threads.{named_cpu, part_moves, part_same}
use Rattle.nt_readings.specs.Frames.{NamesFall, is_switch_event}
use Rattle.nt_readings.specs.Phases.{is_wait_reply}
use Rattle.nt_readings.specs.Regions.{EachFrame, renews}
use Rattle.nt_runs.proofs.Facts.{agree}
use Rattle.nt_runs.proofs.Known.{Known, KnownCall, KnownEnd, KnownFree, KnownNormal, KnownRewait, again_known, legal_known}
use Rattle.nt_runs.proofs.Names.{Apart, NotAmong, all_named, called_name}
use Rattle.nt_runs.proofs.Running.{same_cpu, same_thread, thread_named}
use Rattle.nt_runs.proofs.Stops.{blocked_call, effect_again, none_again, rewait_on_thread}
use Rattle.nt_runs.proofs.Turns.{is_next}
use Rattle.nt_runs.specs.Laws.{Says}
use Rattle.nt_reader_laws.proofs.Again.{Stopped, Tells, stopped_now, stopped_on, tells_anew, tells_answered, tells_new, tells_on, tells_taken}
use Rattle.nt_reader_laws.proofs.Doing.{doing_in, doing_of, made_to}
use Rattle.nt_reader_laws.proofs.Waits.{Maker, block_after, maker, other_after, switch_tells, waits_of}
use Rattle.nt_reader_laws.specs.Again.{IsInterrupted, WaitsAreTakenUpWhereInterrupted, carried, is_wait_event, renews_by, wait_blocks, wait_status, waits_by}
use Rattle.nt_reader_laws.specs.Waits.{ends_it, takes_up, waiting_as}
use Rattle.std.proofs.Common.{ap, arith, inl, inr, refl, subst, sym, ◌∙◌}
use Rattle.std.proofs.lemmas.Bool.{eq-eqb}
use Rattle.std.specs.Prelude.{Bool, List, None, Option, Some, [], false, if◌then◌else◌, is_some, length, option_map, true, ℕ, ◌&&◌, ◌<◌, ◌==◌, ◌↔◌, ◌∷◌, ◌≡◌}
use Rattle.std.specs.Prelude.{◌⊎◌}

abbrev EachTells : Script → ThreadNo → List Event → List Frame → Type 0
EachTells s t past fs = EachFrame (λ f. Tells s t f.name (is_some f.again) past) fs

-- what holds of the thread's frames by what it does
abbrev Inv : Script → ThreadNo → List Event → Doing → List Frame → Type 0
Inv s t past d [] = Unit {0}
Inv s t past (IsReady l (Some st)) (f ∷ fs) = Stopped s t f.name (is_some f.again) past × EachTells s t past fs
Inv s t past (IsReady l None) (f ∷ fs) = EachTells s t past (f ∷ fs)
Inv s t past (IsBlocked w) (f ∷ fs) = Stopped s t f.name (is_some f.again) past × EachTells s t past fs
Inv s t past IsRunning (f ∷ fs) = EachTells s t past (f ∷ fs)
Inv s t past IsGone (f ∷ fs) = Unit {0}

-- a thread that isn't stopped in a wait
inv_runs : (s : Script) (t : ThreadNo) (past : List Event) (fs : List Frame) → EachTells s t past fs → Inv s t past IsRunning fs
inv_runs s t past [] h = tt
inv_runs s t past (f ∷ fs) h = h

-- of a thread made ready without a status each frame still tells whether its last wait was interrupted
inv_yields : (s : Script) (t : ThreadNo) (past : List Event) (l : ℕ) (fs : List Frame) → EachTells s t past fs → Inv s t past (IsReady l None) fs
inv_yields s t past l [] h = tt
inv_yields s t past l (f ∷ fs) h = h

-- of a running thread each frame tells whether its last wait event was interrupted
runs_inv : (s : Script) (t : ThreadNo) (past : List Event) (fs : List Frame) → Inv s t past IsRunning fs → EachTells s t past fs
runs_inv s t past [] h = tt
runs_inv s t past (f ∷ fs) h = h

-- if the names of frames fall from a name on, that name is not among them
falls_apart : (n : ℕ) (fs : List Frame) → NamesFall n fs → NotAmong n fs
falls_apart n [] h = tt
falls_apart n (f ∷ fs) h = ((λ e. let a = h.0 in omega (arith, a, e)), apart_less f.name n fs h.0 h.1)
  where
    apart_less : (m n : ℕ) (fs : List Frame) → m < n → NamesFall m fs → NotAmong n fs
    apart_less m n [] l h = tt
    apart_less m n (g ∷ gs) l h =
        ((λ e. let a = h.0 in omega (arith, a, l, e)), apart_less g.name n gs (let a = h.0 in omega (arith, a, l)) h.1)

module _ (s : Script) (t : ThreadNo) (e : Event) (past : List Event) where
  -- an event that is none of a frame's
  each_aside : (fs : List Frame) → ((n : ℕ) → (waits_by s t n e ≡ false) × (renews_by s t n e ≡ false)) → EachTells s t past fs → EachTells s t (e ∷ past) fs
  each_aside [] a h = tt
  each_aside (f ∷ fs) a h = (tells_on s t f.name e past (is_some f.again) (a f.name).0 (a f.name).1 h.0, each_aside fs a h.1)

  each_other : (m : ℕ) (fs : List Frame) → NotAmong m fs → ((n : ℕ) → (n ≡ m → ⊥) → (waits_by s t n e ≡ false) × (renews_by s t n e ≡ false)) →
      EachTells s t past fs → EachTells s t (e ∷ past) fs
  each_other m [] d a h = tt
  each_other m (f ∷ fs) d a h =
      let x = a f.name d.0 in (tells_on s t f.name e past (is_some f.again) x.0 x.1 h.0, each_other m fs d.1 a h.1)

  -- an event that isn't the thread's
  not_its : is_of_thread s t e ≡ false → (n : ℕ) → (waits_by s t n e ≡ false) × (renews_by s t n e ≡ false)
  not_its b n = (ap (λ (c : Bool). c && is_wait_event n e.what) b, ap (λ (c : Bool). c && renews n e.what) b)

  inv_aside : (d : Doing) (fs : List Frame) → is_of_thread s t e ≡ false → Inv s t past d fs → Inv s t (e ∷ past) d fs
  inv_aside d [] b h = tt
  inv_aside (IsReady l (Some st)) (f ∷ fs) b h = (
    stopped_on s t f.name e past (is_some f.again) (not_its b f.name).0 (not_its b f.name).1 (ap (λ (c : Bool). c && is_switch_event e.what) b) h.0,
    each_aside fs (not_its b) h.1,
  )
  inv_aside (IsReady l None) (f ∷ fs) b h = each_aside (f ∷ fs) (not_its b) h
  inv_aside (IsBlocked w) (f ∷ fs) b h = (
    stopped_on s t f.name e past (is_some f.again) (not_its b f.name).0 (not_its b f.name).1 (ap (λ (c : Bool). c && is_switch_event e.what) b) h.0,
    each_aside fs (not_its b) h.1,
  )
  inv_aside IsRunning (f ∷ fs) b h = each_aside (f ∷ fs) (not_its b) h
  inv_aside IsGone (f ∷ fs) b h = tt

-- what holds of the frames of a blocked thread still holds when its wait ends or goes on
inv_ended : (s : Script) (t : ThreadNo) (past : List Event) (o : Option ℕ) (w : Waiting) (fs : List Frame) → Inv s t past (IsBlocked w) fs →
    Inv s t past (doing_of o w) fs
inv_ended s t past o w [] h = tt
inv_ended s t past None w (f ∷ fs) h = h
inv_ended s t past (Some st) w (f ∷ fs) h = h

-- a conjunction with false is false
and_no : (b : Bool) → (b && false) ≡ false
and_no true = refl
and_no false = refl

-- a conjunction of two true flags is true
and_yes : (a b : Bool) → a ≡ true → b ≡ true → (a && b) ≡ true
and_yes a b h k = ap (λ (c : Bool). c && b) h ∙ k

-- a value given only under a condition is there exactly if the condition holds
some_if : {A : Type 0} (b : Bool) (x : A) → is_some (if b then Some x else None) ≡ b
some_if true x = refl
some_if false x = refl

-- ---- an event that the running thread makes

module _ (s : Script) (limit : ℕ) (t : ThreadNo) (e : Event) (past : List Event) (r : IsRun s limit (e ∷ past)) (own : is_of_thread s t e ≡ true)
    (fs : List Frame) (here : fs ≡ thread_frames s (cpu_of s t) t past) (each : EachTells s t past fs) where
  quiet_what : (w : What) → e.what ≡ w → ((n : ℕ) → is_wait_event n w ≡ false) → ((n : ℕ) → renews n w ≡ false) → (n : ℕ) →
      (waits_by s t n e ≡ false) × (renews_by s t n e ≡ false)
  quiet_what w k a b n = (
    ap (λ (v : What). is_of_thread s t e && is_wait_event n v) k ∙ (ap (λ (c : Bool). is_of_thread s t e && c) (a n) ∙ and_no (is_of_thread s t e)),
    ap (λ (v : What). is_of_thread s t e && renews n v) k ∙ (ap (λ (c : Bool). is_of_thread s t e && c) (b n) ∙ and_no (is_of_thread s t e)),
  )

  falls : NamesFall (length past) fs
  falls = subst (NamesFall (length past)) (sym here) (thread_falls s (cpu_of s t) t past)

  -- the innermost frame is the first of the thread's, or none of them
  named_where : (g : Frame) → innermost (frames_of s e.cpu past) ≡ Some g → running e.cpu past ≡ Some t →
      (HeadIs g (own_frames e.cpu past) × NotAmong g.name fs) ⊎ HeadIs g fs
  named_where g inner run = go (namer s limit e.cpu past g r.1 inner)
    where
      parts : (is_of e (cpu_of s t) ≡ true) × (is_by e t ≡ true)
      parts = both (is_of e (cpu_of s t)) (is_by e t) own

      cpu : e.cpu ≡ cpu_of s t
      cpu = same_cpu e (cpu_of s t) parts.0

      go : HeadIs g (own_frames e.cpu past) ⊎ ((u : ThreadNo) × (running e.cpu past ≡ Some u) × HeadIs g (thread_frames s e.cpu u past)) →
          (HeadIs g (own_frames e.cpu past) × NotAmong g.name fs) ⊎ HeadIs g fs
      go (inl k) =
          let apart : Apart (own_frames e.cpu past) fs = subst (Apart (own_frames e.cpu past)) (ap (λ (p : CpuNo). thread_frames s p t past) cpu ∙ sym here)
          (all_named s e.cpu t past).apart in
          inl (k, (subst (λ (gs : List Frame). Apart gs fs) k.1 apart).0)
      go (inr (u, q, k)) =
          let z : Some u ≡ Some t = sym q ∙ run in
          let same : u ≡ t = cc in
          inr (k.0, here ∙ (ap (λ (p : CpuNo). thread_frames s p t past) (sym cpu) ∙ (ap (λ (v : ThreadNo). thread_frames s e.cpu v past) (sym same) ∙ k.1)))

  -- the parts of a list whose first frame is named
  head_facts : (g : Frame) (rest : List Frame) → fs ≡ g ∷ rest → (g.name < length past) × NotAmong g.name rest × EachTells s t past rest ×
      Tells s t g.name (is_some g.again) past
  head_facts g rest k =
      let f = subst (NamesFall (length past)) k falls in
      let h = subst (EachTells s t past) k each in
      (f.0, falls_apart g.name rest f.1, h.1, h.0)

  -- a frame on top of the thread's
  begun_on : (b : Body) → ((n : ℕ) → (waits_by s t n e ≡ false) × (renews_by s t n e ≡ false)) → Inv s t (e ∷ past) IsRunning (new_frame (length past) b ∷ fs)
  begun_on b a = (tells_new s t e past, each_aside s t e past fs a each)

  -- the named frame is the first one and is left so, or the list stays
  named_on : (m : ℕ) (g : Frame) (h : Frame → Frame) (d : Doing) → g.name ≡ m → (HeadIs g (own_frames e.cpu past) × NotAmong g.name fs) ⊎ HeadIs g fs →
      ((n : ℕ) → (n ≡ g.name → ⊥) → (waits_by s t n e ≡ false) × (renews_by s t n e ≡ false)) → ((f : Frame) → (h f).name ≡ f.name) →
      (HeadIs g (own_frames e.cpu past) → EachTells s t (e ∷ past) fs → Inv s t (e ∷ past) d fs) →
      ((rest : List Frame) → g.name < length past → Tells s t g.name (is_some g.again) past → EachTells s t (e ∷ past) rest →
      Inv s t (e ∷ past) d (h g ∷ rest)) →
      Inv s t (e ∷ past) d (at_name m h fs)
  named_on m g h d name (inl w) a keeps stays changes =
      let same : at_name m h fs ≡ fs = ap (λ (v : ℕ). at_name v h fs) (sym name) ∙ at_name_none g.name h fs w.1 in
      subst (Inv s t (e ∷ past) d) (sym same) (stays w.0 (each_other s t e past g.name fs w.1 a each))
    where
      at_name_none : (n : ℕ) (h : Frame → Frame) (fs : List Frame) → NotAmong n fs → at_name n h fs ≡ fs
      at_name_none n h [] q = refl
      at_name_none n h (f ∷ fs) q = ap (λ (b : Bool). (if b then h f else f) ∷ fs) (not_equal f.name n q.0)
  named_on m g h d name (inr w) a keeps stays changes =
      let parts = head_facts g w.0 w.1 in
      let same : at_name m h fs ≡ h g ∷ w.0 = ap (at_name m h) w.1 ∙ ap (λ (b : Bool). (if b then h g else g) ∷ w.0) (eq-eqb g.name m name) in
      subst (Inv s t (e ∷ past) d) (sym same) (changes w.0 parts.0 parts.3 (each_other s t e past g.name w.0 parts.1 a parts.2))

  -- what a call names
  call_side : (m : ℕ) (c : Command) (y : Reply) → e.what ≡ Call m c y → (n : ℕ) → (n ≡ m → ⊥) → (waits_by s t n e ≡ false) × (renews_by s t n e ≡ false)
  call_side m c y k n d = (
    ap (λ (v : What). is_of_thread s t e && is_wait_event n v) k ∙ (ap (λ (b : Bool). is_of_thread s t e && b) (none c) ∙ and_no (is_of_thread s t e)),
    ap (λ (v : What). is_of_thread s t e && renews n v) k ∙ and_no (is_of_thread s t e),
  )
    where
      other : (m == n) ≡ false
      other = not_equal m n (λ q. d (sym q))

      none : (c : Command) → is_wait_event n (Call m c y) ≡ false
      none (StartWait v a) = ap (λ (b : Bool). b && is_wait_reply y) other
      none (Delay v a u) = ap (λ (b : Bool). b && is_wait_reply y) other
      none c = refl

  rewait_side : (m : ℕ) (y : Reply) → e.what ≡ Rewait m y → (n : ℕ) → (n ≡ m → ⊥) → (waits_by s t n e ≡ false) × (renews_by s t n e ≡ false)
  rewait_side m y k n d = (
    ap (λ (v : What). is_of_thread s t e && is_wait_event n v) k
        ∙ (ap (λ (b : Bool). is_of_thread s t e && (b && is_wait_reply y)) (not_equal m n (λ q. d (sym q))) ∙ and_no (is_of_thread s t e)),
    ap (λ (v : What). is_of_thread s t e && renews n v) k ∙ and_no (is_of_thread s t e),
  )

  renew_side : (m : ℕ) (w : What) → e.what ≡ w → ((n : ℕ) → is_wait_event n w ≡ false) → ((n : ℕ) → renews n w ≡ (m == n)) → (n : ℕ) → (n ≡ m → ⊥) →
      (waits_by s t n e ≡ false) × (renews_by s t n e ≡ false)
  renew_side m w k a b n d = (
    ap (λ (v : What). is_of_thread s t e && is_wait_event n v) k ∙ (ap (λ (c : Bool). is_of_thread s t e && c) (a n) ∙ and_no (is_of_thread s t e)),
    ap (λ (v : What). is_of_thread s t e && renews n v) k
        ∙ (ap (λ (c : Bool). is_of_thread s t e && c) (b n ∙ not_equal m n (λ q. d (sym q))) ∙ and_no (is_of_thread s t e)),
  )

  -- a wait event of this frame, and its status
  waits_here : (n : ℕ) (w : What) → e.what ≡ w → is_wait_event n w ≡ true → waits_by s t n e ≡ true
  waits_here n w k h = and_yes (is_of_thread s t e) (is_wait_event n e.what) own (ap (is_wait_event n) k ∙ h)

  -- a wait that answers, or blocks, leaves this of its frame
  answered_now : (g : Frame) (b : Bool) (st : ℕ) (w : What) → e.what ≡ w → g.name < length past → is_wait_event g.name w ≡ true → wait_status w ≡ Some st →
      wait_blocks w ≡ false → b ≡ (st == kernel_apc) → Tells s t g.name b (e ∷ past)
  answered_now g b st w k l i a f q =
      subst (λ (v : Bool). Tells s t g.name v (e ∷ past)) (sym q)
      (tells_answered s t g.name e past st l (waits_here g.name w k i) (ap wait_status k ∙ a) (ap wait_blocks k ∙ f))

  blocked_now : (g : Frame) (b : Bool) (w : What) → e.what ≡ w → g.name < length past → is_wait_event g.name w ≡ true → wait_blocks w ≡ true → b ≡ true →
      Stopped s t g.name b (e ∷ past)
  blocked_now g b w k l i f q =
      subst (λ (v : Bool). Stopped s t g.name v (e ∷ past)) (sym q)
      (stopped_now s t g.name e past l (waits_here g.name w k i) (ap wait_blocks k ∙ f))

  keeps_frame : (g h : Frame) → h.name ≡ g.name → h.again ≡ g.again → Tells s t g.name (is_some g.again) (e ∷ past) →
      Tells s t h.name (is_some h.again) (e ∷ past)
  keeps_frame g h n a q =
      subst (λ (m : ℕ). Tells s t m (is_some h.again) (e ∷ past)) (sym n)
      (subst (λ (o : Option Again). Tells s t g.name (is_some o) (e ∷ past)) (sym a) q)

  -- no frame is innermost on an own part without frames
  own_null : {A : Type 0} (g : Frame) → HeadIs g (own_frames e.cpu past) → is_null (own_frames e.cpu past) ≡ true → A
  own_null g k h = both_ways_of (is_null (own_frames e.cpu past)) h (ap is_null k.1)
    where
      both_ways_of : {A : Type 0} (b : Bool) → b ≡ true → b ≡ false → A
      both_ways_of true x y = cc
      both_ways_of false x y = cc

  quiet_step : (w : What) → e.what ≡ w → ((n : ℕ) → is_wait_event n w ≡ false) → ((n : ℕ) → renews n w ≡ false) → Inv s t (e ∷ past) IsRunning fs
  quiet_step w k a b = inv_runs s t (e ∷ past) fs (each_aside s t e past fs (quiet_what w k a b) each)

  -- an event that is no wait event and begins no phase anew keeps the wait of the frame that it names
  plain_step : (m : ℕ) (w : What) (h : Frame → Frame) (d : Doing) → e.what ≡ w → running e.cpu past ≡ Some t →
      (g : Frame) → innermost (frames_of s e.cpu past) ≡ Some g → m ≡ g.name → ((n : ℕ) → is_wait_event n w ≡ false) → ((n : ℕ) → renews n w ≡ false) →
      ((f : Frame) → (h f).name ≡ f.name) → ((f : Frame) → (h f).again ≡ f.again) →
      ((gs : List Frame) → EachTells s t (e ∷ past) gs → Inv s t (e ∷ past) d gs) → Inv s t (e ∷ past) d (at_name m h fs)
  plain_step m w h d k run g inner name none same named again inv =
      let side = quiet_what w k none same in
      named_on m g h d (sym name) (named_where g inner run) (λ n q. side n) named (λ o x. inv fs x)
      (λ rest l old x. inv (h g ∷ rest) (
        keeps_frame g (h g) (named g) (again g) (tells_on s t g.name e past (is_some g.again) (side g.name).0 (side g.name).1 old),
        x,
      ))

  -- so does such a call
  plain_call : (m : ℕ) (c : Command) (y : Reply) (d : Doing) → e.what ≡ Call m c y → running e.cpu past ≡ Some t →
      (g : Frame) → innermost (frames_of s e.cpu past) ≡ Some g → m ≡ g.name → ((n : ℕ) → is_wait_event n (Call m c y) ≡ false) →
      ((f : Frame) → (called (due_of e.what (time past)) c y f).again ≡ f.again) →
      ((gs : List Frame) → EachTells s t (e ∷ past) gs → Inv s t (e ∷ past) d gs) → Inv s t (e ∷ past) d (at_name m (called (due_of e.what (time past)) c y) fs)
  plain_call m c y d k run g inner name none again inv =
      plain_step m (Call m c y) (called (due_of e.what (time past)) c y) d k run g inner name none (λ n. refl)
      (called_name (due_of e.what (time past)) c y) again inv

  unanswered : (m n : ℕ) (y : Reply) → is_wait_reply y ≡ false → ((m == n) && is_wait_reply y) ≡ false
  unanswered m n y h = ap (λ (b : Bool). (m == n) && b) h ∙ and_no (m == n)

  named_true : (m n : ℕ) (y : Reply) → m ≡ n → is_wait_reply y ≡ true → ((m == n) && is_wait_reply y) ≡ true
  named_true m n y h k = and_yes (m == n) (is_wait_reply y) (eq-eqb m n h) k

  call_step : (m : ℕ) (c : Command) (y : Reply) → e.what ≡ Call m c y → running e.cpu past ≡ Some t →
      (known : KnownCall s e.cpu (own_of s e.cpu past) (lanes_at s past) m c y) →
      Inv s t (e ∷ past) (made_to (length past) (stand_at s e.cpu past) (Call m c y) IsRunning) (at_name m (called (due_of e.what (time past)) c y) fs)
  call_step m (StartWait v a) (Status st) k run known =
      let g = known.frame in
      named_on m g (called (due_of e.what (time past)) (StartWait v a) (Status st)) IsRunning (sym known.name) (named_where g known.goes_on.inner run)
      (λ n q. call_side m (StartWait v a) (Status st) k n (λ z. q (z ∙ known.name))) (λ f. refl) (λ o x. inv_runs s t (e ∷ past) fs x)
      (λ rest l old x. (
        answered_now g (is_some (if st == kernel_apc then Some (record { mode = v; alertable = a; due = None }) else None)) st
            (Call m (StartWait v a) (Status st)) k l
            (named_true m g.name (Status st) known.name refl) refl refl (some_if (st == kernel_apc) _),
        x,
      ))
  call_step m (StartWait v a) Blocked k run known =
      let g = known.frame in
      named_on m g (called (due_of e.what (time past)) (StartWait v a) Blocked)
      (made_to (length past) (stand_at s e.cpu past) (Call m (StartWait v a) Blocked) IsRunning)
      (sym known.name) (named_where g known.goes_on.inner run)
      (λ n q. call_side m (StartWait v a) Blocked k n (λ z. q (z ∙ known.name))) (λ f. refl)
      (λ o x. own_null g o (blocked_call s e.cpu (own_of s e.cpu past) (lanes_at s past) m (StartWait v a) known).1)
      (λ rest l old x. (blocked_now g true (Call m (StartWait v a) Blocked) k l (named_true m g.name Blocked known.name refl) refl refl, x))
  call_step m (StartWait v a) y k run known =
      plain_call m (StartWait v a) y IsRunning k run known.frame known.goes_on.inner known.name (λ n. unanswered m n y refl) (λ f. refl)
      (λ gs x. inv_runs s t (e ∷ past) gs x)
  call_step m (Delay v a u) (Status st) k run known =
      let g = known.frame in
      named_on m g (called (due_of e.what (time past)) (Delay v a u) (Status st)) IsRunning (sym known.name) (named_where g known.goes_on.inner run)
      (λ n q. call_side m (Delay v a u) (Status st) k n (λ z. q (z ∙ known.name))) (λ f. refl) (λ o x. inv_runs s t (e ∷ past) fs x)
      (λ rest l old x. (
        answered_now g (is_some (if st == kernel_apc then Some (record { mode = v; alertable = a; due = due_of e.what (time past) }) else None)) st
            (Call m (Delay v a u) (Status st)) k l
            (named_true m g.name (Status st) known.name refl) refl refl (some_if (st == kernel_apc) _),
        x,
      ))
  call_step m (Delay v a u) Blocked k run known =
      let g = known.frame in
      named_on m g (called (due_of e.what (time past)) (Delay v a u) Blocked)
      (made_to (length past) (stand_at s e.cpu past) (Call m (Delay v a u) Blocked) IsRunning)
      (sym known.name) (named_where g known.goes_on.inner run)
      (λ n q. call_side m (Delay v a u) Blocked k n (λ z. q (z ∙ known.name))) (λ f. refl)
      (λ o x. own_null g o (blocked_call s e.cpu (own_of s e.cpu past) (lanes_at s past) m (Delay v a u) known).1)
      (λ rest l old x. (blocked_now g true (Call m (Delay v a u) Blocked) k l (named_true m g.name Blocked known.name refl) refl refl, x))
  call_step m (Delay v a u) y k run known =
      plain_call m (Delay v a u) y IsRunning k run known.frame known.goes_on.inner known.name (λ n. unanswered m n y refl) (λ f. refl)
      (λ gs x. inv_runs s t (e ∷ past) gs x)
  call_step m Yield Done k run known =
      plain_call m Yield Done (IsReady (stand_at s e.cpu past).level None) k run known.frame known.goes_on.inner known.name (λ n. refl) (λ f. refl)
      (λ gs x. inv_yields s t (e ∷ past) (stand_at s e.cpu past).level gs x)
  call_step m c y k run known =
      plain_call m c y IsRunning k run known.frame known.goes_on.inner known.name (λ n. refl) (λ f. effect_again (due_of e.what (time past)) c y f (inl refl))
      (λ gs x. inv_runs s t (e ∷ past) gs x)

  -- ---- a wait that is taken up

  rewait_step : (m : ℕ) (y : Reply) → e.what ≡ Rewait m y → running e.cpu past ≡ Some t →
      (known : KnownRewait e.cpu (own_of s e.cpu past) (lanes_at s past) m y) →
      Inv s t (e ∷ past) (made_to (length past) (stand_at s e.cpu past) (Rewait m y) IsRunning) (at_name m (rewaited y) fs)
  rewait_step m (Status st) k run known =
      let g = known.frame in
      named_on m g (rewaited (Status st)) IsRunning (sym known.name) (named_where g known.goes_on.inner run)
      (λ n q. rewait_side m (Status st) k n (λ z. q (z ∙ known.name))) (λ f. refl) (λ o x. inv_runs s t (e ∷ past) fs x)
      (λ rest l old x. (
        answered_now g (is_some (if st == kernel_apc then g.again else None)) st (Rewait m (Status st)) k l
            (named_true m g.name (Status st) known.name refl) refl refl
            (ap (λ (o : Option Again). is_some (if st == kernel_apc then o else None)) known.again ∙ some_if (st == kernel_apc) known.wait),
        x,
      ))
  rewait_step m Blocked k run known =
      let g = known.frame in
      let told : (stand_at s e.cpu past).again ≡ Some known.wait = again_known e.cpu (own_of s e.cpu past) g known.goes_on ∙ known.again in
      let doing : IsBlocked (waiting_as (length past) (stand_at s e.cpu past) known.wait)
      ≡ made_to (length past) (stand_at s e.cpu past) (Rewait m Blocked) IsRunning =
      ap (λ (o : Option Again). doing_in (option_map (waiting_as (length past) (stand_at s e.cpu past)) o) IsRunning) (sym told) in
      subst (λ (d : Doing). Inv s t (e ∷ past) d (at_name m (rewaited Blocked) fs)) doing
      (named_on m g (rewaited Blocked) (IsBlocked (waiting_as (length past) (stand_at s e.cpu past) known.wait)) (sym known.name)
      (named_where g known.goes_on.inner run) (λ n q. rewait_side m Blocked k n (λ z. q (z ∙ known.name))) (λ f. refl)
      (λ o x. own_null g o (rewait_on_thread e.cpu (own_of s e.cpu past) (lanes_at s past) m Blocked known (none_again s limit e.cpu past r.1)))
      (λ rest l old x. (blocked_now g (is_some g.again) (Rewait m Blocked) k l (named_true m g.name Blocked known.name refl) refl (ap is_some known.again), x)))
  rewait_step m y k run known =
      let g = known.frame in
      let w = quiet_what (Rewait m y) k (λ n. unanswered m n y refl) (λ n. refl) g.name in
      named_on m g (rewaited y) IsRunning (sym known.name) (named_where g known.goes_on.inner run)
      (λ n q. rewait_side m y k n (λ z. q (z ∙ known.name))) (λ f. refl) (λ o x. inv_runs s t (e ∷ past) fs x)
      (λ rest l old x. (tells_on s t g.name e past (is_some g.again) w.0 w.1 old, x))

  -- ---- a frame that begins anew, or ends

  anew : (g : Frame) (w : What) → e.what ≡ w → g.name < length past → ((n : ℕ) → is_wait_event n w ≡ false) → renews g.name w ≡ true →
      Tells s t g.name false (e ∷ past)
  anew g w k l a b =
      tells_anew s t g.name e past l
      (ap (λ (v : What). is_of_thread s t e && is_wait_event g.name v) k
      ∙ (ap (λ (c : Bool). is_of_thread s t e && c) (a g.name) ∙ and_no (is_of_thread s t e)))
      (and_yes (is_of_thread s t e) (renews g.name e.what) own (ap (renews g.name) k ∙ b))

  end_step : (m : ℕ) → e.what ≡ End m → running e.cpu past ≡ Some t → KnownEnd s e.cpu (own_of s e.cpu past) m →
      Inv s t (e ∷ past) IsRunning (end_on_thread m fs)
  end_step m k run known = go (named_where known.frame known.goes_on.inner run)
    where
      side : (n : ℕ) → (n ≡ known.frame.name → ⊥) → (waits_by s t n e ≡ false) × (renews_by s t n e ≡ false)
      side n q = renew_side m (End m) k (λ n. refl) (λ n. refl) n (λ z. q (z ∙ known.name))

      end_none : (n : ℕ) (gs : List Frame) → NotAmong n gs → end_on_thread n gs ≡ gs
      end_none n [] h = refl
      end_none n (f ∷ gs) h = ap (λ (b : Bool). if b then ended_on_thread (f ∷ gs) else (f ∷ gs)) (not_equal f.name n h.0)

      go : (HeadIs known.frame (own_frames e.cpu past) × NotAmong known.frame.name fs) ⊎ HeadIs known.frame fs →
          Inv s t (e ∷ past) IsRunning (end_on_thread m fs)
      go (inl w) =
          let same : end_on_thread m fs ≡ fs = ap (λ (v : ℕ). end_on_thread v fs) known.name ∙ end_none known.frame.name fs w.1 in
          subst (Inv s t (e ∷ past) IsRunning) (sym same) (inv_runs s t (e ∷ past) fs (each_other s t e past known.frame.name fs w.1 side each))
      go (inr w) =
          let parts = head_facts known.frame w.0 w.1 in
          let rest : EachTells s t (e ∷ past) w.0 = each_other s t e past known.frame.name w.0 parts.1 side parts.2 in
          let same : end_on_thread m fs ≡ (if is_base_body known.frame.body then (ended_base known.frame ∷ w.0) else w.0) = ap (end_on_thread m) w.1
          ∙ ap (λ (b : Bool). if b then ended_on_thread (known.frame ∷ w.0) else (known.frame ∷ w.0)) (eq-eqb known.frame.name m (sym known.name)) in
          subst (Inv s t (e ∷ past) IsRunning) (sym same) (base (is_base_body known.frame.body) parts.0 rest)
        where
          base : (b : Bool) → known.frame.name < length past → EachTells s t (e ∷ past) w.0 →
              Inv s t (e ∷ past) IsRunning (if b then (ended_base known.frame ∷ w.0) else w.0)
          base true l rest = (anew known.frame (End m) k l (λ n. refl) (eq-eqb m known.frame.name known.name), rest)
          base false l rest = inv_runs s t (e ∷ past) w.0 rest

  normal_step : (m : ℕ) → e.what ≡ Normal m → running e.cpu past ≡ Some t → KnownNormal s e.cpu (own_of s e.cpu past) m →
      Inv s t (e ∷ past) IsRunning (at_name m normal_of fs)
  normal_step m k run known =
      named_on m known.frame normal_of IsRunning (sym known.name) (named_where known.frame known.goes_on.inner run)
      (λ n q. renew_side m (Normal m) k (λ n. refl) (λ n. refl) n (λ z. q (z ∙ known.name))) (λ f. refl) (λ o x. inv_runs s t (e ∷ past) fs x)
      (λ rest l old x. (anew known.frame (Normal m) k l (λ n. refl) (eq-eqb m known.frame.name known.name), x))

  flush_step : (a : ApcNo) (from : ℕ) → e.what ≡ Flush a from → (o : Option RoutineNo) → Inv s t (e ∷ past) IsRunning (flushed (length past) a o fs)
  flush_step a from k None = quiet_step (Flush a from) k (λ n. refl) (λ n. refl)
  flush_step a from k (Some m) = begun_on (OnRundown a) (quiet_what (Flush a from) k (λ n. refl) (λ n. refl))

  known_of : (w : What) → e.what ≡ w → is_next w ≡ true → Known s e.cpu (own_of s e.cpu past) (lanes_at s past) w
  known_of w k n = subst (Known s e.cpu (own_of s e.cpu past) (lanes_at s past)) k (legal_known s limit e past r.0 (ap is_next k ∙ n))

  running_step : (w : What) → e.what ≡ w → is_switch_event w ≡ false → running e.cpu past ≡ Some t →
      Inv s t (e ∷ past) (made_to (length past) (stand_at s e.cpu past) w IsRunning) (thread_after s (length past) (due_of e.what (time past)) w fs)
  running_step (Begin (Apc a) from) k h run = begun_on (OnApc a (kind_of s a)) (quiet_what (Begin (Apc a) from) k (λ n. refl) (λ n. refl))
  running_step (Flush a from) k h run = flush_step a from k (rundown_of s a)
  running_step (Gone u) k h run = tt
  running_step (Call m c y) k h run = call_step m c y k run (known_of (Call m c y) k refl)
  running_step (Rewait m y) k h run = rewait_step m y k run (known_of (Rewait m y) k refl)
  running_step (Normal m) k h run = normal_step m k run (known_of (Normal m) k refl)
  running_step (End m) k h run = end_step m k run (known_of (End m) k refl)
  running_step (Free m a) k h run =
      let known : KnownFree s e.cpu (own_of s e.cpu past) m a = known_of (Free m a) k refl in
      plain_step m (Free m a) freed IsRunning k run known.frame known.goes_on.inner known.name (λ n. refl) (λ n. refl) (λ f. refl) (λ f. refl)
      (λ gs x. inv_runs s t (e ∷ past) gs x)
  running_step (Switch u st) k h run = cc
  running_step w k h run = quiet_step w k (λ n. refl) (λ n. refl)

-- ---- the thread is taken up

-- a wait to begin again that is kept under a condition is there exactly if the condition holds
some_kept : (b : Bool) (o : Option Again) → is_some o ≡ true → is_some (if b then o else None) ≡ b
some_kept true o h = h
some_kept false o h = refl

module _ (s : Script) (t : ThreadNo) (e : Event) (past : List Event) (own : is_of_thread s t e ≡ true) (u : ThreadNo) (st : Option ℕ)
    (k : e.what ≡ Switch u st) where
  switch_side : (n : ℕ) → (waits_by s t n e ≡ false) × (renews_by s t n e ≡ false)
  switch_side n = (
    ap (λ (v : What). is_of_thread s t e && is_wait_event n v) k ∙ and_no (is_of_thread s t e),
    ap (λ (v : What). is_of_thread s t e && renews n v) k ∙ and_no (is_of_thread s t e),
  )

  taken_now : takes_up s t e ≡ true
  taken_now = and_yes (is_of_thread s t e) (is_switch_event e.what) own (ap is_switch_event k)

  taken_step : (d : Doing) (fs : List Frame) → ready_doing d ≡ true → st ≡ status_of d → Inv s t past d fs →
      EachTells s t (e ∷ past) (switched_to (length past) u st fs)
  taken_step d [] h q i = (tells_new s t e past, tt)
  taken_step (IsReady l None) (f ∷ fs) h q i =
      subst (λ (o : Option ℕ). EachTells s t (e ∷ past) (resumed o f ∷ fs)) (sym q) (each_aside s t e past (f ∷ fs) switch_side i)
  taken_step (IsReady l (Some c)) (f ∷ fs) h q i =
      let taken = tells_taken s t f.name e past (is_some f.again) c (switch_side f.name).0 (switch_side f.name).1 taken_now (ap carried k ∙ q) i.0 in
      let same : (c == kernel_apc) ≡ is_some (if c == kernel_apc then f.again else None) = sym (some_kept (c == kernel_apc) f.again i.0.0) in
      let first : Tells s t f.name (is_some (if c == kernel_apc then f.again else None)) (e ∷ past) =
      subst (λ (b : Bool). Tells s t f.name b (e ∷ past)) same taken in
      subst (λ (o : Option ℕ). EachTells s t (e ∷ past) (resumed o f ∷ fs)) (sym q) (first, each_aside s t e past fs switch_side i.1)
  taken_step (IsBlocked w) (f ∷ fs) h q i = cc
  taken_step IsRunning (f ∷ fs) h q i = cc
  taken_step IsGone (f ∷ fs) h q i = cc

-- ---- every run

-- what is said of a running thread holds, if the thread is running
says_runs : (d : Doing) (fs : List Frame) (A : Type 0) → d ≡ IsRunning → Says d fs A → A
says_runs IsRunning fs A h k = k
says_runs (IsReady l st) fs A h k = cc
says_runs (IsBlocked w) fs A h k = cc
says_runs IsGone fs A h k = cc

-- a ready thread waits in nothing
ready_waits_not : (d : Doing) → ready_doing d ≡ true → waiting_of d ≡ None
ready_waits_not (IsReady l st) h = refl
ready_waits_not d h = cc

module _ (s : Script) (limit : ℕ) (t : ThreadNo) (e : Event) (past : List Event) (r : IsRun s limit (e ∷ past))
    (ih : Inv s t past (facts s t past).doing (thread_frames s (cpu_of s t) t past)) where
  other_step : is_by e t ≡ false → Inv s t (e ∷ past) (facts s t (e ∷ past)).doing (thread_frames s (cpu_of s t) t (e ∷ past))
  other_step b = subst (Inv s t (e ∷ past) (facts s t (e ∷ past)).doing) (sym (part_same s t e past b)) (go (waiting (facts s t past)) refl)
    where
      none : is_of_thread s t e ≡ false
      none = ap (λ (c : Bool). is_of e (cpu_of s t) && c) b ∙ and_no (is_of e (cpu_of s t))

      go : (o : Option Waiting) → waiting (facts s t past) ≡ o → Inv s t (e ∷ past) (facts s t (e ∷ past)).doing (thread_frames s (cpu_of s t) t past)
      go (Some w) k =
          let d = waits_of (facts s t past).doing w k in
          let blocked : Inv s t past (IsBlocked w) (thread_frames s (cpu_of s t) t past) =
          subst (λ (z : Doing). Inv s t past z (thread_frames s (cpu_of s t) t past)) d ih in
          subst (λ (z : Doing). Inv s t (e ∷ past) z (thread_frames s (cpu_of s t) t past)) (sym (block_after s limit t e past r w d))
          (inv_ended s t (e ∷ past) (ends_it s t w e past) w (thread_frames s (cpu_of s t) t past)
          (inv_aside s t e past (IsBlocked w) (thread_frames s (cpu_of s t) t past) none blocked))
      go None k =
          let doing : (facts s t (e ∷ past)).doing ≡ (facts s t past).doing = other_after s limit t e past r k
          ∙ ap (λ (c : Bool). if c then made_to (length past) (stand_at s e.cpu past) e.what (facts s t past).doing else (facts s t past).doing) none in
          subst (λ (z : Doing). Inv s t (e ∷ past) z (thread_frames s (cpu_of s t) t past)) (sym doing)
          (inv_aside s t e past (facts s t past).doing (thread_frames s (cpu_of s t) t past) none ih)

  own_step : is_by e t ≡ true → Inv s t (e ∷ past) (facts s t (e ∷ past)).doing (thread_frames s (cpu_of s t) t (e ∷ past))
  own_step b = subst (Inv s t (e ∷ past) (facts s t (e ∷ past)).doing) (sym (part_moves s limit t e past r b)) (go (maker s limit t e past r own))
    where
      cpu : is_of e (cpu_of s t) ≡ true
      cpu = named_cpu s limit t e past r b

      own : is_of_thread s t e ≡ true
      own = and_yes (is_of e (cpu_of s t)) (is_by e t) cpu b

      doing : waiting (facts s t past) ≡ None → made_to (length past) (stand_at s e.cpu past) e.what (facts s t past).doing ≡ (facts s t (e ∷ past)).doing
      doing k = sym (other_after s limit t e past r k
          ∙ ap (λ (c : Bool). if c then made_to (length past) (stand_at s e.cpu past) e.what (facts s t past).doing else (facts s t past).doing) own)

      switched : (w : What) → e.what ≡ w → is_switch_event w ≡ true → is_ready (facts s t past) ≡ true →
          Inv s t (e ∷ past) (facts s t (e ∷ past)).doing
          (thread_after s (length past) (due_of e.what (time past)) w (thread_frames s (cpu_of s t) t past))
      switched (Switch u st) k h ready =
          let named : e.thread ≡ Some u = thread_named s limit e past r.0 ∙ ap (λ (w : What). thread_field w (running e.cpu past)) k in
          let thread : e.thread ≡ Some t = same_thread e.thread t b in
          let same : u ≡ t = cc in
          let status : st ≡ ended_status (facts s t past) = switch_tells s limit t e past st r (k ∙ ap (λ (v : ThreadNo). Switch v st) same) in
          let after : IsRunning ≡ (facts s t (e ∷ past)).doing =
          sym (ap (λ (w : What). made_to (length past) (stand_at s e.cpu past) w (facts s t past).doing) k)
          ∙ doing (ready_waits_not (facts s t past).doing ready) in
          subst (λ (z : Doing). Inv s t (e ∷ past) z (switched_to (length past) u st (thread_frames s (cpu_of s t) t past))) after
          (inv_runs s t (e ∷ past) (switched_to (length past) u st (thread_frames s (cpu_of s t) t past))
          (taken_step s t e past own u st k (facts s t past).doing (thread_frames s (cpu_of s t) t past) ready status ih))
      switched w k h ready = cc

      go : Maker s t e past → Inv s t (e ∷ past) (facts s t (e ∷ past)).doing
          (thread_after s (length past) (due_of e.what (time past)) e.what (thread_frames s (cpu_of s t) t past))
      go (inl m) = switched e.what refl m.0 m.1
      go (inr m) =
          let run : running (cpu_of s t) past ≡ Some t =
          says_runs (facts s t past).doing (thread_frames s (cpu_of s t) t past) (running (cpu_of s t) past ≡ Some t)
          m.1 (agree s limit t past r.1) in
          let here : running e.cpu past ≡ Some t = ap (λ (p : CpuNo). running p past) (same_cpu e (cpu_of s t) cpu) ∙ run in
          let each : EachTells s t past (thread_frames s (cpu_of s t) t past) =
          runs_inv s t past (thread_frames s (cpu_of s t) t past) (subst (λ (z : Doing). Inv s t past z (thread_frames s (cpu_of s t) t past)) m.1 ih) in
          let after : made_to (length past) (stand_at s e.cpu past) e.what IsRunning ≡ (facts s t (e ∷ past)).doing =
          sym (ap (λ (d : Doing). made_to (length past) (stand_at s e.cpu past) e.what d) m.1) ∙ doing (ap waiting_of m.1) in
          subst (λ (z : Doing). Inv s t (e ∷ past) z (thread_after s (length past) (due_of e.what (time past)) e.what (thread_frames s (cpu_of s t) t past)))
          after
          (running_step s limit t e past r own (thread_frames s (cpu_of s t) t past) refl each e.what refl m.0 here)

  step_by : (b : Bool) → is_by e t ≡ b → Inv s t (e ∷ past) (facts s t (e ∷ past)).doing (thread_frames s (cpu_of s t) t (e ∷ past))
  step_by true h = own_step h
  step_by false h = other_step h

-- in a run what holds of a thread's frames by what it does holds
inv_run : (s : Script) (limit : ℕ) (t : ThreadNo) (past : List Event) → IsRun s limit past →
    Inv s t past (facts s t past).doing (thread_frames s (cpu_of s t) t past)
inv_run s limit t [] r = tt
inv_run s limit t (e ∷ past) r = step_by s limit t e past r (inv_run s limit t past r.1) (is_by e t) refl

-- a frame has a wait to begin again exactly if its last wait event was interrupted
each_first : (s : Script) (t : ThreadNo) (past : List Event) (fs : List Frame) → EachTells s t past fs →
    EachFrame (λ f. (is_some f.again ≡ true) ↔ IsInterrupted s t f.name past) fs
each_first s t past [] h = tt
each_first s t past (f ∷ fs) h = (h.0.0, each_first s t past fs h.1)

-- if what is said of a running thread is said and known, the thread is running
runs_doing_is : (d : Doing) (fs : List Frame) (A : Type 0) → Says d fs A → A → d ≡ IsRunning
runs_doing_is IsRunning fs A h a = refl
runs_doing_is (IsReady l st) fs A h a = absurd (h.0 a)
runs_doing_is (IsBlocked w) fs A h a = absurd (h.0 a)
runs_doing_is IsGone fs A h a = absurd (h.0 a)

-- a running thread's frame has a wait to take up exactly where an APC interrupted its phase's last wait event
pub taken_up_where_interrupted : WaitsAreTakenUpWhereInterrupted
taken_up_where_interrupted s limit t past r run =
    let doing : (facts s t past).doing ≡ IsRunning = runs_doing_is (facts s t past).doing (thread_frames s (cpu_of s t) t past)
    (running (cpu_of s t) past ≡ Some t) (agree s limit t past r) run in
    each_first s t past (thread_frames s (cpu_of s t) t past)
    (runs_inv s t past (thread_frames s (cpu_of s t) t past)
    (subst (λ (z : Doing). Inv s t past z (thread_frames s (cpu_of s t) t past)) doing (inv_run s limit t past r)))
