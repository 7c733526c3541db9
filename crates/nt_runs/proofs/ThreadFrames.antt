-- What holds of each open frame of a thread in a run, where every change of a frame keeps it.
use Rattle.std.proofs.Common.{ap, arith, subst, sym, ◌∙◌}
use Rattle.std.proofs.lemmas.Bool.{eqb-true, ltb-false}
use Rattle.std.specs.Option.{option_map_or, option_or}
use Rattle.std.specs.Prelude.{Bool, List, None, Option, Some, [], false, if◌then◌else◌, length, nat_lt, refl, true, ℕ, ◌==◌, ◌∷◌, ◌≡◌, ◌≤◌}
use Rattle.nt_event.specs.declared.commands.ApcKind.{ApcKind}
use Rattle.nt_event.specs.declared.commands.ApcKind.TheVariants.{Normal as NormalApc, Special as SpecialApc, User as UserApc}
use Rattle.nt_event.specs.declared.commands.Command.{Command}
use Rattle.nt_event.specs.declared.commands.Command.TheVariants.{Delay, Lower, Raise, StartWait}
use Rattle.nt_event.specs.declared.commands.Refusal.TheVariants.{BelowBase, NotGreater, NotLess}
use Rattle.nt_event.specs.declared.commands.Reply.{Reply}
use Rattle.nt_event.specs.declared.commands.Reply.TheVariants.{Done}
use Rattle.nt_event.specs.declared.events.Begun.TheVariants.{Apc}
use Rattle.nt_event.specs.declared.events.Event.{Event}
use Rattle.nt_event.specs.declared.events.What.{What}
use Rattle.nt_event.specs.declared.events.What.TheVariants.{Begin, Call, End, Flush, Free, Gone, Normal, Rewait, Switch}
use Rattle.nt_event.specs.declared.frames.Body.{Body}
use Rattle.nt_event.specs.declared.frames.Body.TheVariants.{Apc as OnApc, Base as OnBase, Dpc as OnDpc, Int as OnInt, Rundown as OnRundown}
use Rattle.nt_event.specs.declared.frames.Body.TheVariants.{Threaded as OnThreaded}
use Rattle.nt_event.specs.Frame.{Frame}
use Rattle.nt_event.specs.declared.numbers.ApcNo.{ApcNo}
use Rattle.nt_event.specs.declared.numbers.CpuNo.{CpuNo}
use Rattle.nt_event.specs.declared.numbers.RoutineNo.{RoutineNo}
use Rattle.nt_event.specs.declared.numbers.ThreadNo.{ThreadNo}
use Rattle.nt_event.specs.declared.scripts.Script.{Script}
use Rattle.nt_event.specs.Frames.{at_name, base_level, base_of, called, done_to, due_of, effect, end_on_thread, ended_base, flushed, frames_of, freed}
use Rattle.nt_event.specs.Frames.{innermost, is_base_body, new_frame, normal_of, resumed, rewaited, running, switched_to, thread_after, thread_frames}
use Rattle.nt_event.specs.Frames.{thread_part, time}
use Rattle.nt_event.specs.Jobs.{has_normal, level_at}
use Rattle.nt_event.specs.Lanes.{Lanes, lanes_at}
use Rattle.nt_event.specs.Own.{Own, own_of}
use Rattle.nt_event.specs.Routines.{kind_of, rundown_of}
use Rattle.nt_event.specs.Step.{IsLegal, IsRun}
use Rattle.nt_event.specs.Lists.{head_of}
use Rattle.nt_event.specs.Numbers.{is_by, is_of}
use Rattle.nt_runs.proofs.Calm.{next_test, ran}
use Rattle.nt_runs.proofs.Known.{Known, KnownCall, KnownEnd, KnownFree, KnownNormal, legal_known}
use Rattle.nt_runs.proofs.Names.{Apart, Named, all_named}
use Rattle.nt_runs.proofs.OwnPart.{is_own_body}
use Rattle.nt_runs.proofs.Running.{called_keeps, frames_when, part_of_running, running_here, same_cpu}
use Rattle.nt_runs.proofs.Stops.{call_accepted, refuse_none}
use Rattle.nt_runs.proofs.Turns.{is_next}
use Rattle.nt_event.specs.declared.numbers.LockNo.{LockNo}
use Rattle.nt_runs.proofs.KeptLevels.{Floor, freed_floor, moved_floor}
use Rattle.nt_event.specs.Locks.{call_move}

-- ---- a property of frames that each event of a run keeps

pub record Kept (s : Script) (p : CpuNo) (P : Frame → Type 0) : Type 0 where
  pub base : (n : ℕ) (t : ThreadNo) → P (new_frame n (OnBase t))
  pub apc : (n : ℕ) (a : ApcNo) (k : ApcKind) → P (new_frame n (OnApc a k))
  pub rundown : (n : ℕ) (a : ApcNo) → P (new_frame n (OnRundown a))
  pub resumed : (st : Option ℕ) (f : Frame) → P f → P (resumed st f)
  pub rewaited : (y : Reply) (f : Frame) → P f → P (rewaited y f)
  pub left : (x : Own) (n : ℕ) (k : KnownEnd s p x n) → is_base_body k.frame.body ≡ true → P k.frame → P (ended_base k.frame)
  pub normal : (x : Own) (n : ℕ) (k : KnownNormal s p x n) → P k.frame → P (normal_of k.frame)
  pub freed : (x : Own) (n : ℕ) (c : LockNo) (k : KnownFree s p x n c) → P k.frame → P (freed k.frame)
  pub called : (x : Own) (l : Lanes) (n : ℕ) (due : Option ℕ) (c : Command) (y : Reply) (k : KnownCall s p x l n c y) → P k.frame → P (called due c y k.frame)

abbrev pub Each : (Frame → Type 0) → List Frame → Type 0
Each P [] = Unit {0}
Each P (f ∷ fs) = P f × Each P fs

-- where the innermost frame of a thread's part has the innermost frame's name, it is that one
pub head_is : (x : Own) (n m : ℕ) (i f : Frame) (fs : List Frame) → innermost x.frames ≡ Some i → n ≡ i.name → thread_part x.frames ≡ f ∷ fs →
    Named m x.frames.own (f ∷ fs) → f.name ≡ n → i ≡ f
head_is x n m i f fs inner named e d q = go x.frames.own refl d.apart
  where
    go : (gs : List Frame) → x.frames.own ≡ gs → Apart gs (f ∷ fs) → i ≡ f
    go [] o a =
        let first : option_or (head_of {A = Frame} []) (head_of (f ∷ fs))
        ≡ Some i = subst (λ (hs : List Frame). option_or (head_of {A = Frame} []) (head_of hs) ≡ Some i) e
        (subst (λ (gs : List Frame). option_or (head_of gs) (head_of (thread_part x.frames)) ≡ Some i) o inner) in
        cc
    go (g ∷ gs) o a =
        let first : option_or (head_of (g ∷ gs)) (head_of (thread_part x.frames))
        ≡ Some i = subst (λ (gs : List Frame). option_or (head_of gs) (head_of (thread_part x.frames)) ≡ Some i) o inner in
        let same : g ≡ i = cc in
        let name : g.name ≡ n = ap (λ (z : Frame). z.name) same ∙ sym named in
        absurd (a.0.0 (q ∙ sym name))

-- a next event of p that names a thread is known, and was made while the thread ran
pub known_there : (s : Script) (limit : ℕ) (p : CpuNo) (t : ThreadNo) (e : Event) (past : List Event) → is_of e p ≡ true → is_by e t ≡ true →
    IsLegal s limit e past → IsRun s limit past → is_next e.what ≡ true →
    Known s p (own_of s p past) (lanes_at s past) e.what × (thread_part (frames_of s p past) ≡ thread_frames s p t past)
known_there s limit p t e past o b g r n =
    let run : running p past ≡ Some t = ran s limit p t e past o b g n in
    let h = running_here s limit p t past r run in (
      subst (λ (q : CpuNo). Known s q (own_of s q past) (lanes_at s past) e.what) (same_cpu e p o) (legal_known s limit e past g n),
      part_of_running s p t past h.0 run,
    )

module _ (s : Script) (p : CpuNo) (P : Frame → Type 0) (k : Kept s p P) where
  named_each : (n : ℕ) (g : Frame → Frame) (fs : List Frame) → ((f : Frame) → P f → P (g f)) → Each P fs → Each P (at_name n g fs)
  named_each n g [] i h = h
  named_each n g (f ∷ fs) i h = (go (f.name == n), h.1)
    where
      go : (b : Bool) → P (if b then g f else f)
      go true = i f h.0
      go false = h.0

  flushed_each : (n : ℕ) (a : ApcNo) (o : Option RoutineNo) (fs : List Frame) → Each P fs → Each P (flushed n a o fs)
  flushed_each n a None fs h = h
  flushed_each n a (Some r) fs h = (k.rundown n a, h)

  switched_each : (n : ℕ) (t : ThreadNo) (st : Option ℕ) (fs : List Frame) → Each P fs → Each P (switched_to n t st fs)
  switched_each n t st [] h = (k.base n t, tt)
  switched_each n t st (f ∷ fs) h = (k.resumed st f h.0, h.1)

  -- the innermost frame of the thread's part is the one that is changed, or has another name
  inner_each : (x : Own) (n m : ℕ) (g : Frame → Frame) (i : Frame) (fs : List Frame) → innermost x.frames ≡ Some i → n ≡ i.name → (P i → P (g i)) →
      thread_part x.frames ≡ fs → Named m x.frames.own fs → Each P fs → Each P (at_name n g fs)
  inner_each x n m g i [] inner named q e d h = h
  inner_each x n m g i (f ∷ fs) inner named q e d h = (go (f.name == n) refl, h.1)
    where
      go : (b : Bool) → (f.name == n) ≡ b → P (if b then g f else f)
      go true z =
          let same : i ≡ f = head_is x n m i f fs inner named e d (eqb-true f.name n z) in subst (λ (j : Frame). P (g j)) same (q (subst P (sym same) h.0))
      go false z = h.0

  end_each : (x : Own) (n m : ℕ) (fs : List Frame) → KnownEnd s p x n → thread_part x.frames ≡ fs → Named m x.frames.own fs → Each P fs →
      Each P (end_on_thread n fs)
  end_each x n m [] q e d h = h
  end_each x n m (f ∷ fs) q e d h = go (f.name == n) (is_base_body f.body) refl refl
    where
      go : (b c : Bool) → (f.name == n) ≡ b → is_base_body f.body ≡ c → Each P (if b then (if c then (ended_base f ∷ fs) else fs) else (f ∷ fs))
      go true true z y =
          let same : q.frame ≡ f = head_is x n m q.frame f fs q.goes_on.inner q.name e d (eqb-true f.name n z) in
          let base : is_base_body q.frame.body ≡ true = ap (λ (j : Frame). is_base_body j.body) same ∙ y in
          (subst (λ (j : Frame). P (ended_base j)) same (k.left x n q base (subst P (sym same) h.0)), h.1)
      go true false z y = h.1
      go false c z y = h

  after_each : (x : Own) (l : Lanes) (n m : ℕ) (due : Option ℕ) (w : What) (fs : List Frame) →
      (is_next w ≡ true → Known s p x l w × (thread_part x.frames ≡ fs)) → Named m x.frames.own fs → Each P fs → Each P (thread_after s n due w fs)
  after_each x l n m due (Switch t st) fs q d h = switched_each n t st fs h
  after_each x l n m due (Begin (Apc a) from) fs q d h = (k.apc n a (kind_of s a), h)
  after_each x l n m due (Flush a from) fs q d h = flushed_each n a (rundown_of s a) fs h
  after_each x l n m due (Call f c y) fs q d h =
      let z = q refl in inner_each x f m (called due c y) z.0.frame fs z.0.goes_on.inner z.0.name (k.called x l f due c y z.0) z.1 d h
  after_each x l n m due (Rewait f y) fs q d h = named_each f (rewaited y) fs (k.rewaited y) h
  after_each x l n m due (Normal f) fs q d h =
      let z = q refl in inner_each x f m normal_of z.0.frame fs z.0.goes_on.inner z.0.name (k.normal x f z.0) z.1 d h
  after_each x l n m due (End f) fs q d h = let z = q refl in end_each x f m fs z.0 z.1 d h
  after_each x l n m due (Free f c) fs q d h =
      let z = q refl in inner_each x f m freed z.0.frame fs z.0.goes_on.inner z.0.name (k.freed x f c z.0) z.1 d h
  after_each x l n m due (Gone t) fs q d h = tt
  after_each x l n m due w fs q d h = h

  each_step : (limit : ℕ) (t : ThreadNo) (e : Event) (past : List Event) (own by : Bool) → is_of e p ≡ own → is_by e t ≡ by →
      IsLegal s limit e past → IsRun s limit past → Each P (thread_frames s p t past) → Each P (thread_frames s p t (e ∷ past))
  each_step limit t e past false by o b g r ih =
      let moved : thread_frames s p t (e ∷ past) ≡ thread_frames s p t past = rw o in subst (Each P) (sym moved) ih
  each_step limit t e past true false o b g r ih =
      let moved : thread_frames s p t (e ∷ past) ≡ thread_frames s p t past = frames_when s p t e past false o b in
      subst (Each P) (sym moved) ih
  each_step limit t e past true true o b g r ih =
      let moved : thread_frames s p t (e ∷ past) ≡ thread_after s (length past) (due_of e.what (time past)) e.what
      (thread_frames s p t past) = frames_when s p t e past true o b in
      subst (Each P) (sym moved) (after_each (own_of s p past) (lanes_at s past) (length past) (length past) (due_of e.what (time past)) e.what
      (thread_frames s p t past) (known_there s limit p t e past o b g r) (all_named s p t past) ih)

  -- in a run a property that each event keeps holds of each open frame of a thread
  pub each_frame : (limit : ℕ) (t : ThreadNo) (past : List Event) → IsRun s limit past → Each P (thread_frames s p t past)
  each_frame limit t [] r = tt
  each_frame limit t (e ∷ past) r =
      each_step limit t e past (is_of e p) (is_by e t) refl refl r.0 r.1 (each_frame limit t past r.1)

-- ---- what is kept

abbrev pub is_special : Body → Bool
is_special (OnApc a SpecialApc) = true
is_special b = false

-- a special kernel APC stays in its kernel routine, at APC_LEVEL or above, and keeps no lower level with a lock
abbrev pub Special : Frame → Type 0
Special f = is_special f.body ≡ true → (1 ≤ f.level) × (f.kernel_phase ≡ true) × Floor 1 f

-- a leaving base frame has entered no region
abbrev pub GaveUp : Frame → Type 0
GaveUp f = f.leaving ≡ true → (f.crit ≡ 0) × (f.guard ≡ 0)

abbrev pub Sound : Frame → Type 0
Sound f = Special f × GaveUp f × (is_own_body f.body ≡ false)

-- false isn't true, so anything follows (for threads' frames)
no_bool : {A : Type 0} → false ≡ true → A
no_bool h = cc

-- a new frame of a special kernel APC stands at APC_LEVEL in its kernel routine
new_special : (n : ℕ) (b : Body) → Special (new_frame n b)
new_special n (OnApc a SpecialApc) h = (omega arith, refl, (omega arith, tt))
new_special n (OnApc a NormalApc) h = no_bool h
new_special n (OnApc a UserApc) h = no_bool h
new_special n (OnInt l) h = no_bool h
new_special n (OnDpc d) h = no_bool h
new_special n (OnThreaded d) h = no_bool h
new_special n (OnBase t) h = no_bool h
new_special n (OnRundown a) h = no_bool h

-- a special kernel APC has no normal routine
not_normal : (b : Body) → has_normal b ≡ true → is_special b ≡ true → ⊥
not_normal (OnApc a SpecialApc) h k = cc
not_normal (OnApc a NormalApc) h k = cc
not_normal (OnApc a UserApc) h k = cc
not_normal (OnInt l) h k = cc
not_normal (OnDpc d) h k = cc
not_normal (OnThreaded d) h k = cc
not_normal (OnBase t) h k = cc
not_normal (OnRundown a) h k = cc

-- a base frame is no special kernel APC
not_base : (b : Body) → is_base_body b ≡ true → is_special b ≡ true → ⊥
not_base (OnBase t) h k = cc
not_base (OnApc a kind) h k = cc
not_base (OnInt l) h k = cc
not_base (OnDpc d) h k = cc
not_base (OnThreaded d) h k = cc
not_base (OnRundown a) h k = cc

-- doing a command keeps whether its frame is in its kernel routine
done_phase : (c : Command) (f : Frame) → (done_to c f).kernel_phase ≡ f.kernel_phase
done_phase (Raise l) f = refl
done_phase c f = refl

-- a call leaves the kernel phase of its frame as it was
pub called_phase : (due : Option ℕ) (c : Command) (y : Reply) (f : Frame) → (called due c y f).kernel_phase ≡ f.kernel_phase
called_phase due (StartWait m a) y f = refl
called_phase due (Delay m a u) y f = refl
called_phase due c Done f = done_phase c f
called_phase due c y f = refl

-- a special kernel APC in its kernel routine has APC_LEVEL as base level
special_base : (f : Frame) → is_special f.body ≡ true → f.kernel_phase ≡ true → base_of f ≡ 1
special_base f h k = go f.body f.kernel_phase h k
  where
    go : (b : Body) (q : Bool) → is_special b ≡ true → q ≡ true → base_level b q ≡ 1
    go (OnApc a SpecialApc) true h k = refl
    go (OnApc a SpecialApc) false h k = cc
    go (OnApc a NormalApc) q h k = cc
    go (OnApc a UserApc) q h k = cc
    go (OnInt l) q h k = cc
    go (OnDpc d) q h k = cc
    go (OnThreaded d) q h k = cc
    go (OnBase t) q h k = cc
    go (OnRundown a) q h k = cc

-- an accepted raise isn't below the level, and an accepted lower not below the base level
called_level : (s : Script) (p : CpuNo) (x : Own) (l : Lanes) (n : ℕ) (due : Option ℕ) (c : Command) (y : Reply) → (k : KnownCall s p x l n c y) →
    1 ≤ k.frame.level → base_of k.frame ≡ 1 → 1 ≤ (effect due c y k.frame).level
called_level s p x l n due (Raise m) Done k h b =
    let a = (call_accepted s p x l n (Raise m) Done k refl).0 in
    let z : level_at x ≤ m = ltb-false m (level_at x) (refuse_none (nat_lt m (level_at x)) NotGreater None a) in
    let e : level_at x ≡ k.frame.level = ap (λ (o : Option Frame). option_map_or (λ f. f.level) o 0) k.goes_on.inner in
    omega (arith, h, z, e)
called_level s p x l n due (Lower m) Done k h b =
    let a = (call_accepted s p x l n (Lower m) Done k refl).0 in
    let c = next_test (nat_lt (level_at x) m) NotLess _ a in
    let z : base_of k.frame ≤ m = ltb-false m (base_of k.frame) (refuse_none (nat_lt m (base_of k.frame)) BelowBase _ c) in
    omega (arith, z, b)
called_level s p x l n due (StartWait m a) y k h b = h
called_level s p x l n due (Delay m a u) y k h b = h
called_level s p x l n due c Done k h b = h
called_level s p x l n due c y k h b = h

-- a known call keeps a special kernel APC at APC_LEVEL or above, in its kernel routine
called_special : (s : Script) (p : CpuNo) (x : Own) (l : Lanes) (n : ℕ) (due : Option ℕ) (c : Command) (y : Reply) (k : KnownCall s p x l n c y) →
    Special k.frame → Special (called due c y k.frame)
called_special s p x l n due c y k h q =
    let body : is_special k.frame.body ≡ true = ap is_special (sym ((called_keeps due c y).body k.frame)) ∙ q in
    let z = h body in
    let low : 1 ≤ (effect due c y k.frame).level = called_level s p x l n due c y k z.0 (special_base k.frame body z.1) in
    let m = moved_floor 1 (call_move c y) k.frame (effect due c y k.frame).level (omega arith) low z.0 z.2 in
    (m.0, called_phase due c y k.frame ∙ z.1, (m.1, m.2))

-- a frame that comes back from a wait keeps the rules of special APCs and of leaving
resumed_special : (st : Option ℕ) (f : Frame) → Sound f → Sound (resumed st f)
resumed_special None f h = h
resumed_special (Some x) f h = h

-- each frame of a thread in a run is sound
sound_kept : (s : Script) (p : CpuNo) → Kept s p Sound
sound_kept s p = record {
  base = λ n t. (new_special n (OnBase t), λ h. no_bool h, refl);
  apc = λ n a k. (new_special n (OnApc a k), λ h. no_bool h, refl);
  rundown = λ n a. (new_special n (OnRundown a), λ h. no_bool h, refl);
  resumed = resumed_special;
  rewaited = λ y f h. h;
  left = λ x n k b h. (λ q. absurd (not_base k.frame.body b q), λ q. (refl, refl), h.2);
  normal = λ x n k h. (λ q. absurd (not_normal k.frame.body k.normal q), λ q. (refl, refl), h.2);
  freed = λ x n c k h. (
    λ q. let z = h.0 q in let m = freed_floor 1 k.frame z.0 z.2 in (m.0, z.1, m.1),
    h.1,
    h.2,
  );
  called = λ x l n due c y k h. (
    called_special s p x l n due c y k h.0,
    λ q. no_bool (sym k.leaving ∙ (sym ((called_keeps due c y).leaving k.frame) ∙ q)),
    ap is_own_body ((called_keeps due c y).body k.frame) ∙ h.2,
  );
}

-- in a run a thread's special APC stays at APC_LEVEL or above, and its leaving base frame is in no region
pub sound_frames : (s : Script) (limit : ℕ) (p : CpuNo) (t : ThreadNo) (past : List Event) → IsRun s limit past → Each Sound (thread_frames s p t past)
sound_frames s limit p t past r = each_frame s p Sound (sound_kept s p) limit t past r
