-- The lanes of locks and the frames agree: by induction over a run.
use Rattle.std.proofs.Common.{ap, arith, inl, inr, subst, sym, ◌∙◌}
use Rattle.std.proofs.lemmas.Bool.{eq-eqb, eqb-true}
use Rattle.std.specs.Prelude.{Bool, List, None, Option, Some, [], false, get_or, if◌then◌else◌, length, nat_le, nat_lt, not, refl, true, ℕ, ◌<◌, ◌==◌, ◌||◌}
use Rattle.std.specs.Prelude.{◌∷◌, ◌≡◌, ◌≤◌, ◌⊎◌}
use Rattle.nt_event.specs.declared.commands.Command.{Command}
use Rattle.nt_event.specs.declared.commands.Command.TheVariants.{Acquire, Unlock}
use Rattle.nt_event.specs.declared.commands.Refusal.TheVariants.{NotLast, TooHigh}
use Rattle.nt_event.specs.declared.commands.Reply.{Reply}
use Rattle.nt_event.specs.declared.commands.Reply.TheVariants.{Done, Spin}
use Rattle.nt_event.specs.declared.events.Event.{Event}
use Rattle.nt_event.specs.declared.events.What.{What}
use Rattle.nt_event.specs.declared.events.What.TheVariants.{Call, Free}
use Rattle.nt_event.specs.Frame.{Frame}
use Rattle.nt_event.specs.declared.frames.Held.{Held}
use Rattle.nt_event.specs.declared.numbers.CpuNo.{CpuNo}
use Rattle.nt_event.specs.declared.numbers.LockNo.{LockNo}
use Rattle.nt_event.specs.declared.numbers.ThreadNo.{ThreadNo}
use Rattle.nt_event.specs.declared.scripts.Script.{Script}
use Rattle.nt_runs.proofs.Locked.{Clear, Distinct, Locked, move_low, no_spin}
use Rattle.nt_runs.proofs.ThreadFrames.{Each}
use Rattle.nt_event.specs.Step.{IsLegal, IsRun, thread_field}
use Rattle.nt_runs.proofs.Names.{NotAmong}
use Rattle.nt_runs.proofs.Engaged.{Over, Parted, Under, elsewhere, known_of, own_named}
use Rattle.nt_runs.proofs.SomeFrame.{any_clear, some_frame_same, named_in, or_only, own_next, part_named}
use Rattle.nt_event.specs.Frames.{at_name, base_of, called, due_of, frames_of, freed, innermost, own_after, own_frames, running, running_after, thread_after}
use Rattle.nt_event.specs.Frames.{thread_frames, thread_part, time}
use Rattle.nt_event.specs.Lists.{head_of, is_null, tail_of}
use Rattle.nt_event.specs.Numbers.{is_of}
use Rattle.std.specs.List.{list_any}
use Rattle.nt_runs.proofs.Shared.{none_part, thread_runs}
use Rattle.std.specs.Option.{option_map_or, option_or}
use Rattle.nt_event.specs.Own.{own_of}
use Rattle.nt_runs.proofs.Running.{part_of_running, running_here}
use Rattle.nt_event.specs.Locks.{Frees, LockMove, LockState, NoMove, lock_move, lock_moved, lock_of, spinners_with, spins_at}
use Rattle.nt_runs.proofs.Known.{Known, KnownCall, KnownFree, refusal_in}
use Rattle.nt_runs.proofs.Stops.{call_accepted, refuse_none}
use Rattle.nt_event.proofs.Tables.{get_or-table}
use Rattle.nt_runs.proofs.Parts.{inner_locked, parted}
use Rattle.nt_event.specs.Commands.{is_last}
use Rattle.nt_runs.proofs.Turns.{is_next}
use Rattle.nt_event.specs.Queues.{is_queue}
use Rattle.nt_event.specs.Lanes.{lanes_at}
use Rattle.nt_event.specs.Jobs.{level_at}
use Rattle.nt_runs.proofs.Calm.{level_inner, next_test}
use Rattle.std.proofs.lemmas.Bool.Decides.{nat_tests}
use Rattle.nt_event.specs.Routines.{next_command}
use Rattle.nt_event.proofs.Options.{not_false}
use Rattle.nt_runs.specs.SomeFrame.{among, some_frame, holds_lock, on_frame, spins_lock}

-- ---- the frame that moves a lock is the only one of its processor that holds locks or spins

module _ (s : Script) (limit : ℕ) (p : CpuNo) (past : List Event) (r : IsRun s limit past) (h : Parted s p past)
    (U : List Held → Option Held → Bool) (z : U [] None ≡ false) (i : Frame) (inner : innermost (frames_of s p past) ≡ Some i) (base : base_of i ≤ 2) where
  first : (gs : List Frame) → own_frames p past ≡ gs → option_or (head_of gs) (head_of (thread_part (frames_of s p past))) ≡ Some i
  first gs q =
      subst (λ (gs : List Frame). option_or (head_of gs) (head_of (thread_part (frames_of s p past))) ≡ Some i) q inner

  part_under : (a : Frame) (gs : List Frame) → own_frames p past ≡ a ∷ gs → a ≡ i → Each Clear (thread_part (frames_of s p past))
  part_under a gs q same = go (running p past) refl
    where
      go : (t : Option ThreadNo) → running p past ≡ t → Each Clear (thread_part (frames_of s p past))
      go None u = subst (Each Clear) (sym (none_part (frames_of s p past) u)) tt
      go (Some t) u =
          let v : Over (a ∷ gs) (thread_frames s p t past) = subst (λ (hs : List Frame). Over hs (thread_frames s p t past)) q (h.over t u) in
          let b : base_of a ≤ 2 = subst (λ (x : Frame). base_of x ≤ 2) (sym same) base in
          subst (Each Clear) (sym (part_of_running s p t past (running_here s limit p t past r u).0 u)) (v.0 b)

  tail_under : (a : Frame) (fs : List Frame) → own_frames p past ≡ [] → thread_part (frames_of s p past) ≡ a ∷ fs → Each Clear fs
  tail_under a fs q k =
      let null : is_null (own_frames p past) ≡ true = ap (λ (gs : List Frame). is_null gs) q in
      let t = thread_runs (frames_of s p past) i inner null in
      let part = part_of_running s p t.0 past (running_here s limit p t.0 past r t.1).0 t.1 in
      ap_tail (h.tail t.0) (sym part ∙ k)
    where
      ap_tail : {gs : List Frame} → Each Clear (tail_of gs) → gs ≡ a ∷ fs → Each Clear fs
      ap_tail c m = subst (λ (gs : List Frame). Each Clear (tail_of gs)) m c

  same_head : (a : Frame) (fs : List Frame) → option_or (head_of (a ∷ fs)) (head_of (thread_part (frames_of s p past))) ≡ Some i → a ≡ i
  same_head a fs q = cc

  same_part : (a : Frame) (fs : List Frame) → option_or (head_of {A = Frame} []) (head_of (a ∷ fs)) ≡ Some i → a ≡ i
  same_part a fs q = cc

  none_there : {A : Type 0} → option_or (head_of {A = Frame} []) (head_of {A = Frame} []) ≡ Some i → A
  none_there q = cc

  any_alone : (a : Frame) (fs : List Frame) → Each Clear fs → list_any (on_frame U) (a ∷ fs) ≡ on_frame U a
  any_alone a fs c = or_only (on_frame U a) (list_any (on_frame U) fs) (any_clear U z fs c)

  -- where the innermost frame is no interrupt, some frame passes a test of locks exactly where it does
  pub alone : some_frame U s p past ≡ on_frame U i
  alone = go (own_frames p past) refl h.own
    where
      parts : (gs : List Frame) → own_frames p past ≡ gs → some_frame U s p past ≡ (list_any (on_frame U) gs ||
          list_any (on_frame U) (thread_part (frames_of s p past)))
      parts gs q = ap (λ (hs : List Frame). list_any (on_frame U) hs || list_any (on_frame U) (thread_part (frames_of s p past))) q

      go : (gs : List Frame) → own_frames p past ≡ gs → Under gs → some_frame U s p past ≡ on_frame U i
      go [] q u = thread (thread_part (frames_of s p past)) refl
        where
          thread : (fs : List Frame) → thread_part (frames_of s p past) ≡ fs → some_frame U s p past ≡ on_frame U i
          thread [] k = none_there (subst (λ (fs : List Frame). option_or (head_of {A = Frame} []) (head_of fs) ≡ Some i) k (first [] q))
          thread (a ∷ fs) k =
              let same : a ≡ i = same_part a fs (subst (λ (fs : List Frame). option_or (head_of {A = Frame} []) (head_of fs) ≡ Some i) k (first [] q)) in
              parts [] q ∙ (ap (λ (hs : List Frame). list_any (on_frame U) hs) k
              ∙ (any_alone a fs (tail_under a fs q k) ∙ ap (λ (x : Frame). on_frame U x) same))
      go (a ∷ gs) q u =
          let same : a ≡ i = same_head a gs (first (a ∷ gs) q) in
          let b : base_of a ≤ 2 = subst (λ (x : Frame). base_of x ≤ 2) (sym same) base in
          parts (a ∷ gs) q ∙ (or_only _ _ (any_clear U z (thread_part (frames_of s p past)) (part_under a gs q same))
          ∙ (any_alone a gs (u.0 b) ∙ ap (λ (x : Frame). on_frame U x) same))

module _ (s : Script) (limit : ℕ) (p : CpuNo) (e : Event) (past : List Event) (o : is_of e p ≡ true) (g : IsLegal s limit e past) (r : IsRun s limit past)
    (h : Parted s p past) (U : List Held → Option Held → Bool) (z : U [] None ≡ false) (i : Frame) (n : ℕ) (f : Frame → Frame)
    (inner : innermost (frames_of s p past) ≡ Some i) (name : n ≡ i.name) (base : base_of i ≤ 2) where
  -- after a change of an innermost frame that is no interrupt, only what it has become counts for a test of locks
  pub alone_after : own_frames p (e ∷ past) ≡ at_name n f (own_frames p past) →
      thread_part (frames_of s p (e ∷ past)) ≡ at_name n f (thread_part (frames_of s p past)) → some_frame U s p (e ∷ past) ≡ on_frame U (f i)
  alone_after ow pa = parts ∙ go (own_frames p past) refl h.own
    where
      parts : some_frame U s p (e ∷ past) ≡ (list_any (on_frame U) (at_name n f (own_frames p past)) ||
          list_any (on_frame U) (at_name n f (thread_part (frames_of s p past))))
      parts = ap (λ (hs : List Frame). list_any (on_frame U) hs || list_any (on_frame U) (thread_part (frames_of s p (e ∷ past)))) ow
          ∙ ap (λ (hs : List Frame). list_any (on_frame U) (at_name n f (own_frames p past)) || list_any (on_frame U) hs) pa

      named : (a : Frame) → a ≡ i → (a.name == n) ≡ true
      named a same = eq-eqb a.name n (ap (λ (x : Frame). x.name) same ∙ sym name)

      headed : (a : Frame) (fs : List Frame) → a ≡ i → Each Clear fs → list_any (on_frame U) (at_name n f (a ∷ fs)) ≡ on_frame U (f i)
      headed a fs same c =
          ap (λ (b : Bool). on_frame U (if b then f a else a) || list_any (on_frame U) fs) (named a same)
          ∙ (or_only (on_frame U (f a)) (list_any (on_frame U) fs) (any_clear U z fs c) ∙ ap (λ (x : Frame). on_frame U (f x)) same)

      go : (gs : List Frame) → own_frames p past ≡ gs → Under gs → (list_any (on_frame U) (at_name n f (own_frames p past)) ||
          list_any (on_frame U) (at_name n f (thread_part (frames_of s p past)))) ≡ on_frame U (f i)
      go [] q u = thread (thread_part (frames_of s p past)) refl
        where
          thread : (fs : List Frame) → thread_part (frames_of s p past) ≡ fs → (list_any (on_frame U) (at_name n f (own_frames p past)) ||
              list_any (on_frame U) (at_name n f (thread_part (frames_of s p past)))) ≡ on_frame U (f i)
          thread [] k = none_there s limit p past r h U z i inner base (subst (λ (fs : List Frame). option_or (head_of {A = Frame} []) (head_of fs)
              ≡ Some i) k (first s limit p past r h U z i inner base [] q))
          thread (a ∷ fs) k =
              let same : a ≡ i = same_part s limit p past r h U z i inner base a fs (subst (λ (fs : List Frame). option_or (head_of {A = Frame} [])
              (head_of fs) ≡ Some i) k (first s limit p past r h U z i inner base [] q)) in
              ap (λ (hs : List Frame). list_any (on_frame U) (at_name n f hs) || list_any (on_frame U) (at_name n f (thread_part (frames_of s p past)))) q
              ∙ (ap (λ (hs : List Frame). list_any (on_frame U) (at_name n f hs)) k ∙ headed a fs same
              (tail_under s limit p past r h U z i inner base a fs q k))
      go (a ∷ gs) q u =
          let same : a ≡ i = same_head s limit p past r h U z i inner base a gs (first s limit p past r h U z i inner base (a ∷ gs) q) in
          let b : base_of a ≤ 2 = subst (λ (x : Frame). base_of x ≤ 2) (sym same) base in
          let clear = part_under s limit p past r h U z i inner base a gs q same in
          let stays : at_name n f (thread_part (frames_of s p past)) ≡ thread_part (frames_of s p past) = stay (own_named (own_of s p past) n (length past) i
          (thread_part (frames_of s p past)) inner name (named_in s limit p e past o g r h U z)) q in
          ap (λ (hs : List Frame). list_any (on_frame U) (at_name n f hs) || list_any (on_frame U) (at_name n f (thread_part (frames_of s p past)))) q
          ∙ (ap (λ (hs : List Frame). list_any (on_frame U) (at_name n f (a ∷ gs)) || list_any (on_frame U) hs) stays
          ∙ (or_only _ _ (any_clear U z (thread_part (frames_of s p past)) clear) ∙ headed a gs same (u.0 b)))
        where
          stay : (is_null (own_frames p past) ≡ true) ⊎ NotAmong n (thread_part (frames_of s p past)) → own_frames p past ≡ a ∷ gs →
              at_name n f (thread_part (frames_of s p past)) ≡ thread_part (frames_of s p past)
          stay (inl x) q = let y : is_null (a ∷ gs) ≡ true = subst (λ (hs : List Frame). is_null hs ≡ true) q x in cc
          stay (inr x) q = elsewhere n f (thread_part (frames_of s p past)) x

-- ---- what the lane says

-- the lane of the lock says of the processor what its frames do
abbrev pub Agree : Script → CpuNo → LockNo → List Event → Type 0
Agree s p k past = (is_queue (lock_of s k past).holder p ≡ some_frame (holds_lock k) s p past) ×
    (spins_at (lock_of s k past) p ≡ some_frame (spins_lock k) s p past)

-- a new spin mark of one processor is read at that processor, and the others' marks stay
pub spins_with : (s : Script) (p q : CpuNo) (b : Bool) (xs : List Bool) → p.0 < s.cpus → get_or (spinners_with s q b xs) p.0 false
    ≡ (if p.0 == q.0 then b else get_or xs p.0 false)
spins_with s p q b xs l = get_or-table s.cpus p.0 (λ x. if x == q.0 then b else get_or xs x false) false l

-- an event changes a lock's state by its lock move
pub moved_by : (s : Script) (k : LockNo) (e : Event) (past : List Event) (w : What) → e.what ≡ w → lock_of s k (e ∷ past)
    ≡ lock_moved s k e.cpu (lock_move w) (lock_of s k past)
moved_by s k e past w q = ap (λ (v : What). lock_moved s k e.cpu (lock_move v) (lock_of s k past)) q

-- a frame that goes on to acquire a lock spins on no other
spin_other : (s : Script) (p : CpuNo) (i : Frame) (x k : LockNo) → Locked s p i → next_command s p i ≡ Some (Acquire x) → (x.0 == k.0) ≡ false →
    spins_lock k i.held i.spin ≡ false
spin_other s p i x k h c d = go i.spin refl
  where
    same : (a b : LockNo) → ◌≡◌ {A = Option Command} (Some (Acquire a)) (Some (Acquire b)) → a ≡ b
    same a b q = cc

    go : (o : Option Held) → i.spin ≡ o → spins_lock k i.held o ≡ false
    go None q = refl
    go (Some a) q =
        let e : a.lock ≡ x = same a.lock x (sym (h.retry a q).0 ∙ c) in ap (λ (z : LockNo). z.0 == k.0) e ∙ d

-- one that goes on to another command, or has none, spins on none
spin_none : (s : Script) (p : CpuNo) (i : Frame) (x : LockNo) → Locked s p i → next_command s p i ≡ Some (Unlock x) → i.spin ≡ None
spin_none s p i x h c = go i.spin refl
  where
    clash : {A : Type 0} (a b : LockNo) → ◌≡◌ {A = Option Command} (Some (Acquire a)) (Some (Unlock b)) → A
    clash a b q = cc

    go : (o : Option Held) → i.spin ≡ o → i.spin ≡ None
    go None q = q
    go (Some a) q = clash a.lock x (sym (h.retry a q).0 ∙ c)

-- the first of the locks that are held is this one
abbrev Firsts : LockNo → List Held → Type 0
Firsts x [] = ⊥
Firsts x (a ∷ hs) = a.lock.0 ≡ x.0

-- the lock that a frame acquired last is the first among those it holds
last_first : (x : LockNo) (f : Frame) → is_last x f ≡ true → Firsts x f.held
last_first x f h = go f.held h
  where
    go : (hs : List Held) → option_map_or (λ h. h.lock.0 == x.0) (head_of hs) false ≡ true → Firsts x hs
    go [] q = cc
    go (a ∷ hs) q = eqb-true a.lock.0 x.0 q

-- a lock named as the last acquired is the first of the held
free_first : (x : LockNo) (f : Frame) (a : Held) → head_of f.held ≡ Some a → x ≡ a.lock → Firsts x f.held
free_first x f a h e = go f.held h
  where
    go : (hs : List Held) → head_of hs ≡ Some a → Firsts x hs
    go [] q = cc
    go (b ∷ hs) q = let same : b ≡ a = cc in ap (λ (z : Held). z.lock.0) same ∙ ap (λ (z : LockNo). z.0) (sym e)

-- the first of the held locks is among them
firsts_among : (x k : LockNo) (hs : List Held) → Firsts x hs → (x.0 == k.0) ≡ true → among k hs ≡ true
firsts_among x k [] f e = absurd f
firsts_among x k (a ∷ hs) f e =
    let m : (a.lock.0 == k.0) ≡ true = ap (λ (n : ℕ). n == k.0) f ∙ e in ap (λ (b : Bool). b || among k hs) m

-- the first held lock isn't among the others if no lock is held twice
tail_free : (x k : LockNo) (hs : List Held) → Firsts x hs → Distinct hs → (x.0 == k.0) ≡ true → among k (tail_of hs) ≡ false
tail_free x k [] f d e = absurd f
tail_free x k (a ∷ hs) f d e =
    let same : a.lock.0 ≡ k.0 = f ∙ eqb-true x.0 k.0 e in ap (λ (n : ℕ). list_any (λ h. h.lock.0 == n) hs) (sym same) ∙ d.0

-- a lock other than the first is among the held exactly where it is among the rest
tail_other : (x k : LockNo) (hs : List Held) → Firsts x hs → (x.0 == k.0) ≡ false → among k hs ≡ among k (tail_of hs)
tail_other x k [] f e = absurd f
tail_other x k (a ∷ hs) f e =
    let m : (a.lock.0 == k.0) ≡ false = ap (λ (n : ℕ). n == k.0) f ∙ e in ap (λ (b : Bool). b || among k hs) m

-- ---- an event of the processor

module _ (s : Script) (limit : ℕ) (p : CpuNo) (e : Event) (past : List Event) (o : is_of e p ≡ true) (g : IsLegal s limit e past) (r : IsRun s limit past)
    (below : p.0 < s.cpus) (k : LockNo) (ih : Agree s p k past) where
  h : Parted s p past
  h = parted s limit p past r

  it : (p.0 == e.cpu.0) ≡ true
  it = eq-eqb p.0 e.cpu.0 (sym (eqb-true e.cpu.0 p.0 o))

  abbrev old : LockState
  old = lock_of s k past

  is_known : (w : What) → e.what ≡ w → is_next w ≡ true → Known s p (own_of s p past) (lanes_at s past) w
  is_known w q n = known_of s limit p e past o g w q n

  -- whether some frame passes a test, before and after a change of the innermost frame
  some_frame_moves : (U : List Held → Option Held → Bool) → U [] None ≡ false → (i : Frame) (n : ℕ) (f : Frame → Frame) (w : What) → e.what ≡ w →
      innermost (frames_of s p past) ≡ Some i → n ≡ i.name → base_of i ≤ 2 → running_after w (running p past) ≡ running p past →
      thread_field w (running p past) ≡ running p past →
      own_after (length past) (due_of w (time past)) w (own_frames p past) ≡ at_name n f (own_frames p past) →
      ((fs : List Frame) → thread_after s (length past) (due_of w (time past)) w fs ≡ at_name n f fs) →
      (some_frame U s p past ≡ on_frame U i) × (some_frame U s p (e ∷ past) ≡ on_frame U (f i))
  some_frame_moves U z i n f w q inner name base still field own thr = (
    alone s limit p past r h U z i inner base,
    alone_after s limit p e past o g r h U z i n f inner name base (own_next s limit p e past o g r h U z ∙ ap (λ (v : What). own_after (length past)
        (due_of v (time past)) v (own_frames p past)) q ∙ own)
        (part_named s limit p e past o g r h U z (at_name n f) refl (ap (λ (v : What). running_after v (running p past)) q ∙ still)
        (ap (λ (v : What). thread_field v (running p past)) q ∙ field)
        (λ fs. ap (λ (v : What). thread_after s (length past) (due_of v (time past)) v fs) q ∙ thr fs)),
  )

  low_base : (f : ℕ) (c : Command) (y : Reply) (q : KnownCall s p (own_of s p past) (lanes_at s past) f c y) → q.frame.level ≤ 2 → base_of q.frame ≤ 2
  low_base f c y q l = let a = (inner_locked s limit p past q.frame r q.goes_on.inner).above in omega (arith, a, l)

  gets : (f : ℕ) (x : LockNo) → e.what ≡ Call f (Acquire x) Done → Agree s p k (e ∷ past)
  gets f x w = go (x.0 == k.0) refl
    where
      q : KnownCall s p (own_of s p past) (lanes_at s past) f (Acquire x) Done
      q = is_known (Call f (Acquire x) Done) w refl

      lk : Locked s p q.frame
      lk = inner_locked s limit p past q.frame r q.goes_on.inner

      base : base_of q.frame ≤ 2
      base = low_base f (Acquire x) Done q (move_low (own_of s p past) q.frame _ (call_accepted s p (own_of s p past) (lanes_at s past) f (Acquire x) Done q
          refl).0 (level_inner (own_of s p past) q.frame q.goes_on.inner))

      hold : (some_frame (holds_lock k) s p past ≡ among k q.frame.held) × (some_frame (holds_lock k) s p (e ∷ past) ≡ ((x.0 == k.0) || among k q.frame.held))
      hold = some_frame_moves (holds_lock k) refl q.frame f (called None (Acquire x) Done) (Call f
          (Acquire x) Done) w q.goes_on.inner q.name base refl refl refl
          (λ fs. refl)

      spin : (some_frame (spins_lock k) s p past ≡ spins_lock k q.frame.held q.frame.spin) × (some_frame (spins_lock k) s p (e ∷ past) ≡ false)
      spin = some_frame_moves (spins_lock k) refl q.frame f (called None (Acquire x) Done) (Call f
          (Acquire x) Done) w q.goes_on.inner q.name base refl refl refl
          (λ fs. refl)

      go : (b : Bool) → (x.0 == k.0) ≡ b → Agree s p k (e ∷ past)
      go true b =
          let m : lock_of s k (e ∷ past) ≡ record { holder = Some e.cpu; spinners = spinners_with s e.cpu false old.spinners } = moved_by s k e past
          (Call f (Acquire x) Done) w ∙ ap (λ
          (c : Bool). if c then record { holder = Some e.cpu; spinners = spinners_with s e.cpu false old.spinners } else old) b in (
            ap (λ (l : LockState). is_queue l.holder p) m ∙ (o ∙ sym (hold.1 ∙ ap (λ (c : Bool). c || among k q.frame.held) b)),
            ap (λ (l : LockState). spins_at l p) m ∙ (spins_with s p e.cpu false old.spinners below
                ∙ (ap (λ (c : Bool). if c then false else get_or old.spinners p.0 false) it ∙ sym spin.1)),
          )
      go false b =
          let m : lock_of s k (e ∷ past) ≡ old = moved_by s k e past (Call f (Acquire x) Done) w
          ∙ ap (λ (c : Bool). if c then record { holder = Some e.cpu; spinners = spinners_with s e.cpu false old.spinners } else old) b in (
            ap (λ (l : LockState). is_queue l.holder p) m ∙ (ih.0 ∙ (hold.0 ∙ sym (hold.1 ∙ ap (λ (c : Bool). c || among k q.frame.held) b))),
            ap (λ (l : LockState). spins_at l p) m ∙ (ih.1 ∙ (spin.0 ∙ (spin_other s p q.frame x k lk q.command b ∙ sym spin.1))),
          )

  spins : (f : ℕ) (x : LockNo) → e.what ≡ Call f (Acquire x) Spin → Agree s p k (e ∷ past)
  spins f x w = go (x.0 == k.0) refl
    where
      q : KnownCall s p (own_of s p past) (lanes_at s past) f (Acquire x) Spin
      q = is_known (Call f (Acquire x) Spin) w refl

      lk : Locked s p q.frame
      lk = inner_locked s limit p past q.frame r q.goes_on.inner

      base : base_of q.frame ≤ 2
      base = low_base f (Acquire x) Spin q (move_low (own_of s p past) q.frame _ (call_accepted s p (own_of s p past) (lanes_at s past) f (Acquire x) Spin q
          refl).0 (level_inner (own_of s p past) q.frame q.goes_on.inner))

      hold : (some_frame (holds_lock k) s p past ≡ among k q.frame.held) × (some_frame (holds_lock k) s p (e ∷ past) ≡ among k q.frame.held)
      hold = some_frame_moves (holds_lock k) refl q.frame f (called None (Acquire x) Spin) (Call f
          (Acquire x) Spin) w q.goes_on.inner q.name base refl refl refl
          (λ fs. refl)

      spin : (some_frame (spins_lock k) s p past ≡ spins_lock k q.frame.held q.frame.spin) × (some_frame (spins_lock k) s p (e ∷ past) ≡ (x.0 == k.0))
      spin = some_frame_moves (spins_lock k) refl q.frame f (called None (Acquire x) Spin) (Call f
          (Acquire x) Spin) w q.goes_on.inner q.name base refl refl refl
          (λ fs. refl)

      go : (b : Bool) → (x.0 == k.0) ≡ b → Agree s p k (e ∷ past)
      go true b =
          let m : lock_of s k (e ∷ past) ≡ record old { spinners = spinners_with s e.cpu true old.spinners } = moved_by s k e past
          (Call f (Acquire x) Spin) w ∙ ap (λ (c : Bool). if c then record old { spinners = spinners_with s e.cpu true old.spinners } else old) b in (
            ap (λ (l : LockState). is_queue l.holder p) m ∙ (ih.0 ∙ (hold.0 ∙ sym hold.1)),
            ap (λ (l : LockState). spins_at l p) m ∙ (spins_with s p e.cpu true old.spinners below
                ∙ (ap (λ (c : Bool). if c then true else get_or old.spinners p.0 false) it ∙ sym (spin.1 ∙ b))),
          )
      go false b =
          let m : lock_of s k (e ∷ past) ≡ old = moved_by s k e past (Call f (Acquire x) Spin) w
          ∙ ap (λ (c : Bool). if c then record old { spinners = spinners_with s e.cpu true old.spinners } else old) b in (
            ap (λ (l : LockState). is_queue l.holder p) m ∙ (ih.0 ∙ (hold.0 ∙ sym hold.1)),
            ap (λ (l : LockState). spins_at l p) m ∙ (ih.1 ∙ (spin.0 ∙ (spin_other s p q.frame x k lk q.command b ∙ sym (spin.1 ∙ b)))),
          )

  -- the innermost frame frees the lock that it acquired last, and spins on none
  frees : (x : LockNo) (w : What) → e.what ≡ w → lock_move w ≡ Frees x → (i : Frame) → Locked s p i → Firsts x i.held → i.spin ≡ None →
      (some_frame (holds_lock k) s p past ≡ among k i.held) × (some_frame (holds_lock k) s p (e ∷ past) ≡ among k (tail_of i.held)) →
      (some_frame (spins_lock k) s p past ≡ spins_lock k i.held i.spin) × (some_frame (spins_lock k) s p (e ∷ past) ≡ false) → Agree s p k (e ∷ past)
  frees x w q mv i lk first none hold spin = go (x.0 == k.0) refl
    where
      moved : lock_of s k (e ∷ past) ≡ (if x.0 == k.0 then record old { holder = None } else old)
      moved = moved_by s k e past w q ∙ ap (λ (v : LockMove). lock_moved s k e.cpu v old) mv

      spun : spins_at old p ≡ false
      spun = ih.1 ∙ (spin.0 ∙ ap (λ (a : Option Held). spins_lock k i.held a) none)

      go : (b : Bool) → (x.0 == k.0) ≡ b → Agree s p k (e ∷ past)
      go true b =
          let m : lock_of s k (e ∷ past) ≡ record old { holder = None } = moved ∙ ap (λ (c : Bool). if c then record old { holder = None } else old) b in (
            ap (λ (l : LockState). is_queue l.holder p) m ∙ sym (hold.1 ∙ tail_free x k i.held first lk.differ b),
            ap (λ (l : LockState). spins_at l p) m ∙ (spun ∙ sym spin.1),
          )
      go false b =
          let m : lock_of s k (e ∷ past) ≡ old = moved ∙ ap (λ (c : Bool). if c then record old { holder = None } else old) b in (
            ap (λ (l : LockState). is_queue l.holder p) m ∙ (ih.0 ∙ (hold.0 ∙ (tail_other x k i.held first b ∙ sym hold.1))),
            ap (λ (l : LockState). spins_at l p) m ∙ (spun ∙ sym spin.1),
          )

  unlocks : (f : ℕ) (x : LockNo) → e.what ≡ Call f (Unlock x) Done → Agree s p k (e ∷ past)
  unlocks f x w =
      frees x (Call f (Unlock x) Done) w refl q.frame lk (last_first x q.frame last) (spin_none s p q.frame x lk q.command)
      (some_frame_moves (holds_lock k) refl q.frame f (called None (Unlock x) Done) (Call f (Unlock x) Done) w q.goes_on.inner q.name base refl refl refl
      (λ fs. refl))
      (some_frame_moves (spins_lock k) refl q.frame f (called None (Unlock x) Done) (Call f (Unlock x) Done) w q.goes_on.inner q.name base refl refl refl
      (λ fs. refl))
    where
      q : KnownCall s p (own_of s p past) (lanes_at s past) f (Unlock x) Done
      q = is_known (Call f (Unlock x) Done) w refl

      lk : Locked s p q.frame
      lk = inner_locked s limit p past q.frame r q.goes_on.inner

      accepted : refusal_in (own_of s p past) q.frame (Unlock x) ≡ None
      accepted = (call_accepted s p (own_of s p past) (lanes_at s past) f (Unlock x) Done q refl).0

      base : base_of q.frame ≤ 2
      base = low_base f (Unlock x) Done q (move_low (own_of s p past) q.frame _ accepted (level_inner (own_of s p past) q.frame q.goes_on.inner))

      last : is_last x q.frame ≡ true
      last = not_false (is_last x q.frame) (refuse_none (not (is_last x q.frame)) NotLast None (next_test (nat_lt 2 (level_at
          (own_of s p past))) TooHigh _ accepted))

  free_base : (f : ℕ) (x : LockNo) → (w : e.what ≡ Free f x) → base_of (is_known (Free f x) w refl).frame ≤ 2
  free_base f x w = go (nat_le (base_of q.frame) 2) refl
    where
      q : KnownFree s p (own_of s p past) f x
      q = is_known (Free f x) w refl

      lk : Locked s p q.frame
      lk = inner_locked s limit p past q.frame r q.goes_on.inner

      clash : {A : Type 0} (a : Held) → ◌≡◌ {A = Option Held} None (Some a) → A
      clash a q = cc

      go : (b : Bool) → nat_le (base_of (is_known (Free f x) w refl).frame) 2 ≡ b → base_of (is_known (Free f x) w refl).frame ≤ 2
      go true b = grind (arith, nat_tests)
      go false b =
          let high : 3 ≤ base_of (is_known (Free f x) w refl).frame = grind (arith, nat_tests) in
          let lk = inner_locked s limit p past (is_known (Free f x) w refl).frame r (is_known (Free f x) w refl).goes_on.inner in
          let empty : head_of (is_known (Free f x) w refl).frame.held ≡ None = ap (λ (hs : List Held). head_of hs) (lk.low high).0 in
          clash (is_known (Free f x) w refl).held (sym empty ∙ (is_known (Free f x) w refl).last)

  freeing : (f : ℕ) (x : LockNo) → e.what ≡ Free f x → Agree s p k (e ∷ past)
  freeing f x w =
      frees x (Free f x) w refl q.frame lk (free_first x q.frame q.held q.last q.lock) none
      (some_frame_moves (holds_lock k) refl q.frame f freed (Free f x) w q.goes_on.inner q.name base refl refl refl (λ fs. refl))
      (spin.0, spin.1 ∙ ap (λ (a : Option Held). spins_lock k (tail_of q.frame.held) a) none)
    where
      q : KnownFree s p (own_of s p past) f x
      q = is_known (Free f x) w refl

      lk : Locked s p q.frame
      lk = inner_locked s limit p past q.frame r q.goes_on.inner

      none : q.frame.spin ≡ None
      none = no_spin s p q.frame q.command lk

      base : base_of q.frame ≤ 2
      base = free_base f x w

      spin : (some_frame (spins_lock k) s p past ≡ spins_lock k q.frame.held q.frame.spin) × (some_frame (spins_lock k) s p (e ∷ past)
          ≡ spins_lock k (tail_of q.frame.held) q.frame.spin)
      spin = some_frame_moves (spins_lock k) refl q.frame f freed (Free f x) w q.goes_on.inner q.name base refl refl refl (λ fs. refl)

  same : (w : What) → e.what ≡ w → lock_move w ≡ NoMove → Agree s p k (e ∷ past)
  same w q m =
      let mv : lock_move e.what ≡ NoMove = ap lock_move q ∙ m in
      let l : lock_of s k (e ∷ past) ≡ old = ap (λ (v : LockMove). lock_moved s k e.cpu v old) mv in (
        ap (λ (l : LockState). is_queue l.holder p) l ∙ (ih.0 ∙ sym (some_frame_same s limit p e past o g r h (holds_lock k) refl mv)),
        ap (λ (l : LockState). spins_at l p) l ∙ (ih.1 ∙ sym (some_frame_same s limit p e past o g r h (spins_lock k) refl mv)),
      )

  -- after an acquire that spins, its processor spins on exactly that lock
  pub spin_now : (f : ℕ) (x : LockNo) → e.what ≡ Call f (Acquire x) Spin → some_frame (spins_lock k) s p (e ∷ past) ≡ (x.0 == k.0)
  spin_now f x w =
      let q : KnownCall s p (own_of s p past) (lanes_at s past) f (Acquire x) Spin = is_known (Call f (Acquire x) Spin) w refl in
      let base = low_base f (Acquire x) Spin q (move_low (own_of s p past) q.frame _ (call_accepted s p (own_of s p past) (lanes_at s past) f (Acquire x) Spin q
      refl).0 (level_inner (own_of s p past) q.frame q.goes_on.inner)) in
      (some_frame_moves (spins_lock k) refl q.frame f (called None (Acquire x) Spin) (Call f (Acquire x) Spin) w q.goes_on.inner q.name base refl refl refl
      (λ fs. refl)).1

  -- what is freed was held
  pub held_before : (x : LockNo) → lock_move e.what ≡ Frees x → (x.0 == k.0) ≡ true → some_frame (holds_lock k) s p past ≡ true
  held_before x m b = go e.what refl m
    where
      same_lock : (a c : LockNo) → Frees a ≡ Frees c → a ≡ c
      same_lock a c q = cc

      go : (w : What) → e.what ≡ w → lock_move w ≡ Frees x → some_frame (holds_lock k) s p past ≡ true
      go (Call f (Unlock y) Done) w m =
          let q : KnownCall s p (own_of s p past) (lanes_at s past) f (Unlock y) Done = is_known (Call f (Unlock y) Done) w refl in
          let lk = inner_locked s limit p past q.frame r q.goes_on.inner in
          let accepted = (call_accepted s p (own_of s p past) (lanes_at s past) f (Unlock y) Done q refl).0 in
          let base = low_base f (Unlock y) Done q (move_low (own_of s p past) q.frame _ accepted (level_inner (own_of s p past) q.frame q.goes_on.inner)) in
          let last = not_false (is_last y q.frame) (refuse_none (not (is_last y q.frame)) NotLast None
          (next_test (nat_lt 2 (level_at (own_of s p past))) TooHigh _ accepted)) in
          let e2 : y ≡ x = same_lock y x m in
          (some_frame_moves (holds_lock k) refl q.frame f (called None (Unlock y) Done) (Call f (Unlock y) Done) w q.goes_on.inner q.name base refl refl refl
          (λ fs. refl)).0
          ∙ firsts_among y k q.frame.held (last_first y q.frame last) (ap (λ (z : LockNo). z.0 == k.0) e2 ∙ b)
      go (Free f y) w m =
          let q : KnownFree s p (own_of s p past) f y = is_known (Free f y) w refl in
          let e2 : y ≡ x = same_lock y x m in
          (some_frame_moves (holds_lock k) refl q.frame f freed (Free f y) w q.goes_on.inner q.name (free_base f y w) refl refl refl (λ fs. refl)).0
          ∙ firsts_among y k q.frame.held (free_first y q.frame q.held q.last q.lock) (ap (λ (z : LockNo). z.0 == k.0) e2 ∙ b)
      go (Call f (Acquire y) Done) q m = cc
      go (Call f (Acquire y) Spin) q m = cc
      go w q m = cc

  -- an event of the processor itself keeps the lane of a lock in agreement with its frames
  pub agree_own : Agree s p k (e ∷ past)
  agree_own = go e.what refl
    where
      go : (w : What) → e.what ≡ w → Agree s p k (e ∷ past)
      go (Call f (Acquire x) Done) w = gets f x w
      go (Call f (Acquire x) Spin) w = spins f x w
      go (Call f (Unlock x) Done) w = unlocks f x w
      go (Free f x) w = freeing f x w
      go w q = same w q refl
