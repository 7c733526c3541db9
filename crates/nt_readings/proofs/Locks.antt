-- In a run each open frame holds the locks that its events tell, spins on the one that they tell, and keeps the levels that they tell.
use Rattle.std.proofs.Common.{ap, arith, inl, inr, subst, sym, ◌∙◌}
use Rattle.std.proofs.lemmas.Bool.{both_ways, eq-eqb, eqb-true}
use Rattle.std.specs.Option.{option_map_or}
use Rattle.std.specs.Prelude.{Bool, List, None, Option, Some, [], false, length, nat_lt, not, refl, suc, true, ℕ, ◌<◌, ◌==◌, ◌||◌, ◌∷◌, ◌≡◌, ◌≤◌, ◌⊎◌}
use Rattle.nt_event.specs.declared.commands.Command.{Command}
use Rattle.nt_event.specs.declared.commands.Command.TheVariants.{Acquire, Unlock}
use Rattle.nt_event.specs.declared.commands.Refusal.TheVariants.{NotLast, TooHigh}
use Rattle.nt_event.specs.declared.commands.Reply.{Reply}
use Rattle.nt_event.specs.declared.commands.Reply.TheVariants.{Done, Spin}
use Rattle.nt_event.specs.declared.events.Event.{Event}
use Rattle.nt_event.specs.declared.events.What.{What}
use Rattle.nt_event.specs.declared.events.What.TheVariants.{Call, End, Free, Normal, Rewait, Switch}
use Rattle.nt_event.specs.declared.frames.Held.{Held}
use Rattle.nt_event.specs.declared.numbers.CpuNo.{CpuNo}
use Rattle.nt_event.specs.declared.numbers.LockNo.{LockNo}
use Rattle.nt_event.specs.declared.numbers.ThreadNo.{ThreadNo}
use Rattle.nt_event.specs.declared.scripts.Script.{Script}
use Rattle.nt_event.proofs.Options.{not_false}
use Rattle.nt_event.specs.Commands.{is_last}
use Rattle.nt_event.specs.Frame.{Frame}
use Rattle.nt_event.specs.Frames.{called, due_of, frames_of, freed, held_moved, innermost, kept_in, resumed, spin_moved, time}
use Rattle.nt_event.specs.Jobs.{level_at}
use Rattle.nt_event.specs.Lanes.{lanes_at}
use Rattle.nt_event.specs.Lists.{head_of, tail_of}
use Rattle.nt_event.specs.Locks.{Frees, Gets, LockMove, NoMove, Spins, call_move, lock_move}
use Rattle.nt_event.specs.Own.{own_of}
use Rattle.nt_event.specs.Step.{IsRun}
use Rattle.nt_runs.proofs.Calm.{next_test}
use Rattle.nt_runs.proofs.Known.{KnownCall, KnownFree}
use Rattle.nt_runs.proofs.Locked.{Distinct, Locked}
use Rattle.nt_runs.proofs.Parts.{inner_locked}
use Rattle.nt_runs.proofs.Stops.{call_accepted, refuse_none}
use Rattle.nt_runs.specs.SomeFrame.{among}
use Rattle.nt_readings.specs.Locks.{AreHeld, EachLocksTold, EachSpins, HoldsSince, IsCallOf, IsFreeing, IsGet, IsHolding, IsKept, IsKeptWith, IsSpin}
use Rattle.nt_readings.specs.Locks.{IsSpinning, LocksTold, LocksToldOf, SpinsSince}
use Rattle.nt_readings.specs.Positions.{At, EachAfter}
use Rattle.nt_readings.specs.Regions.{phase_of, renews}
use Rattle.nt_readings.proofs.Follow.{Follows, IsAside, each_own, each_part, inner_has, names}
use Rattle.nt_readings.proofs.Frames.{keep_called}
use Rattle.nt_readings.proofs.Regions.{end_anew, normal_anew, phase_anew, phase_below, phase_new, phase_silent, silent}
use Rattle.nt_readings.proofs.Seen.{at_before}
use Rattle.nt_readings.proofs.Served.{none_yet}

-- ---- what an event does to one lock

-- getting a lock and getting another are the same move only if the locks are the same
gets_one : (j k : LockNo) → Gets j ≡ Gets k → j ≡ k
gets_one j k q = cc

-- spinning on a lock and spinning on another are the same move only if the locks are the same
spins_one : (j k : LockNo) → Spins j ≡ Spins k → j ≡ k
spins_one j k q = cc

-- freeing a lock and freeing another are the same move only if the locks are the same
frees_one : (j k : LockNo) → Frees j ≡ Frees k → j ≡ k
frees_one j k q = cc

-- the move of an event that frees a lock is to free that lock
freeing_move : (n : ℕ) (k : LockNo) (w : What) → IsFreeing n k w → lock_move w ≡ Frees k
freeing_move n k w (inl q) = ap lock_move q
freeing_move n k w (inr q) = ap lock_move q

-- an event with another move
no_freeing : (n : ℕ) (k : LockNo) (w : What) (m : LockMove) → lock_move w ≡ m → (Frees k ≡ m → ⊥) → IsFreeing n k w → ⊥
no_freeing n k w m e d q = d (sym (freeing_move n k w q) ∙ e)

-- an event whose move isn't to get a lock doesn't get it
no_get : (n : ℕ) (k : LockNo) (w : What) (m : LockMove) → lock_move w ≡ m → (Gets k ≡ m → ⊥) → IsGet n k w → ⊥
no_get n k w m e d q = d (sym (ap lock_move q) ∙ e)

-- an event whose move isn't to spin on a lock doesn't spin on it
no_spin : (n : ℕ) (k : LockNo) (w : What) (m : LockMove) → lock_move w ≡ m → (Spins k ≡ m → ⊥) → IsSpin n k w → ⊥
no_spin n k w m e d q = d (sym (ap lock_move q) ∙ e)

-- ---- an event that isn't the frame's

-- a call by a frame is a call of that frame
call_of : (n : ℕ) (c : Command) (y : Reply) (w : What) → w ≡ Call n c y → IsCallOf n w
call_of n c y w q = subst (IsCallOf n) (sym q) refl

-- an event that leaves a frame aside is no call of the frame
no_call : (n : ℕ) (w : What) → IsAside n w → IsCallOf n w → ⊥
no_call n (Call f c y) a h = a f refl h
no_call n w a h = h

-- a Free is no call of a frame
free_no_call : (n m : ℕ) (k : LockNo) (w : What) → w ≡ Free m k → IsCallOf n w → ⊥
free_no_call n m k w q h = subst (IsCallOf n) q h

-- an event that leaves a frame aside gets it no lock
aside_get : (n : ℕ) (k : LockNo) (w : What) → IsAside n w → IsGet n k w → ⊥
aside_get n k w a q = a n (ap names q) refl

-- an event that leaves a frame aside frees no lock of it
aside_freeing : (n : ℕ) (k : LockNo) (w : What) → IsAside n w → IsFreeing n k w → ⊥
aside_freeing n k w a (inl q) = a n (ap names q) refl
aside_freeing n k w a (inr q) = a n (ap names q) refl

-- ---- locks that are held, one event later

-- a lock that a frame holds since an event is still held since it after an event that doesn't free it
holds_on : (n : ℕ) (k : LockNo) (e : Event) (past : List Event) (m : ℕ) → (IsFreeing n k e.what → ⊥) → HoldsSince n k past m → HoldsSince n k (e ∷ past) m
holds_on n k e past m a h = (h.0, inr h.1, ((λ l. a), h.2))

-- a lock that is held after an event that didn't get it was held before and wasn't freed by it
holds_back : (n : ℕ) (k : LockNo) (e : Event) (past : List Event) → (IsGet n k e.what → ⊥) → IsHolding n k (e ∷ past) → IsHolding n k past ×
    (IsFreeing n k e.what → ⊥)
holds_back n k e past a (m, (l, inl q, d)) = absurd (a q.1)
holds_back n k e past a (m, (l, inr q, d)) = ((m, (l, q, d.1)), d.0 (at_before (λ e before. IsGet n k e.what) m past q))

-- the level that is kept with a lock since an event is still kept with it after a later event
kept_on : (s : Script) (n : ℕ) (k : LockNo) (v : ℕ) (e : Event) (past : List Event) (m : ℕ) → m < length past → IsKept s n k v past m →
    IsKept s n k v (e ∷ past) m
kept_on s n k v e past m l h = (h.0, h.1, inr h.2, ((λ a b c. absurd (omega (arith, b, l))), h.3))

-- the event frees none of these
abbrev FreesNone : ℕ → What → List Held → Type 0
FreesNone n w [] = Unit {0}
FreesNone n w (h ∷ hs) = (IsFreeing n h.lock w → ⊥) × FreesNone n w hs

-- an event that frees no lock of a frame frees none of its listed locks
frees_none : (n : ℕ) (w : What) (hs : List Held) → ((k : LockNo) → IsFreeing n k w → ⊥) → FreesNone n w hs
frees_none n w [] a = tt
frees_none n w (h ∷ hs) a = (a h.lock, frees_none n w hs a)

-- the locks of a list are still held after an event that frees none of them
held_on : (s : Script) (n : ℕ) (e : Event) (past : List Event) (m : ℕ) (hs : List Held) → FreesNone n e.what hs → AreHeld s n past m hs →
    AreHeld s n (e ∷ past) m hs
held_on s n e past m [] a h = tt
held_on s n e past m (x ∷ hs) a h = (
  h.0,
  h.1,
  holds_on n x.lock e past h.0 a.0 h.2,
  kept_on s n x.lock x.kept e past h.0 (at_before (λ e before. IsGet n x.lock e.what) h.0 past h.2.1) h.3,
  held_on s n e past h.0 hs a.1 h.4,
)

-- locks that were all acquired before an event were acquired before each later one
held_below : (s : Script) (n : ℕ) (past : List Event) (m i : ℕ) (hs : List Held) → m ≤ i → AreHeld s n past m hs → AreHeld s n past i hs
held_below s n past m i [] l h = tt
held_below s n past m i (x ∷ hs) l h = let a = h.1 in (h.0, omega (arith, a, l), h.2, h.3, h.4)

-- after an event that frees none of the held locks, they are held and acquired before the next event
held_later : (s : Script) (n : ℕ) (e : Event) (past : List Event) (hs : List Held) → FreesNone n e.what hs → AreHeld s n past (length past) hs →
    AreHeld s n (e ∷ past) (suc (length past)) hs
held_later s n e past hs a h = held_below s n (e ∷ past) (length past) (suc (length past)) hs (omega arith) (held_on s n e past (length past) hs a h)

-- a lock among those that are held is held
held_holding : (s : Script) (n : ℕ) (past : List Event) (m : ℕ) (k : LockNo) (hs : List Held) → AreHeld s n past m hs → among k hs ≡ true → IsHolding n k past
held_holding s n past m k [] h q = cc
held_holding s n past m k (x ∷ hs) h q = go (x.lock.0 == k.0) refl q (λ z. held_holding s n past h.0 k hs h.4 z)
  where
    go : (b : Bool) → (x.lock.0 == k.0) ≡ b → (b || among k hs) ≡ true → (among k hs ≡ true → IsHolding n k past) → IsHolding n k past
    go true e z ih =
        let same : x.lock ≡ k = ap (λ (n : ℕ). record { 0 = n }) (eqb-true x.lock.0 k.0 e) in
        (h.0, subst (λ (j : LockNo). HoldsSince n j past h.0) same h.2)
    go false e z ih = ih z

-- ---- a lock on which the frame spins, one event later

-- a lock that a frame spins on is still spun on after an event that is no call of it and begins no phase
spins_on : (n : ℕ) (k : LockNo) (e : Event) (past : List Event) (m : ℕ) → renews n e.what ≡ false → (IsCallOf n e.what → ⊥) → SpinsSince n k past m →
    SpinsSince n k (e ∷ past) m
spins_on n k e past m a b h = (subst (λ (i : ℕ). i < m) (sym (phase_silent n e past a)) h.0, inr h.1, ((λ l. b), h.2))

-- a lock that is spun on after an event that is no call of the frame and begins no phase was spun on before
spins_back : (n : ℕ) (k : LockNo) (e : Event) (past : List Event) → renews n e.what ≡ false → (IsCallOf n e.what → ⊥) → IsSpinning n k (e ∷ past) →
    IsSpinning n k past
spins_back n k e past a b (m, (l, inl q, d)) = absurd (b (call_of n (Acquire k) Spin e.what q.1))
spins_back n k e past a b (m, (l, inr q, d)) = (m, (subst (λ (i : ℕ). i < m) (phase_silent n e past a) l, q, d.1))

-- a call of the frame is its last one
spins_now : (n : ℕ) (k : LockNo) (e : Event) (past : List Event) → IsCallOf n e.what → IsSpinning n k (e ∷ past) → IsSpin n k e.what
spins_now n k e past c (m, (l, inl q, d)) = q.1
spins_now n k e past c (m, (l, inr q, d)) = absurd (d.0 (at_before (λ e before. IsSpin n k e.what) m past q) c)

-- a phase that begins has no call yet
spins_never : (n : ℕ) (k : LockNo) (e : Event) (past : List Event) → length past ≤ phase_of n (e ∷ past) → IsSpinning n k (e ∷ past) → ⊥
spins_never n k e past p (m, (l, q, d)) = let a = at_before (λ e before. IsSpin n k e.what) m (e ∷ past) q in absurd (omega (arith, a, p, l))

-- ---- tries

-- if each call up to the end of the history spins on a lock, each call before any later event does
tries_all : (n : ℕ) (k : LockNo) (j m i : ℕ) (past : List Event) → length past ≤ m → EachSpins n k j m past → EachSpins n k j i past
tries_all n k j m i [] l h = tt
tries_all n k j m i (e ∷ past) l h = ((λ a b c. h.0 a (omega (arith, l)) c), tries_all n k j m i past (omega (arith, l)) h.1)

-- a last call that spins is one of the tries
tries_more : (n : ℕ) (k : LockNo) (j m i : ℕ) (past : List Event) → At (λ e before. IsSpin n k e.what) m past →
    EachAfter (λ e before. IsCallOf n e.what → ⊥) m past → EachSpins n k j m past → EachSpins n k j i past
tries_more n k j m i [] a d h = absurd a
tries_more n k j m i (e ∷ past) (inl a) d h = let q = a.0 in ((λ x y c. a.1), tries_all n k j m i past (omega (arith, q)) h.1)
tries_more n k j m i (e ∷ past) (inr a) d h = (
  (λ x y c. absurd (d.0 (at_before (λ e before. IsSpin n k e.what) m past a) c)),
  tries_more n k j m i past a d.1 h.1,
)

-- between an event and one that isn't later there is no call, so each spins on the lock
tries_none : (n : ℕ) (k : LockNo) (j m : ℕ) (past : List Event) → m ≤ j → EachSpins n k j m past
tries_none n k j m [] l = tt
tries_none n k j m (e ∷ past) l = ((λ a b c. absurd (omega (arith, a, b, l))), tries_none n k j m past l)

-- ---- a try for a lock

module _ (s : Script) (e : Event) (past : List Event) (f : Frame) (k : LockNo) (inner : innermost (frames_of s e.cpu past) ≡ Some f)
    (try : IsGet f.name k e.what ⊎ IsSpin f.name k e.what) (h : LocksToldOf s past f) where
  first_kept : f.spin ≡ None → IsKept s f.name k f.level (e ∷ past) (length past)
  first_kept q =
      (length past, omega arith, inl (refl, (try, not_yet, (f, inner, refl, refl))), tries_none f.name k (length past) (length past) (e ∷ past) (omega arith))
    where
      clash : (a : Held) → f.spin ≡ Some a → ⊥
      clash a z = cc

      not_yet : IsSpinning f.name k past → ⊥
      not_yet z = let w = h.spinning k z in clash w.0 w.1

  again_kept : (a : Held) → f.spin ≡ Some a → a.lock ≡ k → IsKept s f.name k a.kept (e ∷ past) (length past)
  again_kept a q same =
      let w = h.spins a q in
      let old = subst (λ (j : LockNo). SpinsSince f.name j past w.0 × IsKept s f.name j a.kept past w.0) same (w.1, w.2) in
      let l = old.1.1 in
      let b = at_before (λ e before. IsSpin f.name k e.what) w.0 past old.0.1 in (
        old.1.0,
        omega (arith, l, b),
        inr old.1.2,
        ((λ x y c. absurd (omega (arith, y))), tries_more f.name k old.1.0 w.0 (length past) past old.0.1 old.0.2 old.1.3),
      )

  -- with the lock for which it tries the frame keeps the level of just before the first try
  pub try_kept : ((a : Held) → f.spin ≡ Some a → a.lock ≡ k) → IsKept s f.name k (kept_in f) (e ∷ past) (length past)
  try_kept same = go f.spin refl
    where
      go : (o : Option Held) → f.spin ≡ o → IsKept s f.name k (option_map_or (λ a. a.kept) f.spin f.level) (e ∷ past) (length past)
      go None q =
          subst (λ (o : Option Held). IsKept s f.name k (option_map_or (λ a. a.kept) o f.level) (e ∷ past) (length past)) (sym q) (first_kept q)
      go (Some a) q =
          subst (λ (o : Option Held). IsKept s f.name k (option_map_or (λ a. a.kept) o f.level) (e ∷ past) (length past)) (sym q)
          (again_kept a q (same a q))

-- ---- calls

-- a lock that isn't there isn't some held lock
no_held : {A : Type 0} (h : Held) → ◌≡◌ {A = Option Held} None (Some h) → A
no_held h q = cc

-- two locks with the same number are the same lock
same_lock : (j k : LockNo) → (j.0 == k.0) ≡ true → j ≡ k
same_lock j k q = ap (λ (n : ℕ). record { 0 = n }) (eqb-true j.0 k.0 q)

-- the frame gets the lock
told_gets : (s : Script) (e : Event) (past : List Event) (n v : ℕ) (k : LockNo) (held : List Held) (spin : Option Held) → n < length past →
    e.what ≡ Call n (Acquire k) Done → IsKept s n k v (e ∷ past) (length past) → LocksTold s past n held spin →
    LocksTold s (e ∷ past) n (record { lock = k; kept = v } ∷ held) None
told_gets s e past n v k held spin l q kept h =
    record {
      holds = λ j. (λ z. held_holding s n (e ∷ past) (suc (length past)) j (record { lock = k; kept = v } ∷ held) all z, λ z. has j z);
      kept = all;
      spins = λ a z. no_held a z;
      spinning = λ j z. absurd (no_spin n j e.what (Gets k) (ap lock_move q) (λ z. differ j z) (spins_now n j e past (call_of n (Acquire k) Done e.what q) z));
    }
  where
    differ : (j : LockNo) → Spins j ≡ Gets k → ⊥
    differ j z = cc

    not_free : (j : LockNo) → Frees j ≡ Gets k → ⊥
    not_free j z = cc

    all : AreHeld s n (e ∷ past) (suc (length past)) (record { lock = k; kept = v } ∷ held)
    all = (
      length past,
      omega arith,
      (l, inl (refl, q), none_yet (λ e before. IsFreeing n k e.what → ⊥) (length past) e past (omega arith)),
      kept,
      held_on s n e past (length past) held (frees_none n e.what held (λ j. no_freeing n j e.what (Gets k) (ap lock_move q) (not_free j))) h.kept,
    )

    or_so : (a b : Bool) → b ≡ true → (a || b) ≡ true
    or_so true b z = refl
    or_so false b z = z

    has : (j : LockNo) → IsHolding n j (e ∷ past) → ((k.0 == j.0) || among j held) ≡ true
    has j (m, (a, inl z, d)) =
        let same : j ≡ k = gets_one j k (sym (ap lock_move z.1) ∙ ap lock_move q) in
        ap (λ (b : Bool). b || among j held) (eq-eqb k.0 j.0 (ap (λ (x : LockNo). x.0) (sym same)))
    has j (m, (a, inr z, d)) = or_so (k.0 == j.0) (among j held) ((h.holds j).1 (m, (a, z, d.1)))

-- it spins on the lock
told_spins : (s : Script) (e : Event) (past : List Event) (n v : ℕ) (k : LockNo) (held : List Held) (spin : Option Held) → n < length past →
    e.what ≡ Call n (Acquire k) Spin → IsKept s n k v (e ∷ past) (length past) → LocksTold s past n held spin →
    LocksTold s (e ∷ past) n held (Some (record { lock = k; kept = v }))
told_spins s e past n v k held spin l q kept h =
    record {
      holds = λ j. (
        λ z. held_holding s n (e ∷ past) (suc (length past)) j held all z,
        λ z. (h.holds j).1 (holds_back n j e past (no_get n j e.what (Spins k) (ap lock_move q) (not_get j)) z).0,
      );
      kept = all;
      spins = λ a z. subst (λ (x : Held). (m : ℕ) × SpinsSince n x.lock (e ∷ past) m × IsKept s n x.lock x.kept (e ∷ past) m) (one a z) now;
      spinning = λ j z. (
        record { lock = k; kept = v },
        refl,
        sym (spins_one j k (sym (ap lock_move (spins_now n j e past (call_of n (Acquire k) Spin e.what q) z))
            ∙ ap lock_move q)),
      );
    }
  where
    not_get : (j : LockNo) → Gets j ≡ Spins k → ⊥
    not_get j z = cc

    not_free : (j : LockNo) → Frees j ≡ Spins k → ⊥
    not_free j z = cc

    one : (a : Held) → ◌≡◌ {A = Option Held} (Some (record { lock = k; kept = v })) (Some a) → record { lock = k; kept = v } ≡ a
    one a z = cc

    all : AreHeld s n (e ∷ past) (suc (length past)) held
    all = held_later s n e past held (frees_none n e.what held (λ j. no_freeing n j e.what (Spins k) (ap lock_move q) (not_free j))) h.kept

    now : (m : ℕ) × SpinsSince n k (e ∷ past) m × IsKept s n k v (e ∷ past) m
    now =
        let p = phase_silent n e past (ap (renews n) q) in
        let b = phase_below n past l in (
          length past,
          (omega (arith, p, b), inl (refl, q), none_yet (λ e before. IsCallOf n e.what → ⊥) (length past) e past (omega arith)),
          kept,
        )

-- the locks but the one that the frame acquired last, by an event that frees that one
module _ (s : Script) (e : Event) (past : List Event) (n : ℕ) (k : LockNo) (held : List Held) (spin : Option Held) (q : lock_move e.what ≡ Frees k)
    (freeing : IsFreeing n k e.what) (first : option_map_or (λ a. a.lock.0 == k.0) (head_of held) false ≡ true) (differ : Distinct held)
    (h : LocksTold s past n held spin) where
  not_get_here : (j : LockNo) → IsGet n j e.what → ⊥
  not_get_here j z = no_get n j e.what (Frees k) q (λ z. clash z) z
    where
      clash : Gets j ≡ Frees k → ⊥
      clash z = cc

  apart : (hs : List Held) → among k hs ≡ false → FreesNone n e.what hs
  apart [] a = tt
  apart (x ∷ hs) a = go (x.lock.0 == k.0) refl a (λ z. apart hs z)
    where
      go : (b : Bool) → (x.lock.0 == k.0) ≡ b → (b || among k hs) ≡ false → (among k hs ≡ false → FreesNone n e.what hs) → FreesNone n e.what (x ∷ hs)
      go true b z ih = cc
      go false b z ih = (
        (λ w. both_ways (x.lock.0 == k.0) b (eq-eqb x.lock.0 k.0
            (ap (λ (j : LockNo). j.0) (frees_one x.lock k (sym (freeing_move n x.lock e.what w) ∙ q))))),
        ih z,
      )

  -- after the lock that a frame got last is freed, its other locks are still held as its events tell
  pub freed_all : AreHeld s n (e ∷ past) (suc (length past)) (tail_of held)
  freed_all = go held first differ h.kept
    where
      go : (hs : List Held) → option_map_or (λ a. a.lock.0 == k.0) (head_of hs) false ≡ true → Distinct hs → AreHeld s n past (length past) hs →
          AreHeld s n (e ∷ past) (suc (length past)) (tail_of hs)
      go [] z d a = cc
      go (x ∷ hs) z d a =
          let same = same_lock x.lock k z in
          let b = a.1 in
          held_below s n (e ∷ past) a.0 (suc (length past)) hs (omega (arith, b))
          (held_on s n e past a.0 hs (apart hs (subst (λ (j : LockNo). among j hs ≡ false) same d.0)) a.4)

  -- after the lock that a frame got last is freed, each lock that it holds is among the other ones
  pub freed_holds : (j : LockNo) → IsHolding n j (e ∷ past) → among j (tail_of held) ≡ true
  freed_holds j z =
      let b = holds_back n j e past (not_get_here j) z in go held first ((h.holds j).1 b.0) b.1
    where
      go : (hs : List Held) → option_map_or (λ a. a.lock.0 == k.0) (head_of hs) false ≡ true → among j hs ≡ true → (IsFreeing n j e.what → ⊥) →
          among j (tail_of hs) ≡ true
      go [] z a d = cc
      go (x ∷ hs) z a d = pick (x.lock.0 == j.0) refl a
        where
          pick : (b : Bool) → (x.lock.0 == j.0) ≡ b → (b || among j hs) ≡ true → among j hs ≡ true
          pick false b c = c
          pick true b c =
              let same : k ≡ j = sym (same_lock x.lock k z) ∙ same_lock x.lock j b in absurd (d (subst (λ (i : LockNo). IsFreeing n i e.what) same freeing))

  -- if what is told of the spin is so, all is told of a frame's locks after the one that it got last is freed
  pub freed_with : (o : Option Held) → ((a : Held) → o ≡ Some a → (m : ℕ) × SpinsSince n a.lock (e ∷ past) m × IsKept s n a.lock a.kept (e ∷ past) m) →
      ((j : LockNo) → IsSpinning n j (e ∷ past) → (a : Held) × (o ≡ Some a) × (a.lock ≡ j)) → LocksTold s (e ∷ past) n (tail_of held) o
  freed_with o a b =
      record {
        holds = λ j. (λ z. held_holding s n (e ∷ past) (suc (length past)) j (tail_of held) freed_all z, λ z. freed_holds j z);
        kept = freed_all;
        spins = a;
        spinning = b;
      }

-- an event that moves no lock of the frame and is its last call
told_quiet : (s : Script) (e : Event) (past : List Event) (n : ℕ) (held : List Held) (spin : Option Held) → lock_move e.what ≡ NoMove → IsCallOf n e.what →
    LocksTold s past n held spin → LocksTold s (e ∷ past) n held None
told_quiet s e past n held spin q c h =
    record {
      holds = λ j. (
        λ z. held_holding s n (e ∷ past) (suc (length past)) j held all z,
        λ z. (h.holds j).1 (holds_back n j e past (no_get n j e.what NoMove q (not_get j)) z).0,
      );
      kept = all;
      spins = λ a z. no_held a z;
      spinning = λ j z. absurd (no_spin n j e.what NoMove q (not_spin j) (spins_now n j e past c z));
    }
  where
    not_get : (j : LockNo) → Gets j ≡ NoMove → ⊥
    not_get j z = cc

    not_spin : (j : LockNo) → Spins j ≡ NoMove → ⊥
    not_spin j z = cc

    not_free : (j : LockNo) → Frees j ≡ NoMove → ⊥
    not_free j z = cc

    all : AreHeld s n (e ∷ past) (suc (length past)) held
    all = held_later s n e past held (frees_none n e.what held (λ j. no_freeing n j e.what NoMove q (not_free j))) h.kept

-- the command to acquire a lock names one lock only
command_one : (a b : LockNo) → ◌≡◌ {A = Option Command} (Some (Acquire a)) (Some (Acquire b)) → a ≡ b
command_one a b q = cc

-- case: the frame calls; its locks are still as its events tell after the call
told_called : (s : Script) (limit : ℕ) (e : Event) (past : List Event) (n : ℕ) (c : Command) (y : Reply) (due : Option ℕ) → IsRun s limit (e ∷ past) →
    (x : KnownCall s e.cpu (own_of s e.cpu past) (lanes_at s past) n c y) → e.what ≡ Call x.frame.name c y → x.frame.name < length past →
    LocksToldOf s past x.frame → LocksToldOf s (e ∷ past) (called due c y x.frame)
told_called s limit e past n (Acquire k) Done due r x q l h =
    told_gets s e past x.frame.name (kept_in x.frame) k x.frame.held x.frame.spin l q
    (try_kept s e past x.frame k x.goes_on.inner (inl q) h (λ a z. command_one a.lock k (sym (locked.retry a z).0 ∙ x.command))) h
  where
    locked : Locked s e.cpu x.frame
    locked = inner_locked s limit e.cpu past x.frame r.1 x.goes_on.inner
told_called s limit e past n (Acquire k) Spin due r x q l h =
    told_spins s e past x.frame.name (kept_in x.frame) k x.frame.held x.frame.spin l q
    (try_kept s e past x.frame k x.goes_on.inner (inr q) h (λ a z. command_one a.lock k (sym (locked.retry a z).0 ∙ x.command))) h
  where
    locked : Locked s e.cpu x.frame
    locked = inner_locked s limit e.cpu past x.frame r.1 x.goes_on.inner
told_called s limit e past n (Unlock k) Done due r x q l h =
    freed_with s e past x.frame.name k x.frame.held x.frame.spin (ap lock_move q) (inl q) last locked.differ h None (λ a z. no_held a z)
    (λ j z. absurd (no_spin x.frame.name j e.what (Frees k) (ap lock_move q) (λ w. clash j w)
    (spins_now x.frame.name j e past (call_of x.frame.name (Unlock k) Done e.what q) z)))
  where
    locked : Locked s e.cpu x.frame
    locked = inner_locked s limit e.cpu past x.frame r.1 x.goes_on.inner

    clash : (j : LockNo) → Spins j ≡ Frees k → ⊥
    clash j z = cc

    last : is_last k x.frame ≡ true
    last =
        not_false (is_last k x.frame) (refuse_none (not (is_last k x.frame)) NotLast None
        (next_test (nat_lt 2 (level_at (own_of s e.cpu past))) TooHigh _
        (call_accepted s e.cpu (own_of s e.cpu past) (lanes_at s past) n (Unlock k) Done x refl).0))
told_called s limit e past n c y due r x q l h = still refl
  where
    f : Frame
    f = x.frame

    still : call_move c y ≡ NoMove → LocksToldOf s (e ∷ past) (called due c y x.frame)
    still m =
        let all = told_quiet s e past x.frame.name x.frame.held x.frame.spin (ap lock_move q ∙ m) (call_of x.frame.name c y e.what q) h in
        subst (λ (i : ℕ). LocksTold s (e ∷ past) i (called due c y x.frame).held (called due c y x.frame).spin) (sym ((keep_called due c y).name x.frame))
        (subst (λ (v : LockMove). LocksTold s (e ∷ past) x.frame.name (held_moved v x.frame) (spin_moved v x.frame)) (sym m) all)

-- ---- other events

-- case: a lock of the frame is freed once its routine ended; its other locks are still as its events tell
told_freed : (s : Script) (limit : ℕ) (e : Event) (past : List Event) (n : ℕ) (k : LockNo) → IsRun s limit (e ∷ past) →
    (x : KnownFree s e.cpu (own_of s e.cpu past) n k) → e.what ≡ Free x.frame.name k → LocksToldOf s past x.frame → LocksToldOf s (e ∷ past) (freed x.frame)
told_freed s limit e past n k r x q h =
    freed_with s e past x.frame.name k x.frame.held x.frame.spin (ap lock_move q) (inr q) first locked.differ h x.frame.spin
    (λ a z. let w = h.spins a z in (
      w.0,
      spins_on x.frame.name a.lock e past w.0 (ap (renews x.frame.name) q) (free_no_call x.frame.name x.frame.name k e.what q) w.1,
      kept_on s x.frame.name a.lock a.kept e past w.0 (at_before (λ e before. IsSpin x.frame.name a.lock e.what) w.0 past w.1.1) w.2,
    ))
    (λ j z. h.spinning j (spins_back x.frame.name j e past (ap (renews x.frame.name) q) (free_no_call x.frame.name x.frame.name k e.what q) z))
  where
    locked : Locked s e.cpu x.frame
    locked = inner_locked s limit e.cpu past x.frame r.1 x.goes_on.inner

    first : option_map_or (λ a. a.lock.0 == k.0) (head_of x.frame.held) false ≡ true
    first =
        ap (λ (o : Option Held). option_map_or (λ a. a.lock.0 == k.0) o false) x.last
        ∙ eq-eqb x.held.lock.0 k.0 (ap (λ (j : LockNo). j.0) (sym x.lock))

-- an event that isn't the frame's, and doesn't begin its phase anew
told_aside : (s : Script) (e : Event) (past : List Event) (n : ℕ) (held : List Held) (spin : Option Held) → renews n e.what ≡ false →
    (IsCallOf n e.what → ⊥) → ((k : LockNo) → IsFreeing n k e.what → ⊥) → LocksTold s past n held spin → LocksTold s (e ∷ past) n held spin
told_aside s e past n held spin a b d h =
    record {
      holds = λ j. (λ z. held_holding s n (e ∷ past) (suc (length past)) j held all z, λ z. (h.holds j).1 (holds_back n j e past (not_get j) z).0);
      kept = all;
      spins = λ x z. let w = h.spins x z in (
        w.0,
        spins_on n x.lock e past w.0 a b w.1,
        kept_on s n x.lock x.kept e past w.0 (at_before (λ e before. IsSpin n x.lock e.what) w.0 past w.1.1) w.2,
      );
      spinning = λ j z. h.spinning j (spins_back n j e past a b z);
    }
  where
    not_get : (j : LockNo) → IsGet n j e.what → ⊥
    not_get j z = b (call_of n (Acquire j) Done e.what z)

    all : AreHeld s n (e ∷ past) (suc (length past)) held
    all = held_later s n e past held (frees_none n e.what held d) h.kept

-- an event by which the phase begins anew
told_anew : (s : Script) (e : Event) (past : List Event) (n : ℕ) (held : List Held) (spin : Option Held) → length past ≤ phase_of n (e ∷ past) →
    (IsCallOf n e.what → ⊥) → ((k : LockNo) → IsFreeing n k e.what → ⊥) → LocksTold s past n held spin → LocksTold s (e ∷ past) n held None
told_anew s e past n held spin p b d h =
    record {
      holds = λ j. (λ z. held_holding s n (e ∷ past) (suc (length past)) j held all z, λ z. (h.holds j).1 (holds_back n j e past (not_get j) z).0);
      kept = all;
      spins = λ x z. no_held x z;
      spinning = λ j z. absurd (spins_never n j e past p z);
    }
  where
    not_get : (j : LockNo) → IsGet n j e.what → ⊥
    not_get j z = b (call_of n (Acquire j) Done e.what z)

    all : AreHeld s n (e ∷ past) (suc (length past)) held
    all = held_later s n e past held (frees_none n e.what held d) h.kept

-- case: the frame is new; it holds no lock and spins on none
told_new : (s : Script) (e : Event) (past : List Event) → LocksTold s (e ∷ past) (length past) [] None
told_new s e past =
    let p = phase_new (length past) (e ∷ past) (omega arith) in
    record {
      holds = λ j. (λ z. no_bool z, λ z. absurd (later j z));
      kept = tt;
      spins = λ a z. no_held a z;
      spinning = λ j z. absurd (spins_never (length past) j e past (omega (arith, p)) z);
    }
  where
    no_bool : {A : Type 0} → false ≡ true → A
    no_bool z = cc

    later : (j : LockNo) → IsHolding (length past) j (e ∷ past) → ⊥
    later j (m, (l, a, d)) = let b = at_before (λ e before. IsGet (length past) j e.what) m (e ∷ past) a in absurd (omega (arith, l, b))

-- an event equal to one that is no call of a frame is no call of it
quiet_call : (n : ℕ) (w v : What) → w ≡ v → (IsCallOf n v → ⊥) → IsCallOf n w → ⊥
quiet_call n w v q a h = a (subst (IsCallOf n) q h)

-- an event equal to one that frees no lock of a frame frees none
quiet_freeing : (n : ℕ) (w v : What) → w ≡ v → ((k : LockNo) → IsFreeing n k v → ⊥) → (k : LockNo) → IsFreeing n k w → ⊥
quiet_freeing n w v q a k h = a k (subst (IsFreeing n k) q h)

-- a Rewait frees no lock
no_rewait : (n m : ℕ) (y : Reply) (k : LockNo) → IsFreeing n k (Rewait m y) → ⊥
no_rewait n m y k (inl q) = cc
no_rewait n m y k (inr q) = cc

-- a Normal frees no lock
no_normal : (n m : ℕ) (k : LockNo) → IsFreeing n k (Normal m) → ⊥
no_normal n m k (inl q) = cc
no_normal n m k (inr q) = cc

-- an End frees no lock
no_end : (n m : ℕ) (k : LockNo) → IsFreeing n k (End m) → ⊥
no_end n m k (inl q) = cc
no_end n m k (inr q) = cc

-- a Switch frees no lock
no_switch : (n : ℕ) (t : ThreadNo) (st : Option ℕ) (k : LockNo) → IsFreeing n k (Switch t st) → ⊥
no_switch n t st k (inl q) = cc
no_switch n t st k (inr q) = cc

-- case: the frame is resumed; its locks are still as its events tell
told_resumed : (s : Script) (past : List Event) (st : Option ℕ) (f : Frame) → LocksToldOf s past f → LocksToldOf s past (resumed st f)
told_resumed s past None f h = h
told_resumed s past (Some x) f h = h

-- ---- each open frame

-- each event of a run keeps the locks of its frame as the events tell
locks_follow : (s : Script) (limit : ℕ) → Follows s limit (LocksToldOf s)
locks_follow s limit =
    record {
      begun = λ e past b n. told_new s e past;
      aside = λ e past f l a h. told_aside s e past f.name f.held f.spin (silent f.name e.what a).0 (no_call f.name e.what a)
          (λ k. aside_freeing f.name k e.what a) h;
      called = λ e past n c y r x q l h. told_called s limit e past n c y (due_of e.what (time past)) r x
          (q ∙ ap (λ (n : ℕ). Call n c y) x.name) l h;
      freed = λ e past n c r x q l h. told_freed s limit e past n c r x (q ∙ ap (λ (n : ℕ). Free n c) x.name) h;
      rewaited = λ e past y f q l h. told_aside s e past f.name f.held f.spin (ap (renews f.name) q)
          (quiet_call f.name e.what (Rewait f.name y) q (λ z. z)) (quiet_freeing f.name e.what (Rewait f.name y) q (λ k. no_rewait f.name f.name y k)) h;
      normal = λ e past f q n l h. let p = phase_anew f.name e past l (normal_anew f.name e.what q) in
          told_anew s e past f.name f.held f.spin (omega (arith, p)) (quiet_call f.name e.what (Normal f.name) q (λ z. z))
          (quiet_freeing f.name e.what (Normal f.name) q (λ k. no_normal f.name f.name k)) h;
      left = λ e past f q b l h. let p = phase_anew f.name e past l (end_anew f.name e.what q) in
          told_anew s e past f.name f.held f.spin (omega (arith, p)) (quiet_call f.name e.what (End f.name) q (λ z. z))
          (quiet_freeing f.name e.what (End f.name) q (λ k. no_end f.name f.name k)) h;
      resumed = λ e past t st f q l h. told_resumed s (e ∷ past) st f (told_aside s e past f.name f.held f.spin (ap (renews f.name) q)
          (quiet_call f.name e.what (Switch t st) q (λ z. z)) (quiet_freeing f.name e.what (Switch t st) q (λ k. no_switch f.name t st k)) h);
    }

-- in a run each open frame holds the locks, and spins on the lock, that its events tell
pub locks_told : (s : Script) (limit : ℕ) (past : List Event) → IsRun s limit past → EachLocksTold s past
locks_told s limit past r =
    record {
      own = λ p. each_own s limit (LocksToldOf s) (locks_follow s limit) p past r;
      threads = λ t. each_part s limit (LocksToldOf s) (locks_follow s limit) t past r;
    }

-- the innermost frame too
pub inner_told : (s : Script) (limit : ℕ) (q : CpuNo) (past : List Event) (f : Frame) → IsRun s limit past → innermost (frames_of s q past) ≡ Some f →
    LocksToldOf s past f
inner_told s limit q past f r h =
    let told = locks_told s limit past r in inner_has s limit q past (LocksToldOf s past) f r (λ p. told.own p) (λ t. told.threads t) h

-- with the lock that it acquired last the frame keeps the level that its events tell
pub last_kept : (s : Script) (past : List Event) (n : ℕ) (held : List Held) (spin : Option Held) (k : LockNo) (level : ℕ) → LocksTold s past n held spin →
    option_map_or (λ a. a.lock.0 == k.0) (head_of held) false ≡ true → IsKeptWith s n k (option_map_or (λ a. a.kept) (head_of held) level) past
last_kept s past n held spin k level h q = go held q h.kept
  where
    go : (hs : List Held) → option_map_or (λ a. a.lock.0 == k.0) (head_of hs) false ≡ true → AreHeld s n past (length past) hs →
        IsKeptWith s n k (option_map_or (λ a. a.kept) (head_of hs) level) past
    go [] z a = cc
    go (x ∷ hs) z a = subst (λ (j : LockNo). IsKeptWith s n j x.kept past) (same_lock x.lock k z) (a.0, a.2, a.3)
