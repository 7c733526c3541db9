-- What an event leaves of the last wait event of a frame and of its outcome.
use Rattle.nt_event.specs.Replies.{kernel_apc}
use Rattle.nt_event.specs.declared.commands.Reply.TheVariants.{Blocked}
use Rattle.nt_event.specs.declared.events.Event.{Event}
use Rattle.nt_event.specs.declared.events.What.{What}
use Rattle.nt_event.specs.declared.events.What.TheVariants.{Call, Rewait}
use Rattle.nt_event.specs.declared.numbers.ThreadNo.{ThreadNo}
use Rattle.nt_event.specs.declared.scripts.Script.{Script}
use Rattle.nt_readings.proofs.Frames.{at_both}
use Rattle.nt_readings.proofs.Served.{none_after}
use Rattle.nt_readings.specs.Positions.{At, EachAfter}
use Rattle.nt_runs.proofs.Rundown.Run.{before}
use Rattle.nt_reader_laws.proofs.SetAndKept.{at_below}
use Rattle.nt_reader_laws.specs.Again.{IsInterrupted, IsLastWaitEvent, IsOutcome, carried, renews_by, wait_blocks, wait_status, waits_by}
use Rattle.nt_reader_laws.specs.Waits.{takes_up}
use Rattle.std.proofs.Common.{ap, arith, inl, inr, refl, subst, sym, ◌∙◌}
use Rattle.std.proofs.lemmas.Bool.{eq-eqb, eqb-true, ltb-false, ltb-true}
use Rattle.std.specs.Prelude.{Bool, List, Some, [], false, length, nat_lt, true, ℕ, ◌<◌, ◌==◌, ◌↔◌, ◌∷◌, ◌≡◌, ◌≤◌, ◌⊎◌}

-- a flag that is both true and false gives anything
both_ways : {A : Type 0} (b : Bool) → b ≡ true → b ≡ false → A
both_ways true h k = cc
both_ways false h k = cc

-- two facts at one place
at_meet : (P Q : Event → List Event → Type 0) (n : ℕ) (past : List Event) → At P n past → At Q n past →
    ((e : Event) (before : List Event) → P e before → Q e before → ⊥) → ⊥
at_meet P Q n past h k never = at_both P Q n past h k never

-- a fact after a place and one at a later place
after_meet : (P Q : Event → List Event → Type 0) (k m : ℕ) (past : List Event) → EachAfter P k past → At Q m past → k < m →
    ((e : Event) (before : List Event) → P e before → Q e before → ⊥) → ⊥
after_meet P Q k m [] h a l never = a
after_meet P Q k m (e ∷ past) h (inl a) l never = let z = a.0 in never e past (h.0 (omega (arith, z, l))) a.1
after_meet P Q k m (e ∷ past) h (inr a) l never = after_meet P Q k m past h.1 a l never

-- what is said of the event at a place of before does not change with one event more
at_old : (P : Event → List Event → Type 0) (k : ℕ) (e : Event) (past : List Event) → k < length past → At P k (e ∷ past) → At P k past
at_old P k e past l (inl a) = absurd (let z = a.0 in omega (arith, z, l))
at_old P k e past l (inr a) = a

-- what is said of the event at the newest place is said of the newest event
at_new : (P : Event → List Event → Type 0) (k : ℕ) (e : Event) (past : List Event) → length past ≤ k → At P k (e ∷ past) → P e past
at_new P k e past l (inl a) = a.1
at_new P k e past l (inr a) = absurd (let z = at_below P k past a in omega (arith, z, l))

abbrev pub Blocking : Event → List Event → Type 0
Blocking e before = wait_blocks e.what ≡ true

abbrev pub NotTaken : Script → ThreadNo → Event → List Event → Type 0
NotTaken s t e before = takes_up s t e ≡ false

-- the last wait event blocked, and the thread wasn't taken up since
abbrev pub IsOpen : Script → ThreadNo → ℕ → ℕ → List Event → Type 0
IsOpen s t n k past = IsLastWaitEvent s t n k past × At Blocking k past × EachAfter (NotTaken s t) k past

-- of a frame that went on: it has a wait to take up exactly where it was interrupted, and its last wait isn't open
abbrev pub Tells : Script → ThreadNo → ℕ → Bool → List Event → Type 0
Tells s t n b past = ((b ≡ true) ↔ IsInterrupted s t n past) × ((k : ℕ) → IsOpen s t n k past → ⊥)

-- of a frame that stopped in a wait
abbrev pub Stopped : Script → ThreadNo → ℕ → Bool → List Event → Type 0
Stopped s t n b past = (b ≡ true) × ((k : ℕ) × IsOpen s t n k past)

-- ---- the last wait event

module _ (s : Script) (t : ThreadNo) (n : ℕ) (e : Event) (past : List Event) where
  last_old : (k : ℕ) → waits_by s t n e ≡ false → IsLastWaitEvent s t n k (e ∷ past) → IsLastWaitEvent s t n k past
  last_old k w (l, inl a, h) = both_ways (waits_by s t n e) a.1 w
  last_old k w (l, inr a, h) = (l, a, h.1)

  last_more : (k : ℕ) → waits_by s t n e ≡ false → renews_by s t n e ≡ false → IsLastWaitEvent s t n k past → IsLastWaitEvent s t n k (e ∷ past)
  last_more k w r h = (h.0, inr h.1, ((λ l. (w, r)), h.2))

  below_last : (k : ℕ) → IsLastWaitEvent s t n k past → k < length past
  below_last k h = at_below (λ e before. waits_by s t n e ≡ true) k past h.1

  outcome_more : (k st : ℕ) → IsOutcome s t k st past → IsOutcome s t k st (e ∷ past)
  outcome_more k st (inl a) = inl (inr a)
  outcome_more k st (inr a) = inr (inr a.0, (a.1.0, a.1.1, inr a.1.2))

  -- the outcome is told already, or the event is the first that takes the thread up
  outcome_old : (k st : ℕ) → k < length past → IsOutcome s t k st (e ∷ past) → IsOutcome s t k st past ⊎
      (At Blocking k past × EachAfter (NotTaken s t) k past × (takes_up s t e ≡ true) × (carried e.what ≡ Some st))
  outcome_old k st l (inl a) = inl (inl (at_old (λ e before. wait_status e.what ≡ Some st) k e past l a))
  outcome_old k st l (inr (b, (m, h, inl a))) =
      inr (at_old Blocking k e past l b, a.1.2, a.1.0, a.1.1)
  outcome_old k st l (inr (b, (m, h, inr a))) = inl (inr (at_old Blocking k e past l b, (m, h, a)))

  -- an event that is no wait event of the frame and doesn't begin it anew
  pub tells_on : (b : Bool) → waits_by s t n e ≡ false → renews_by s t n e ≡ false → Tells s t n b past → Tells s t n b (e ∷ past)
  tells_on b w r h =
      ((λ q. more (h.0.0 q), λ q. h.0.1 (less q)), λ k o. h.1 k (last_old k w o.0, at_old Blocking k e past (below_last k (last_old k w o.0)) o.1, o.2.1))
    where
      more : IsInterrupted s t n past → IsInterrupted s t n (e ∷ past)
      more (k, last, out) = (k, last_more k w r last, outcome_more k kernel_apc out)

      less : IsInterrupted s t n (e ∷ past) → IsInterrupted s t n past
      less (k, last, out) = go (outcome_old k kernel_apc (below_last k (last_old k w last)) out)
        where
          go : IsOutcome s t k kernel_apc past ⊎
              (At Blocking k past × EachAfter (NotTaken s t) k past × (takes_up s t e ≡ true) × (carried e.what ≡ Some kernel_apc)) →
              IsInterrupted s t n past
          go (inl o) = (k, last_old k w last, o)
          go (inr o) = absurd (h.1 k (last_old k w last, o.0, o.1))

  -- a frame stopped in a wait stays so if no wait event, new phase or Switch of its thread comes
  pub stopped_on : (b : Bool) → waits_by s t n e ≡ false → renews_by s t n e ≡ false → takes_up s t e ≡ false → Stopped s t n b past →
      Stopped s t n b (e ∷ past)
  stopped_on b w r f (q, (k, o)) = (q, (k, (last_more k w r o.0, inr o.1, ((λ l. f), o.2))))

  -- the thread is taken up with this status
  pub tells_taken : (b : Bool) (st : ℕ) → waits_by s t n e ≡ false → renews_by s t n e ≡ false → takes_up s t e ≡ true → carried e.what ≡ Some st →
      Stopped s t n b past → Tells s t n (st == kernel_apc) (e ∷ past)
  tells_taken b st w r f c (q, (k, o)) = ((λ z. forth z, back), λ m p. both_ways (takes_up s t e) f (p.2.0 (below_last m (last_old m w p.0))))
    where
      forth : (st == kernel_apc) ≡ true → IsInterrupted s t n (e ∷ past)
      forth z =
          let same : st ≡ kernel_apc = eqb-true st kernel_apc z in
          (k, last_more k w r o.0, inr (inr o.1, (length past, below_last k o.0, inl (refl, (f, c ∙ ap (λ (v : ℕ). Some v) same, o.2)))))

      same_last : (m : ℕ) → IsLastWaitEvent s t n m past → m ≡ k
      same_last m h = go (nat_lt m k) (nat_lt k m) refl refl
        where
          clash : (a c : ℕ) → IsLastWaitEvent s t n a past → IsLastWaitEvent s t n c past → a < c → ⊥
          clash a c x y l =
              after_meet (λ e before. (waits_by s t n e ≡ false) × (renews_by s t n e ≡ false)) (λ e before. waits_by s t n e ≡ true) a c past x.2 y.1 l
              (λ e before u v. both_ways (waits_by s t n e) v u.0)

          go : (a c : Bool) → nat_lt m k ≡ a → nat_lt k m ≡ c → m ≡ k
          go true c u v = absurd (clash m k h o.0 (ltb-true m k u))
          go false true u v = absurd (clash k m o.0 h (ltb-true k m v))
          go false false u v = let x = ltb-false m k u in let y = ltb-false k m v in omega (arith, x, y)

      back : IsInterrupted s t n (e ∷ past) → (st == kernel_apc) ≡ true
      back (m, last, out) =
          let old = last_old m w last in
          let same : m ≡ k = same_last m old in
          go (outcome_old m kernel_apc (below_last m old) out) same
        where
          blocked_answers : (v : What) → wait_blocks v ≡ true → wait_status v ≡ Some kernel_apc → ⊥
          blocked_answers (Call g d Blocked) x y = cc
          blocked_answers (Rewait g Blocked) x y = cc
          blocked_answers v x y = cc

          go : IsOutcome s t m kernel_apc past ⊎
              (At Blocking m past × EachAfter (NotTaken s t) m past × (takes_up s t e ≡ true) × (carried e.what ≡ Some kernel_apc)) →
              m ≡ k →
              (st == kernel_apc) ≡ true
          go (inl (inl a)) i =
              absurd (at_meet (λ e before. wait_blocks e.what ≡ true) (λ e before. wait_status e.what ≡ Some kernel_apc) k past o.1
              (subst (λ (v : ℕ). At (λ e before. wait_status e.what ≡ Some kernel_apc) v past) i a) (λ e before u v. blocked_answers e.what u v))
          go (inl (inr a)) i =
              let j = a.1.1 in
              absurd (after_meet (NotTaken s t) (λ e before. (takes_up s t e ≡ true) × (carried e.what ≡ Some kernel_apc) × EachAfter (NotTaken s t) m before) k
              a.1.0 past o.2
              a.1.2 (omega (arith, i, j)) (λ e before u v. both_ways (takes_up s t e) v.0 u))
          go (inr a) i =
              let z : Some st ≡ Some kernel_apc = sym c ∙ a.3 in
              let same : st ≡ kernel_apc = cc in
              eq-eqb st kernel_apc same

  -- a wait event of the frame
  pub tells_answered : (st : ℕ) → n < length past → waits_by s t n e ≡ true → wait_status e.what ≡ Some st → wait_blocks e.what ≡ false →
      Tells s t n (st == kernel_apc) (e ∷ past)
  tells_answered st l w a f = ((forth, back), λ m p. both_ways (wait_blocks e.what) (at_new Blocking m e past (newest m p.0) p.1) f)
    where
      newest : (m : ℕ) → IsLastWaitEvent s t n m (e ∷ past) → length past ≤ m
      newest m (x, inl y, z) = let i = y.0 in omega (arith, i)
      newest m (x, inr y, z) =
          both_ways (waits_by s t n e) w (z.0 (at_below (λ e before. waits_by s t n e ≡ true) m past y)).0

      forth : (st == kernel_apc) ≡ true → IsInterrupted s t n (e ∷ past)
      forth z = (
        length past,
        (
          l,
          inl (refl, w),
          (
            (λ k. absurd (omega (arith, k))),
            none_after (λ e before. (waits_by s t n e ≡ false) × (renews_by s t n e ≡ false)) (length past) past (omega arith),
          ),
        ),
        inl (inl (refl, a ∙ ap (λ (v : ℕ). Some v) (eqb-true st kernel_apc z))),
      )

      back : IsInterrupted s t n (e ∷ past) → (st == kernel_apc) ≡ true
      back (m, last, inl o) =
          let z : Some st ≡ Some kernel_apc = sym a ∙ at_new (λ e before. wait_status e.what ≡ Some kernel_apc) m e past (newest m last) o in
          let same : st ≡ kernel_apc = cc in
          eq-eqb st kernel_apc same
      back (m, last, inr o) = both_ways (wait_blocks e.what) (at_new Blocking m e past (newest m last) o.0) f

  -- a frame whose wait event blocks is stopped in that wait
  pub stopped_now : n < length past → waits_by s t n e ≡ true → wait_blocks e.what ≡ true → Stopped s t n true (e ∷ past)
  stopped_now l w f = (
    refl,
    (
      length past,
      (
        (
          l,
          inl (refl, w),
          (
            (λ k. absurd (omega (arith, k))),
            none_after (λ e before. (waits_by s t n e ≡ false) × (renews_by s t n e ≡ false)) (length past) past (omega arith),
          ),
        ),
        inl (refl, f),
        ((λ k. absurd (omega (arith, k))), none_after (NotTaken s t) (length past) past (omega arith)),
      ),
    ),
  )

  -- the frame begins its phase anew
  pub tells_anew : n < length past → waits_by s t n e ≡ false → renews_by s t n e ≡ true → Tells s t n false (e ∷ past)
  tells_anew l w r = (((λ z. absurd (no z)), λ q. absurd (none q.0 q.1)), λ k o. none k o.0)
    where
      no : false ≡ true → ⊥
      no z = cc

      none : (k : ℕ) → IsLastWaitEvent s t n k (e ∷ past) → ⊥
      none k (x, inl y, z) = both_ways (waits_by s t n e) y.1 w
      none k (x, inr y, z) = both_ways (renews_by s t n e) r (z.0 (at_below (λ e before. waits_by s t n e ≡ true) k past y)).1

-- a frame that the newest event began
pub tells_new : (s : Script) (t : ThreadNo) (e : Event) (past : List Event) → Tells s t (length past) false (e ∷ past)
tells_new s t e past = (((λ z. absurd (no z)), λ q. absurd (none q.0 q.1)), λ k o. none k o.0)
  where
    no : false ≡ true → ⊥
    no z = cc

    none : (k : ℕ) → IsLastWaitEvent s t (length past) k (e ∷ past) → ⊥
    none k h =
        let a = h.0 in
        let b = at_below (λ f before. waits_by s t (length past) f ≡ true) k (e ∷ past) h.1 in
        omega (arith, a, b)
