-- In a run an APC object has at most one pending insert.
use Rattle.std.proofs.Common.{ap, arith, inl, inr, subst, sym, ◌∙◌}
use Rattle.std.proofs.lemmas.Bool.{eq-eqb, eqb-true}
use Rattle.std.specs.List.{Contains, list_any}
use Rattle.std.specs.Prelude.{Bool, List, [], cond, false, filter, if◌then◌else◌, length, not, refl, true, ℕ, ◌==◌, ◌||◌, ◌∷◌, ◌≡◌, ◌≤◌}
use Rattle.nt_event.specs.declared.commands.Command.TheVariants.{InsertApc, RemoveApc}
use Rattle.nt_event.specs.declared.commands.Reply.TheVariants.{Yes}
use Rattle.nt_event.specs.declared.events.Begun.TheVariants.{Apc}
use Rattle.nt_event.specs.declared.events.Event.{Event}
use Rattle.nt_event.specs.declared.events.What.{What}
use Rattle.nt_event.specs.declared.events.What.TheVariants.{Begin, Call, Flush}
use Rattle.nt_event.specs.declared.inserts.Pick.{Pick}
use Rattle.nt_event.specs.declared.numbers.ApcNo.{ApcNo}
use Rattle.nt_event.specs.declared.numbers.ThreadNo.{ThreadNo}
use Rattle.nt_event.specs.declared.scripts.Script.{Script}
use Rattle.nt_event.specs.Apcs.{is_inserted, is_of_apc, takes}
use Rattle.nt_event.specs.Lanes.{facts_at, lanes_at}
use Rattle.nt_event.specs.Own.{own_of}
use Rattle.nt_event.specs.Routines.{owner_of}
use Rattle.nt_event.specs.Script.{has_thread}
use Rattle.nt_event.specs.Step.{IsRun}
use Rattle.nt_event.specs.Threads.{ThreadFacts}
use Rattle.nt_event.specs.Waits.{facts, is_of_thread, new_pick}
use Rattle.nt_runs.proofs.Known.{Known, legal_known}
use Rattle.nt_event.proofs.Options.{both, not_true}
use Rattle.nt_runs.proofs.Stops.{call_accepted}
use Rattle.nt_runs.proofs.Turns.{is_next}
use Rattle.nt_laws.specs.Fates.{ApcIsPending}
use Rattle.nt_event.proofs.Elements.{contains_cases, contains_kept, contains_none}
use Rattle.nt_laws.proofs.Fates.Picks.{made_picks, named_picks, owners_fit, picks_move, without_pick}
use Rattle.nt_runs.proofs.Pending.{yes_if_true}
use Rattle.nt_runs.proofs.Rundown.Steps.{facts_there}

-- ---- lists

-- a pick put before two lists under the same test keeps the first list no longer than the second
cons_both : (c : Bool) (y : Pick) (xs ys : List Pick) → length xs ≤ length ys → length (cond c (y ∷ xs) xs) ≤ length (cond c (y ∷ ys) ys)
cons_both true y xs ys h = omega (arith, h)
cons_both false y xs ys h = h

-- a list no longer than another is no longer than that one with a pick put before it under a test
cons_longer : (c : Bool) (y : Pick) (xs ys : List Pick) → length xs ≤ length ys → length xs ≤ length (cond c (y ∷ ys) ys)
cons_longer true y xs ys h = omega (arith, h)
cons_longer false y xs ys h = h

-- a test leaves no more elements of another one
shorter : (p q : Pick → Bool) (xs : List Pick) → length (filter p (filter q xs)) ≤ length (filter p xs)
shorter p q [] = omega arith
shorter p q (y ∷ ys) = go (q y) (shorter p q ys)
  where
    go : (b : Bool) → length (filter p (filter q ys)) ≤ length (filter p ys) →
        length (filter p (cond b (y ∷ filter q ys) (filter q ys))) ≤ length (filter p (y ∷ ys))
    go true h = cons_both (p y) y (filter p (filter q ys)) (filter p ys) h
    go false h = cons_longer (p y) y (filter p (filter q ys)) (filter p ys) h

-- a filter by a test that no pick of the list passes leaves nothing
none_kept : (p : Pick → Bool) (xs : List Pick) → list_any p xs ≡ false → filter p xs ≡ []
none_kept p [] h = refl
none_kept p (y ∷ ys) h = go (p y) h (λ k. none_kept p ys k)
  where
    go : (b : Bool) → (b || list_any p ys) ≡ false → (list_any p ys ≡ false → filter p ys ≡ []) → cond b (y ∷ filter p ys) (filter p ys) ≡ []
    go true k ih = cc
    go false k ih = ih k

-- two elements of a list of at most one element are equal
only_one : (xs : List Pick) (x y : Pick) → length xs ≤ 1 → Contains xs x → Contains xs y → x ≡ y
only_one [] x y l h k = contains_none x h
only_one (z ∷ []) x y l h k =
    elim (contains_cases z [] x h) [
      | inr absent ↦ contains_none x absent
      | inl a ↦ elim (contains_cases z [] y k) [
        | inr absent ↦ contains_none y absent
        | inl b ↦ sym a ∙ b
      ]
    ]
only_one (z ∷ (w ∷ zs)) x y l h k = absurd (omega (arith, l))

-- ---- an event leaves at most one

abbrev pub count_of : ApcNo → List Pick → ℕ
count_of a xs = length (filter (is_of_apc a) xs)

-- an APC pending at most once is so after what its own thread makes
made_once : (a : ApcNo) (w : What) (xs : List Pick) → count_of a xs ≤ 1 → count_of a (made_picks w xs) ≤ 1
made_once a (Begin (Apc b) from) xs h = let k = shorter (is_of_apc a) (λ x. not (is_of_apc b x)) xs in omega (arith, h, k)
made_once a (Flush b from) xs h = let k = shorter (is_of_apc a) (λ x. not (is_of_apc b x)) xs in omega (arith, h, k)
made_once a w xs h = h

-- a choice between two lists that each have an APC at most once has it at most once
if_once : (a : ApcNo) (m : Bool) (xs ys : List Pick) → count_of a xs ≤ 1 → count_of a ys ≤ 1 → count_of a (if m then xs else ys) ≤ 1
if_once a true xs ys h k = h
if_once a false xs ys h k = k

-- a new pick leaves an APC at most once among the picks if that APC was not pending when inserted
put_once : (s : Script) (a b : ApcNo) (n : ℕ) (xs : List Pick) → count_of a xs ≤ 1 → (b.0 ≡ a.0 → list_any (is_of_apc a) xs ≡ false) →
    count_of a (new_pick s b n ∷ xs) ≤ 1
put_once s a b n xs h new = go (b.0 == a.0) refl
  where
    go : (c : Bool) → (b.0 == a.0) ≡ c → length (cond c (new_pick s b n ∷ filter (is_of_apc a) xs) (filter (is_of_apc a) xs)) ≤ 1
    go true e = let k = ap (λ (xs : List Pick). length xs) (none_kept (is_of_apc a) xs (new (eqb-true b.0 a.0 e))) in omega (arith, k)
    go false e = h

-- an APC pending at most once is so after what is done to its thread, if accepted inserts found none
named_once : (s : Script) (a : ApcNo) (t : ThreadNo) (n : ℕ) (w : What) (xs : List Pick) → count_of a xs ≤ 1 →
    ((f : ℕ) (b : ApcNo) → w ≡ Call f (InsertApc b) Yes → b.0 ≡ a.0 → list_any (is_of_apc a) xs ≡ false) → count_of a (named_picks s t n w xs) ≤ 1
named_once s a t n (Call f (InsertApc b) Yes) xs h new =
    if_once a ((owner_of s b).0 == t.0) (new_pick s b n ∷ xs) xs (put_once s a b n xs h (new f b refl)) h
named_once s a t n (Call f (RemoveApc b) Yes) xs h new =
    let k = shorter (is_of_apc a) (λ x. not (is_of_apc b x)) xs in
    if_once a ((owner_of s b).0 == t.0) (without_pick b xs) xs (omega (arith, h, k)) h
named_once s a t n w xs h new = h

-- an APC whose insert is answered by yes wasn't inserted
was_out : (s : Script) (limit : ℕ) (a b : ApcNo) (e : Event) (past : List Event) (f : ℕ) → IsRun s limit (e ∷ past) → has_thread s (owner_of s a) ≡ true →
    e.what ≡ Call f (InsertApc b) Yes → b.0 ≡ a.0 → list_any (is_of_apc a) (facts s (owner_of s a) past).apcs.pending ≡ false
was_out s limit a b e past f r has k same =
    let known : Known s e.cpu (own_of s e.cpu past) (lanes_at s past) (Call f (InsertApc b) Yes) = subst
    (Known s e.cpu (own_of s e.cpu past) (lanes_at s past)) k (legal_known s limit e past r.0 (ap is_next k)) in
    let reply = (call_accepted s e.cpu (own_of s e.cpu past) (lanes_at s past) f (InsertApc b) Yes known refl).1 in
    let it : b ≡ a = ap (λ (n : ℕ). record { 0 = n }) same in
    let open_b : takes b (facts_at (lanes_at s past) (owner_of s b)).apcs ≡ true = yes_if_true _ (sym reply) in
    let open_a : takes a (facts_at (lanes_at s past) (owner_of s a)).apcs
    ≡ true = subst (λ (b : ApcNo). takes b (facts_at (lanes_at s past) (owner_of s b)).apcs ≡ true) it open_b in
    let open_t : takes a (facts s (owner_of s a) past).apcs
    ≡ true = subst (λ (x : ThreadFacts). takes a x.apcs ≡ true) (facts_there s limit (owner_of s a) past has) open_a in
    not_true (is_inserted a (facts s (owner_of s a) past).apcs) (both (not (facts s (owner_of s a) past).apcs.closed) _ open_t).1

-- the event makes no change of the thread's own, where it is a call
calls_make_none : (m : Bool) (w : What) (f : ℕ) (b : ApcNo) (xs : List Pick) → w ≡ Call f (InsertApc b) Yes → (if m then made_picks w xs else xs) ≡ xs
calls_make_none true w f b xs k = ap (λ (w : What). made_picks w xs) k
calls_make_none false w f b xs k = refl

-- in a run an APC stands at most once among the pending ones of its thread
pub once : (s : Script) (limit : ℕ) (a : ApcNo) (past : List Event) → IsRun s limit past → has_thread s (owner_of s a) ≡ true →
    count_of a (facts s (owner_of s a) past).apcs.pending ≤ 1
once s limit a [] r has = omega arith
once s limit a (e ∷ past) r has =
    let xs : List Pick = (facts s (owner_of s a) past).apcs.pending in
    let mine : Bool = is_of_thread s (owner_of s a) e in
    let ih = once s limit a past r.1 has in
    subst (λ (xs : List Pick). count_of a xs ≤ 1) (sym (picks_move s (owner_of s a) e past))
    (named_once s a (owner_of s a) (length past) e.what (if mine then made_picks e.what xs else xs)
    (if_once a mine (made_picks e.what xs) xs (made_once a e.what xs ih) ih)
    (λ f b k same. subst (λ (xs : List Pick). list_any (is_of_apc a) xs ≡ false) (sym (calls_make_none mine e.what f b xs k))
    (was_out s limit a b e past f r has k same)))

-- in a run an APC has at most one pending insert, at one thread
pub at_most_one_apc : (s : Script) (limit : ℕ) (a : ApcNo) (past : List Event) → IsRun s limit past → has_thread s (owner_of s a) ≡ true →
    (t u : ThreadNo) (n m : ℕ) → ApcIsPending s t a n past → ApcIsPending s u a m past → (t.0 ≡ u.0) × (n ≡ m)
at_most_one_apc s limit a past r has t u n m h k =
    let x = own t n h in
    let y = own u m k in
    let same : h.0 ≡ k.0 = only_one (filter (is_of_apc a) (facts s (owner_of s a) past).apcs.pending) h.0 k.0 (once s limit a past r has) x.1 y.1 in
    (sym x.0 ∙ y.0, sym h.3 ∙ (ap (λ (x : Pick). x.number) same ∙ k.3))
  where
    own : (t : ThreadNo) (n : ℕ) → (h : ApcIsPending s t a n past) → ((owner_of s a).0 ≡ t.0) ×
        Contains (filter (is_of_apc a) (facts s (owner_of s a) past).apcs.pending) h.0
    own t n h =
        let owner : (owner_of s a).0 ≡ t.0 = ap (λ (a : ApcNo). (owner_of s a).0) (sym h.2) ∙ owners_fit s t past h.0 h.1 in
        let same : t ≡ owner_of s a = ap (λ (n : ℕ). record { 0 = n }) (sym owner) in (
          owner,
          contains_kept (is_of_apc a) (facts s (owner_of s a) past).apcs.pending h.0
              (subst (λ (t : ThreadNo). Contains (facts s t past).apcs.pending h.0) same h.1) (eq-eqb h.0.apc.0 a.0 (ap (λ (a : ApcNo). a.0) h.2)),
        )
