-- The marks of the APC objects say which are inserted, after each event.
use Rattle.std.proofs.Common.{◌≡◌, ◌<◌, Bool, IsTrue, List, Option, None, Some, ap, eqb, false, get_or, if◌then◌else◌, length, not, refl, replicate, set, subst}
use Rattle.std.proofs.Common.{suc, sym, true, zero, ℕ, ◌==◌, ◌||◌, ◌∙◌}
use Rattle.std.proofs.lemmas.Bool.{eqb-false, eqb-true, false≢true, ltb-true}
use Rattle.std.proofs.lemmas.List.{get_or-set_other, get_or-set_same, length-replicate, length-set}
use Rattle.std.proofs.lemmas.Map.Views.{any-filter_same}
use Rattle.std.specs.List.{All}
use Rattle.nt_event.specs.declared.commands.Command.TheVariants.{InsertApc, RemoveApc}
use Rattle.nt_event.specs.declared.commands.Reply.TheVariants.{Yes}
use Rattle.nt_event.specs.declared.events.Begun.TheVariants.{Apc}
use Rattle.nt_event.specs.declared.events.What.{What}
use Rattle.nt_event.specs.declared.events.What.TheVariants.{Begin, Call, End, Flush}
use Rattle.nt_event.specs.declared.frames.Body.{Body}
use Rattle.nt_event.specs.declared.frames.Body.TheVariants.{Base as OnBase}
use Rattle.nt_event.specs.declared.inserts.Pick.{Pick}
use Rattle.nt_event.specs.declared.jobs.Stand.{Stand}
use Rattle.nt_event.specs.declared.numbers.ApcNo.{ApcNo}
use Rattle.nt_event.specs.declared.numbers.ThreadNo.{ThreadNo}
use Rattle.nt_event.specs.declared.scripts.Script.{Script}
use Rattle.nt_event.specs.Apcs.{ApcQueues, is_inserted, is_of_apc, without_apc}
use Rattle.nt_event.specs.Routines.{owner_of}
use Rattle.nt_event.specs.Script.{has_apc}
use Rattle.nt_event.specs.Threads.{ThreadFacts, start_facts}
use Rattle.nt_event.specs.Waits.{made_facts}
use Rattle.nt_states.specs.ThreadFits.{CanMake, named_thread, told_facts}
use Rattle.nt_states.specs.ThreadLanes.{ThreadLanes, facts_in}
use Rattle.nt_thread_lanes.specs.Marks.{changed_apc, mark_after, marks_after, with_mark}
use Rattle.nt_thread_lanes.specs.Sound.{AreMarked, IsOurs, IsSound}
use Rattle.nt_thread_lanes.proofs.Changed.{ended_queue, made_changes, made_queue, told_changes, told_queue}
use Rattle.nt_thread_lanes.proofs.Firsts.{begins_one, flushes_one}
use Rattle.nt_thread_lanes.proofs.Ours.{set_facts, start_at}

-- ---- one queue

-- a number that is one of two different numbers is not the other
apart_test : (x a b : ℕ) (c : Bool) → (x == a) ≡ c → (x == b) ≡ true → (a == b) ≡ false → (x == a) ≡ false
apart_test x a b true e h k =
    let same : (a == b) ≡ true = subst (λ (y : ℕ). (y == b) ≡ true) (eqb-true x a e) h in
    absurd (false≢true (sym k ∙ same))
apart_test x a b false e h k = e

-- after an APC is removed from a queue, it alone has become not inserted
without_one : (a b : ApcNo) (q : ApcQueues) (c : Bool) → (a.0 == b.0) ≡ c → is_inserted b (without_apc a q) ≡ (if c then false else is_inserted b q)
without_one a b q true e = any-filter_same (is_of_apc b) (λ x. not (is_of_apc a x)) false one q.pending
  where
    one : (x : Pick) → is_of_apc b x ≡ true → not (is_of_apc a x) ≡ false
    one x h =
        let at : b.0 ≡ a.0 = sym (eqb-true a.0 b.0 e) in
        ap not (subst (λ (k : ℕ). (x.apc.0 == k) ≡ true) at h)
without_one a b q false e = any-filter_same (is_of_apc b) (λ x. not (is_of_apc a x)) true one q.pending
  where
    one : (x : Pick) → is_of_apc b x ≡ true → not (is_of_apc a x) ≡ true
    one x h = ap not (apart_test x.apc.0 a.0 b.0 (x.apc.0 == a.0) refl h e)

-- the end of a frame leaves each APC of the queue inserted or not as it was
ended_one : (b : ApcNo) (o : Option Body) (q : ApcQueues) → is_inserted b (ended_queue o q) ≡ is_inserted b q
ended_one b (Some (OnBase t)) q = refl
ended_one b o q = refl

-- an event that names no thread leaves each APC of its maker's queue inserted as the event's mark says
made_one : (b : ApcNo) (st : Stand) (w : What) (s : Script) (q : ApcQueues) → named_thread s w ≡ None → is_inserted b (made_queue st w q)
    ≡ mark_after (changed_apc w) b (is_inserted b q)
made_one b st (Call f (InsertApc a) y) s q h = cc
made_one b st (Call f (RemoveApc a) y) s q h = cc
made_one b st (Begin (Apc a) from) s q h = without_one a b q (a.0 == b.0) refl
made_one b st (Flush a from) s q h = without_one a b q (a.0 == b.0) refl
made_one b st (End f) s q h = ended_one b st.body q
made_one b st w s q h = refl

-- a disjunction as a choice: true if the first holds, and else the second
or_if : (c old : Bool) → (c || old) ≡ (if c then true else old)
or_if true old = refl
or_if false old = refl

-- an event that names a thread leaves each APC of that thread's queue inserted as the event's mark says
told_one : (b : ApcNo) (n : ℕ) (w : What) (s : Script) (t : ThreadNo) (q : ApcQueues) → named_thread s w ≡ Some t → is_inserted b (told_queue s n w q)
    ≡ mark_after (changed_apc w) b (is_inserted b q)
told_one b n (Call f (InsertApc a) Yes) s t q h = or_if (a.0 == b.0) (is_inserted b q)
told_one b n (Call f (RemoveApc a) Yes) s t q h = without_one a b q (a.0 == b.0) refl
told_one b n (Begin (Apc a) from) s t q h = cc
told_one b n (Flush a from) s t q h = cc
told_one b n w s t q h = refl

-- ---- the marks

-- the mark of an APC object after a change of marks is the changed one, or else the old one
with_one : (c : Option (ApcNo × Bool)) (marks : List Bool) (b : ApcNo) → b.0 < length marks → get_or (with_mark c marks) b.0 false
    ≡ mark_after c b (get_or marks b.0 false)
with_one None marks b h = refl
with_one (Some c) marks b h = go (c.0.0 == b.0) refl
  where
    go : (d : Bool) → (c.0.0 == b.0) ≡ d → get_or (set marks c.0.0 c.1) b.0 false ≡ (if d then c.1 else get_or marks b.0 false)
    go true e =
        let at : b.0 ≡ c.0.0 = sym (eqb-true c.0.0 b.0 e) in
        subst (λ (k : ℕ). get_or (set marks k c.1) b.0 false ≡ c.1) at (get_or-set_same marks b.0 c.1 false h)
    go false e = get_or-set_other marks c.0.0 b.0 c.1 false (λ k. eqb-false c.0.0 b.0 e (sym k))

-- a change of one mark leaves as many marks
with_count : (c : Option (ApcNo × Bool)) (marks : List Bool) → length (with_mark c marks) ≡ length marks
with_count None marks = refl
with_count (Some c) marks = length-set marks c.0.0 c.1

-- an object that the event changes is one of this thread's
abbrev OfThread : Script → ThreadNo → Option (ApcNo × Bool) → Type 0
OfThread s t None = Unit {0}
OfThread s t (Some c) = owner_of s c.0 ≡ t

-- the mark of an object of another thread stays
other_mark : (s : Script) (t : ThreadNo) (c : Option (ApcNo × Bool)) (b : ApcNo) (old : Bool) → OfThread s t c → eqb t.0 (owner_of s b).0 ≡ false →
    mark_after c b old ≡ old
other_mark s t None b old h k = refl
other_mark s t (Some c) b old h k = go (c.0.0 == b.0) refl
  where
    same : (a d : ApcNo) → a.0 ≡ d.0 → a ≡ d
    same a d e = λ i. record { 0 = e i }

    go : (d : Bool) → (c.0.0 == b.0) ≡ d → (if d then c.1 else old) ≡ old
    go true e =
        let at : owner_of s b ≡ t = subst (λ (a : ApcNo). owner_of s a ≡ t) (same c.0 b (eqb-true c.0.0 b.0 e)) h in
        absurd (eqb-false t.0 (owner_of s b).0 k (ap (λ (u : ThreadNo). u.0) (sym at)))
    go false e = refl

-- the marks still say which APCs are inserted after one thread's queue and its own APC's mark change alike
marked_set : (x : ThreadLanes) (t : ThreadNo) (y : ThreadFacts) (c : Option (ApcNo × Bool)) (marks : List Bool) → AreMarked marks x → t.0 < length x.facts →
    OfThread x.script t c → ((b : ApcNo) → is_inserted b y.apcs ≡ mark_after c b (is_inserted b (facts_in x t).apcs)) →
    AreMarked (with_mark c marks) (record x { facts = set x.facts t.0 y })
marked_set x t y c marks m h owns left = record {
  count = with_count c marks ∙ m.count;
  each = λ b k. one b k (eqb t.0 (owner_of x.script b).0) refl;
} where
  same : (u : ThreadNo) → t.0 ≡ u.0 → facts_in x t ≡ facts_in x u
  same u e = ap (λ (k : ℕ). get_or x.facts k start_facts) e

  here : (b : ApcNo) (d : Bool) → eqb t.0 (owner_of x.script b).0 ≡ d → mark_after c b (is_inserted b (facts_in x (owner_of x.script b)).apcs)
      ≡ is_inserted b (if d then y else facts_in x (owner_of x.script b)).apcs
  here b true e =
      ap (λ (z : ThreadFacts). mark_after c b (is_inserted b z.apcs)) (sym (same (owner_of x.script b) (eqb-true t.0 (owner_of x.script b).0 e))) ∙ sym (left b)
  here b false e = other_mark x.script t c b (is_inserted b (facts_in x (owner_of x.script b)).apcs) owns e

  one : (b : ApcNo) → IsTrue (has_apc x.script b) → (d : Bool) → eqb t.0 (owner_of x.script b).0 ≡ d → get_or (with_mark c marks) b.0 false
      ≡ is_inserted b (facts_in (record x { facts = set x.facts t.0 y }) (owner_of x.script b)).apcs
  one b k d e =
      let within : b.0 < length marks = subst (λ (n : ℕ). b.0 < n) (sym m.count) (ltb-true b.0 (length x.script.apcs) k) in
      let mark : get_or (with_mark c marks) b.0 false ≡ mark_after c b (is_inserted b (facts_in x (owner_of x.script b)).apcs) = with_one c marks b within
      ∙ ap (mark_after c b) (m.each b k) in
      mark ∙ here b d e ∙ ap (λ (z : ThreadFacts). is_inserted b z.apcs) (sym (set_facts x t (owner_of x.script b) y d h e))

-- ---- the events

-- the APC whose mark is changed by an event that names no thread belongs to the event's maker
owns_made : (s : Script) (t : ThreadNo) (st : Stand) (w : What) (x : ThreadFacts) → named_thread s w ≡ None → CanMake st w x →
    All (IsOurs s t) x.apcs.pending → OfThread s t (changed_apc w)
owns_made s t st (Call f (InsertApc a) y) x e may h = cc
owns_made s t st (Call f (RemoveApc a) y) x e may h = cc
owns_made s t st (Begin (Apc a) from) x e may h =
    subst (λ (b : ApcNo). owner_of s b ≡ t) may.apc (begins_one (IsOurs s t) st a from x may h).owner
owns_made s t st (Flush a from) x e may h =
    subst (λ (b : ApcNo). owner_of s b ≡ t) may.apc (flushes_one (IsOurs s t) a from x may h).owner
owns_made s t st w x e may h = tt

-- threads that are equal as options are the same thread
some_thread : (u t : ThreadNo) → Some u ≡ Some t → u ≡ t
some_thread u t h = cc

-- the APC whose mark is changed by an event that names a thread belongs to that thread
owns_told : (s : Script) (t : ThreadNo) (w : What) → named_thread s w ≡ Some t → OfThread s t (changed_apc w)
owns_told s t (Call f (InsertApc a) Yes) e = some_thread (owner_of s a) t e
owns_told s t (Call f (RemoveApc a) Yes) e = some_thread (owner_of s a) t e
owns_told s t (Begin (Apc a) from) e = cc
owns_told s t (Flush a from) e = cc
owns_told s t w e = tt

-- the marks still say which APC objects are inserted after an event that names no thread changes its maker
pub marked_made : (x : ThreadLanes) (t : ThreadNo) (n : ℕ) (st : Stand) (w : What) (marks : List Bool) → IsSound x → AreMarked marks x → t.0 < length x.facts →
    named_thread x.script w ≡ None → CanMake st w (facts_in x t) →
    AreMarked (marks_after w marks) (record x { facts = set x.facts t.0 (made_facts x.script n st w (facts_in x t)) })
marked_made x t n st w marks s m h e may =
    marked_set x t (made_facts x.script n st w (facts_in x t)) (changed_apc w) marks m h (owns_made x.script t st w (facts_in x t) e may (s.picks t))
    (λ b. ap (is_inserted b) (made_changes x.script n st w (facts_in x t)) ∙ made_one b st w x.script (facts_in x t).apcs e)

-- the marks still say which APC objects are inserted after an event changes the thread that it names
pub marked_told : (x : ThreadLanes) (t : ThreadNo) (n : ℕ) (w : What) (marks : List Bool) → AreMarked marks x → t.0 < length x.facts → named_thread x.script w
    ≡ Some t → AreMarked (marks_after w marks) (record x { facts = set x.facts t.0 (told_facts x.script n w (facts_in x t)) })
marked_told x t n w marks m h e =
    marked_set x t (told_facts x.script n w (facts_in x t)) (changed_apc w) marks m h (owns_told x.script t w e)
    (λ b. ap (is_inserted b) (told_changes x.script n w (facts_in x t)) ∙ told_one b n w x.script t (facts_in x t).apcs e)

-- before any event no APC is marked as inserted
no_mark : (n i : ℕ) → get_or (replicate n false) i false ≡ false
no_mark zero i = refl
no_mark (suc n) zero = refl
no_mark (suc n) (suc i) = no_mark n i

-- at the start no APC object is marked as inserted, and none is
pub marked_start : (s : Script) (n k : ℕ) → k ≡ length s.apcs → AreMarked (replicate k false) (record { script = s; facts = replicate n start_facts })
marked_start s n k h = record {
  count = length-replicate k false ∙ h;
  each = λ a named. no_mark k a.0 ∙ ap (λ (z : ThreadFacts). is_inserted a z.apcs) (sym (start_at n (owner_of s a).0));
}
