-- The pending APCs of a thread move with the history, and each is one of the thread's own.
use Rattle.std.proofs.Common.{ap, inl, inr, subst, sym, ◌∙◌}
use Rattle.std.proofs.lemmas.Bool.{eqb-true}
use Rattle.std.specs.List.{Contains}
use Rattle.std.specs.Prelude.{Bool, List, Option, Some, [], false, filter, if◌then◌else◌, length, not, refl, true, ℕ, ◌&&◌, ◌==◌, ◌∷◌, ◌≡◌, ◌⊎◌}
use Rattle.nt_event.specs.declared.commands.ApcKind.{ApcKind}
use Rattle.nt_event.specs.declared.commands.ApcKind.TheVariants.{Normal as NormalApc, Special as SpecialApc, User as UserApc}
use Rattle.nt_event.specs.declared.commands.Command.TheVariants.{Alert, Delay, InsertApc, Release, RemoveApc, StartWait, TestAlert, Yield}
use Rattle.nt_event.specs.declared.commands.Mode.TheVariants.{User as UserMode}
use Rattle.nt_event.specs.declared.commands.Reply.TheVariants.{Done, Yes}
use Rattle.nt_event.specs.declared.commands.TimerKey.TheVariants.{Delay as OfDelay}
use Rattle.nt_event.specs.declared.events.Begun.TheVariants.{Apc}
use Rattle.nt_event.specs.declared.events.Event.{Event}
use Rattle.nt_event.specs.declared.events.What.{What}
use Rattle.nt_event.specs.declared.events.What.TheVariants.{Begin, Call, End, Expire, Flush, Gone, Rewait, Switch}
use Rattle.nt_event.specs.declared.frames.Body.{Body}
use Rattle.nt_event.specs.declared.frames.Body.TheVariants.{Apc as OnApc, Base as OnBase}
use Rattle.nt_event.specs.declared.inserts.Pick.{Pick}
use Rattle.nt_event.specs.declared.jobs.Stand.{Stand}
use Rattle.nt_event.specs.declared.numbers.ApcNo.{ApcNo}
use Rattle.nt_event.specs.declared.numbers.ThreadNo.{ThreadNo}
use Rattle.nt_event.specs.declared.scripts.Script.{Script}
use Rattle.nt_event.specs.Apcs.{is_of_apc, with_apc, without_apc}
use Rattle.nt_event.specs.Regions.{stand_at}
use Rattle.nt_event.specs.Routines.{is_kernel_kind, kind_of, owner_of}
use Rattle.nt_event.specs.Threads.{ThreadFacts, ended, ends_by_apc}
use Rattle.nt_event.specs.Waits.{alert_facts, alert_tested, apc_taken, expiry_facts, facts, frame_ended, insert_facts, is_of_thread, made_facts, named_facts}
use Rattle.nt_event.specs.Waits.{new_pick, release_facts, waited, waited_again}
use Rattle.nt_event.specs.Replies.{is_answer, kernel_apc, user_apc}
use Rattle.nt_runs.proofs.Facts.{facts_made}
use Rattle.nt_event.proofs.Elements.{contains_cases, contains_none, kept_contains}
use Rattle.nt_runs.proofs.Pending.{again_apcs, alert_apcs, expiry_apcs, if_apcs, release_apcs, tested_apcs, waited_apcs}

abbrev pub without_pick : ApcNo → List Pick → List Pick
without_pick a xs = filter (λ x. not (is_of_apc a x)) xs

-- what an event that the thread makes leaves of its pending APCs
abbrev pub made_picks : What → List Pick → List Pick
made_picks (Begin (Apc a) from) xs = without_pick a xs
made_picks (Flush a from) xs = without_pick a xs
made_picks w xs = xs

-- what an event that names an APC of the thread leaves of them
abbrev pub named_picks : Script → ThreadNo → ℕ → What → List Pick → List Pick
named_picks s t n (Call f (InsertApc a) Yes) xs = if (owner_of s a).0 == t.0 then (new_pick s a n ∷ xs) else xs
named_picks s t n (Call f (RemoveApc a) Yes) xs = if (owner_of s a).0 == t.0 then without_pick a xs else xs
named_picks s t n w xs = xs

abbrev pub picks_after : Script → ThreadNo → ℕ → Bool → What → List Pick → List Pick
picks_after s t n mine w xs = named_picks s t n w (if mine then made_picks w xs else xs)

-- threads with equal APC queues have equal pending APCs
of_apcs : (x y : ThreadFacts) → x.apcs ≡ y.apcs → x.apcs.pending ≡ y.apcs.pending
of_apcs x y h = ap (λ q. q.pending) h

-- taking an APC leaves the thread's pending ones without it
taken_picks : (k : ApcKind) (a : ApcNo) (x : ThreadFacts) → (apc_taken k a x).apcs.pending ≡ without_pick a x.apcs.pending
taken_picks UserApc a x = refl
taken_picks SpecialApc a x = refl
taken_picks NormalApc a x = refl

-- the end of a frame leaves the thread's pending APCs as they were
ended_picks : (b : Option Body) (x : ThreadFacts) → (frame_ended b x).apcs.pending ≡ x.apcs.pending
ended_picks (Some (OnBase t)) x = refl
ended_picks (Some (OnApc a UserApc)) x = of_apcs (alert_tested UserMode x) x (tested_apcs UserMode x)
ended_picks b x = refl

-- what a thread itself makes leaves its pending APCs as the picks alone tell
made_so : (s : Script) (n : ℕ) (st : Stand) (w : What) (x : ThreadFacts) → (made_facts s n st w x).apcs.pending ≡ made_picks w x.apcs.pending
made_so s n st (Call f (StartWait m a) y) x = of_apcs (waited n st.regions st.level m a false y x) x (waited_apcs n st.regions st.level m a false y x)
made_so s n st (Call f (Delay m a u) y) x = of_apcs (waited n st.regions st.level m a true y x) x (waited_apcs n st.regions st.level m a true y x)
made_so s n st (Call f (TestAlert m) y) x =
    of_apcs (if is_answer y then alert_tested m x else x) x (if_apcs (is_answer y) (alert_tested m x) x x.apcs (tested_apcs m x) refl)
made_so s n st (Call f Yield Done) x = refl
made_so s n st (Rewait f y) x = of_apcs (waited_again n st.regions st.level st.again y x) x (again_apcs n st.regions st.level st.again y x)
made_so s n st (Begin (Apc a) from) x = taken_picks (kind_of s a) a x
made_so s n st (End f) x = ended_picks st.body x
made_so s n st (Flush a from) x = refl
made_so s n st (Gone t) x = refl
made_so s n st (Switch t status) x = refl
made_so s n st w x = refl

-- an insert puts its pick before the thread's pending APCs
insert_picks : (pick : Pick) (x : ThreadFacts) → (insert_facts pick x).apcs.pending ≡ pick ∷ x.apcs.pending
insert_picks pick x = go (ends_by_apc pick x) (is_kernel_kind pick.kind)
  where
    go : (b k : Bool) → (if b then (if k then ended kernel_apc (record x { apcs = with_apc pick x.apcs })
        else record (ended user_apc (record x { apcs = with_apc pick x.apcs })) { user_pending = true })
        else record x { apcs = with_apc pick x.apcs }).apcs.pending ≡ pick ∷ x.apcs.pending
    go true true = refl
    go true false = refl
    go false k = refl

-- a choice between two threads' facts has the pending APCs of the one chosen
if_picks : (b : Bool) (x y : ThreadFacts) (xs ys : List Pick) → x.apcs.pending ≡ xs → y.apcs.pending ≡ ys → (if b then x else y).apcs.pending
    ≡ (if b then xs else ys)
if_picks true x y xs ys h k = h
if_picks false x y xs ys h k = k

-- what is done to a named thread leaves its pending APCs as the picks alone tell
named_so : (s : Script) (t : ThreadNo) (n : ℕ) (w : What) (x : ThreadFacts) → (named_facts s t n w x).apcs.pending ≡ named_picks s t n w x.apcs.pending
named_so s t n (Call f (Release u) y) x =
    of_apcs (named_facts s t n (Call f (Release u) y) x) x (if_apcs (is_answer y && (u.0 == t.0)) (release_facts x) x x.apcs (release_apcs x) refl)
named_so s t n (Call f (Alert u m) y) x =
    of_apcs (named_facts s t n (Call f (Alert u m) y) x) x (if_apcs (is_answer y && (u.0 == t.0)) (alert_facts m x) x x.apcs (alert_apcs m x) refl)
named_so s t n (Call f (InsertApc a) Yes) x =
    if_picks ((owner_of s a).0 == t.0) (insert_facts (new_pick s a n) x) x (new_pick s a n ∷ x.apcs.pending) x.apcs.pending
    (insert_picks (new_pick s a n) x) refl
named_so s t n (Call f (RemoveApc a) Yes) x =
    if_picks ((owner_of s a).0 == t.0) (record x { apcs = without_apc a x.apcs }) x (without_pick a x.apcs.pending) x.apcs.pending refl refl
named_so s t n (Expire (OfDelay u) from) x =
    of_apcs (named_facts s t n (Expire (OfDelay u) from) x) x (if_apcs (u.0 == t.0) (expiry_facts from x) x x.apcs (expiry_apcs from x) refl)
named_so s t n w x = refl

-- the pending APCs of a thread move as the history does
pub picks_move : (s : Script) (t : ThreadNo) (e : Event) (past : List Event) → (facts s t (e ∷ past)).apcs.pending
    ≡ picks_after s t (length past) (is_of_thread s t e) e.what (facts s t past).apcs.pending
picks_move s t e past = go (is_of_thread s t e) refl
  where
    go : (b : Bool) → is_of_thread s t e ≡ b → (facts s t (e ∷ past)).apcs.pending ≡ picks_after s t (length past) b e.what (facts s t past).apcs.pending
    go true k =
        let made : ThreadFacts = made_facts s (length past) (stand_at s e.cpu past) e.what (facts s t past) in
        ap (λ (x : ThreadFacts). x.apcs.pending) (facts_made s t e past true k)
        ∙ (named_so s t (length past) e.what made ∙ ap (named_picks s t (length past) e.what)
        (made_so s (length past) (stand_at s e.cpu past) e.what (facts s t past)))
    go false k =
        ap (λ (x : ThreadFacts). x.apcs.pending) (facts_made s t e past false k) ∙ named_so s t (length past) e.what (facts s t past)

-- ---- what is pending afterwards

-- the event inserts this APC at the thread
abbrev pub PutsPick : Script → ThreadNo → ℕ → What → Pick → Type 0
PutsPick s t n (Call f (InsertApc a) Yes) x = ((owner_of s a).0 ≡ t.0) × (x ≡ new_pick s a n)
PutsPick s t n w x = ⊥

-- a pick that is pending after what its own thread makes was pending before
made_kept : (w : What) (xs : List Pick) (x : Pick) → Contains (made_picks w xs) x → Contains xs x
made_kept (Begin (Apc a) from) xs x h = (kept_contains (λ x. not (is_of_apc a x)) xs x h).0
made_kept (Flush a from) xs x h = (kept_contains (λ x. not (is_of_apc a x)) xs x h).0
made_kept w xs x h = h

-- a pick that is pending after what is done to its thread was put there by it or was pending before
named_kept : (s : Script) (t : ThreadNo) (n : ℕ) (w : What) (xs : List Pick) (x : Pick) → Contains (named_picks s t n w xs) x → PutsPick s t n w x ⊎
    Contains xs x
named_kept s t n (Call f (InsertApc a) Yes) xs x h = go ((owner_of s a).0 == t.0) refl h
  where
    go : (b : Bool) → ((owner_of s a).0 == t.0) ≡ b → Contains (if b then (new_pick s a n ∷ xs) else xs) x →
        (((owner_of s a).0 ≡ t.0) × (x ≡ new_pick s a n)) ⊎ Contains xs x
    go true e k =
        elim (contains_cases (new_pick s a n) xs x k) [
          | inl same ↦ inl (eqb-true (owner_of s a).0 t.0 e, sym same)
          | inr there ↦ inr there
        ]
    go false e k = inr k
named_kept s t n (Call f (RemoveApc a) Yes) xs x h = go ((owner_of s a).0 == t.0) h
  where
    go : (b : Bool) → Contains (if b then without_pick a xs else xs) x → ⊥ ⊎ Contains xs x
    go true k = inr (kept_contains (λ x. not (is_of_apc a x)) xs x k).0
    go false k = inr k
named_kept s t n w xs x h = inr h

-- what is pending after an event was put by it or was pending before
pub picks_kept : (s : Script) (t : ThreadNo) (n : ℕ) (mine : Bool) (w : What) (xs : List Pick) (x : Pick) → Contains (picks_after s t n mine w xs) x →
    PutsPick s t n w x ⊎ Contains xs x
picks_kept s t n true w xs x h =
    elim (named_kept s t n w (made_picks w xs) x h) [
      | inl put ↦ inl put
      | inr there ↦ inr (made_kept w xs x there)
    ]
picks_kept s t n false w xs x h = named_kept s t n w xs x h

-- a pick that an event puts at a thread is of an APC that the thread owns
put_owner : (s : Script) (t : ThreadNo) (n : ℕ) (w : What) (x : Pick) → PutsPick s t n w x → (owner_of s x.apc).0 ≡ t.0
put_owner s t n (Call f (InsertApc a) Yes) x h = ap (λ (x : Pick). (owner_of s x.apc).0) h.1 ∙ h.0
put_owner s t n w x h = absurd h

-- each APC that is pending at a thread is one of the thread's own
pub owners_fit : (s : Script) (t : ThreadNo) (past : List Event) (x : Pick) → Contains (facts s t past).apcs.pending x → (owner_of s x.apc).0 ≡ t.0
owners_fit s t [] x h = contains_none x h
owners_fit s t (e ∷ past) x h =
    elim (picks_kept s t (length past) (is_of_thread s t e) e.what (facts s t past).apcs.pending x
    (subst (λ (xs : List Pick). Contains xs x) (picks_move s t e past) h)) [
      | inl put ↦ put_owner s t (length past) e.what x put
      | inr there ↦ owners_fit s t past x there
    ]
