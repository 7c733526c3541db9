-- The pending APCs of a thread: where a kernel one is among them, and what the events of a run leave of them.
use Rattle.std.proofs.Common.{ap, subst, sym, ◌∙◌}
use Rattle.std.proofs.lemmas.Bool.{eqb-true, ltb-true}
use Rattle.std.proofs.lemmas.List.{reverse-append}
use Rattle.std.specs.Option.{option_or}
use Rattle.std.specs.Prelude.{Bool, List, None, Option, Some, [], cond, false, filter, find, if◌then◌else◌, is_some, length, nat_lt, not, refl, reverse, true}
use Rattle.std.specs.Prelude.{ℕ, ◌&&◌, ◌++◌, ◌==◌, ◌∷◌, ◌≡◌}
use Rattle.nt_event.specs.declared.numbers.CpuNo.{CpuNo}
use Rattle.nt_event.specs.declared.commands.ApcKind.{ApcKind}
use Rattle.nt_event.specs.declared.commands.ApcKind.TheVariants.{Normal as NormalApc, Special as SpecialApc, User as UserApc}
use Rattle.nt_event.specs.declared.commands.Command.TheVariants.{Alert, Delay, InsertApc, Release, RemoveApc, StartWait, TestAlert, Yield}
use Rattle.nt_event.specs.declared.commands.Mode.{Mode}
use Rattle.nt_event.specs.declared.commands.Mode.TheVariants.{Kernel as KernelMode, User as UserMode}
use Rattle.nt_event.specs.declared.commands.Regions.{Regions}
use Rattle.nt_event.specs.declared.commands.Reply.{Reply}
use Rattle.nt_event.specs.declared.commands.Reply.TheVariants.{Blocked, Done, Status, Yes}
use Rattle.nt_event.specs.declared.commands.TimerKey.TheVariants.{Delay as OfDelay}
use Rattle.nt_event.specs.declared.events.Begun.TheVariants.{Apc}
use Rattle.nt_event.specs.declared.events.Event.{Event}
use Rattle.nt_event.specs.declared.events.What.{What}
use Rattle.nt_event.specs.declared.events.What.TheVariants.{Begin, Call, End, Expire, Flush, Gone, Rewait, Switch}
use Rattle.nt_event.specs.declared.frames.Again.{Again}
use Rattle.nt_event.specs.declared.frames.Body.{Body}
use Rattle.nt_event.specs.declared.frames.Body.TheVariants.{Apc as OnApc, Base as OnBase}
use Rattle.nt_event.specs.declared.inserts.Pick.{Pick}
use Rattle.nt_event.specs.declared.jobs.Stand.{Stand}
use Rattle.nt_event.specs.declared.numbers.ApcNo.{ApcNo}
use Rattle.nt_event.specs.declared.numbers.ThreadNo.{ThreadNo}
use Rattle.nt_event.specs.declared.scripts.Script.{Script}
use Rattle.nt_event.specs.Apcs.{ApcQueues, first_kernel, first_of_kind, has_kernel, has_user, is_of_apc, is_of_kind, same_kind, takes, with_apc, without_apc}
use Rattle.nt_event.specs.Lanes.{facts_at, lanes_at, queue_at}
use Rattle.nt_event.specs.Own.{own_of}
use Rattle.nt_event.specs.Regions.{stand_at}
use Rattle.nt_event.specs.Routines.{is_kernel_kind, kind_of, owner_of}
use Rattle.nt_event.specs.Script.{has_thread}
use Rattle.nt_event.specs.Step.{IsLegal, turn_of}
use Rattle.nt_event.specs.Threads.{ThreadFacts, ended, ends_by_alert, ends_by_apc, ends_by_expiry, ends_by_release, is_alerted, is_gone, set_alerted}
use Rattle.nt_event.specs.Threads.{start_facts}
use Rattle.nt_event.specs.Waits.{alert_facts, alert_taken, alert_tested, answered, apc_taken, expiry_facts, facts, frame_ended, insert_facts, is_of_thread}
use Rattle.nt_event.specs.Waits.{made_facts, named_facts, new_pick, release_facts, waited, waited_again}
use Rattle.nt_event.specs.Replies.{alerted, is_answer, is_user, kernel_apc, satisfied, user_apc, yes_if}
use Rattle.nt_event.specs.Numbers.{thread, cpu}
use Rattle.nt_runs.proofs.Facts.{facts_made}
use Rattle.nt_runs.proofs.Known.{Known, legal_known}
use Rattle.nt_event.proofs.Options.{both, not_false}
use Rattle.nt_runs.proofs.Stops.{call_accepted}
use Rattle.nt_event.proofs.Tables.{get_or-table}
use Rattle.nt_runs.proofs.Turns.{is_next}
use Rattle.nt_runs.proofs.Leaving.Facts.{facts_made_so, facts_named, tested_leaving}
use Rattle.nt_runs.proofs.Steps.{cpu_at-turn_at, step_uncut}
use Rattle.nt_event.specs.Queues.{queue_of, start_queue}

-- ---- kernel APCs

-- no pending APC is a kernel one
abbrev pub NoKernel : List Pick → Type 0
NoKernel [] = Unit {0}
NoKernel (x ∷ xs) = (is_kernel_kind x.kind ≡ false) × NoKernel xs

-- a search through two lists is one through the first and, without a find, the second
find_append : {A : Type 0} (test : A → Bool) (xs ys : List A) → find test (xs ++ ys) ≡ option_or (find test xs) (find test ys)
find_append test [] ys = refl
find_append test (x ∷ xs) ys = go (test x) (find_append test xs ys)
  where
    go : (b : Bool) → find test (xs ++ ys) ≡ option_or (find test xs) (find test ys) → cond b (Some x) (find test (xs ++ ys))
        ≡ option_or (cond b (Some x) (find test xs)) (find test ys)
    go true h = refl
    go false h = h

-- a search from the end finds the first item only where it passes the test and no later one does
pub find_reverse : {A : Type 0} (test : A → Bool) (x : A) (xs : List A) → find test (reverse (x ∷ xs))
    ≡ option_or (find test (reverse xs)) (cond (test x) (Some x) None)
find_reverse test x xs =
    ap (find test) (reverse-append (x ∷ []) xs) ∙ find_append test (reverse xs) (x ∷ [])

-- where the first given of two answers is none, both are none
pub or_none_parts : {A : Type 0} (a b : Option A) → option_or a b ≡ None → (a ≡ None) × (b ≡ None)
or_none_parts None b h = (refl, h)
or_none_parts (Some x) b h = cc

-- where a conditional answer is none, its condition is false
pub cond_none : {A : Type 0} (b : Bool) (x : A) → cond b (Some x) None ≡ None → b ≡ false
cond_none true x h = cc
cond_none false x h = refl

-- the test fails on each
abbrev Fails : (Pick → Bool) → List Pick → Type 0
Fails test [] = Unit {0}
Fails test (x ∷ xs) = (test x ≡ false) × Fails test xs

-- where a search from the end finds nothing, the test fails on each pending APC
none_fails : (test : Pick → Bool) (xs : List Pick) → find test (reverse xs) ≡ None → Fails test xs
none_fails test [] h = tt
none_fails test (x ∷ xs) h =
    let k = or_none_parts (find test (reverse xs)) (cond (test x) (Some x) None) (sym (find_reverse test x xs) ∙ h) in
    (cond_none (test x) x k.1, none_fails test xs k.0)

-- where the test fails on each pending APC, a search from the end finds nothing
fails_none : (test : Pick → Bool) (xs : List Pick) → Fails test xs → find test (reverse xs) ≡ None
fails_none test [] h = refl
fails_none test (x ∷ xs) h = find_reverse test x xs ∙ rw (fails_none test xs h.1, h.0) refl

-- an APC that is neither special nor normal is no kernel one
kind_kernel : (k : ApcKind) → same_kind SpecialApc k ≡ false → same_kind NormalApc k ≡ false → is_kernel_kind k ≡ false
kind_kernel SpecialApc a b = cc
kind_kernel NormalApc a b = cc
kind_kernel UserApc a b = refl

-- an APC that is no kernel one is no special one
kernel_special : (k : ApcKind) → is_kernel_kind k ≡ false → same_kind SpecialApc k ≡ false
kernel_special SpecialApc a = cc
kernel_special NormalApc a = cc
kernel_special UserApc a = refl

-- an APC that is no kernel one is no normal one
kernel_normal : (k : ApcKind) → is_kernel_kind k ≡ false → same_kind NormalApc k ≡ false
kernel_normal SpecialApc a = cc
kernel_normal NormalApc a = cc
kernel_normal UserApc a = refl

-- an answer that doesn't come is none
pub is_none_of : {A : Type 0} (o : Option A) → is_some o ≡ false → o ≡ None
is_none_of None h = refl
is_none_of (Some x) h = cc

-- where the test finds no kernel APC in the queues, no pending APC is a kernel one
pub without_kernel : (q : ApcQueues) → has_kernel q ≡ false → NoKernel q.pending
without_kernel q h =
    let k = or_none_parts (first_of_kind SpecialApc q) (first_of_kind NormalApc q) (is_none_of (first_kernel q) h) in
    go q.pending (none_fails (is_of_kind SpecialApc) q.pending k.0) (none_fails (is_of_kind NormalApc) q.pending k.1)
  where
    go : (xs : List Pick) → Fails (is_of_kind SpecialApc) xs → Fails (is_of_kind NormalApc) xs → NoKernel xs
    go [] a b = tt
    go (x ∷ xs) a b = (kind_kernel x.kind a.0 b.0, go xs a.1 b.1)

-- where no pending APC is a kernel one, the test finds no kernel APC in the queues
pub no_kernel : (q : ApcQueues) → NoKernel q.pending → has_kernel q ≡ false
no_kernel q h =
    rw (fails_none (is_of_kind SpecialApc) q.pending (special q.pending h), fails_none (is_of_kind NormalApc) q.pending (normal q.pending h)) refl
  where
    special : (xs : List Pick) → NoKernel xs → Fails (is_of_kind SpecialApc) xs
    special [] h = tt
    special (x ∷ xs) h = (kernel_special x.kind h.0, special xs h.1)

    normal : (xs : List Pick) → NoKernel xs → Fails (is_of_kind NormalApc) xs
    normal [] h = tt
    normal (x ∷ xs) h = (kernel_normal x.kind h.0, normal xs h.1)

-- ---- what events leave

-- no pending insert is added, and what is closed stays so
pub record Shrinks (old new : ApcQueues) : Type 0 where
  pub kernel : NoKernel old.pending → NoKernel new.pending
  pub closed : old.closed ≡ true → new.closed ≡ true

-- unchanged queues gain no kernel APC and stay closed if they were
pub shrinks_same : (q : ApcQueues) → Shrinks q q
shrinks_same q = record { kernel = λ h. h; closed = λ h. h }

-- keeping the pending APCs that pass a test adds no kernel one
filter_kernel : (test : Pick → Bool) (xs : List Pick) → NoKernel xs → NoKernel (filter test xs)
filter_kernel test [] h = tt
filter_kernel test (x ∷ xs) h = go (test x) (filter_kernel test xs h.1)
  where
    go : (b : Bool) → NoKernel (filter test xs) → NoKernel (cond b (x ∷ filter test xs) (filter test xs))
    go true k = (h.0, k)
    go false k = k

-- taking out an APC adds no kernel one and leaves closed queues closed
shrinks_without : (a : ApcNo) (q : ApcQueues) → Shrinks q (without_apc a q)
shrinks_without a q =
    record { kernel = λ h. filter_kernel (λ x. not (is_of_apc a x)) q.pending h; closed = λ h. h }

-- a change that leaves the APC queues equal adds no kernel APC and leaves them closed if they were
shrinks_as : (q : ApcQueues) (x : ThreadFacts) → x.apcs ≡ q → Shrinks q x.apcs
shrinks_as q x e = subst (Shrinks q) (sym e) (shrinks_same q)

-- a choice between two facts with the same APC queues has these queues
pub if_apcs : (b : Bool) (x y : ThreadFacts) (q : ApcQueues) → x.apcs ≡ q → y.apcs ≡ q → (if b then x else y).apcs ≡ q
if_apcs true x y q h k = h
if_apcs false x y q h k = k

-- setting or clearing an alert flag keeps the APC queues
set_apcs : (m : Mode) (b : Bool) (x : ThreadFacts) → (set_alerted m b x).apcs ≡ x.apcs
set_apcs KernelMode b x = refl
set_apcs UserMode b x = refl

-- a test for an alert leaves the APC queues as they were
pub tested_apcs : (m : Mode) (x : ThreadFacts) → (alert_tested m x).apcs ≡ x.apcs
tested_apcs m x =
    if_apcs (is_alerted m x) (set_alerted m false x) (if is_user m && has_user x.apcs then record x { user_pending = true } else x) x.apcs (set_apcs m false x)
    (if_apcs (is_user m && has_user x.apcs) (record x { user_pending = true }) x x.apcs refl refl)

-- a wait answered without blocking keeps the APC queues
answered_apcs : (st : ℕ) (m : Mode) (a delay : Bool) (x : ThreadFacts) → (answered st m a delay x).apcs ≡ x.apcs
answered_apcs st m a delay x =
    if_apcs (st == satisfied) (if delay then x else record x { released = false })
    (if st == alerted then alert_taken m x else (if (st == user_apc) && a then record x { user_pending = true } else x)) x.apcs
    (if_apcs delay x (record x { released = false }) x.apcs refl refl)
    (if_apcs (st == alerted) (alert_taken m x) (if (st == user_apc) && a then record x { user_pending = true } else x) x.apcs
    (set_apcs (if is_alerted m x then m else KernelMode) false x) (if_apcs ((st == user_apc) && a) (record x { user_pending = true }) x x.apcs refl refl))

-- a wait leaves the APC queues as they were
pub waited_apcs : (n : ℕ) (r : Regions) (level : ℕ) (m : Mode) (a delay : Bool) (y : Reply) (x : ThreadFacts) → (waited n r level m a delay y x).apcs ≡ x.apcs
waited_apcs n r level m a delay (Status st) x = answered_apcs st m a delay x
waited_apcs n r level m a delay Blocked x = refl
waited_apcs n r level m a delay y x = refl

-- a wait that is taken up again leaves the APC queues as they were
pub again_apcs : (n : ℕ) (r : Regions) (level : ℕ) (o : Option Again) (y : Reply) (x : ThreadFacts) → (waited_again n r level o y x).apcs ≡ x.apcs
again_apcs n r level None y x = refl
again_apcs n r level (Some w) y x = waited_apcs n r level w.mode w.alertable (is_some w.due) y x

-- an APC that begins adds no kernel one to the queues
taken_shrinks : (k : ApcKind) (a : ApcNo) (x : ThreadFacts) → Shrinks x.apcs (apc_taken k a x).apcs
taken_shrinks UserApc a x = shrinks_without a x.apcs
taken_shrinks SpecialApc a x = shrinks_without a x.apcs
taken_shrinks NormalApc a x = shrinks_without a x.apcs

-- the end of a frame adds no kernel one to the queues
ended_shrinks : (b : Option Body) (x : ThreadFacts) → Shrinks x.apcs (frame_ended b x).apcs
ended_shrinks (Some (OnBase t)) x = record { kernel = λ h. h; closed = λ h. refl }
ended_shrinks (Some (OnApc a UserApc)) x = shrinks_as x.apcs (alert_tested UserMode x) (tested_apcs UserMode x)
ended_shrinks b x = shrinks_same x.apcs

-- an event that the thread makes
pub made_shrinks : (s : Script) (n : ℕ) (st : Stand) (w : What) (x : ThreadFacts) → Shrinks x.apcs (made_facts s n st w x).apcs
made_shrinks s n st (Call f (StartWait m a) y) x = shrinks_as x.apcs (waited n st.regions st.level m a false y x)
    (waited_apcs n st.regions st.level m a false y x)
made_shrinks s n st (Call f (Delay m a u) y) x = shrinks_as x.apcs (waited n st.regions st.level m a true y x) (waited_apcs n st.regions st.level m a true y x)
made_shrinks s n st (Call f (TestAlert m) y) x =
    shrinks_as x.apcs (if is_answer y then alert_tested m x else x) (if_apcs (is_answer y) (alert_tested m x) x x.apcs (tested_apcs m x) refl)
made_shrinks s n st (Call f Yield Done) x = shrinks_same x.apcs
made_shrinks s n st (Rewait f y) x = shrinks_as x.apcs (waited_again n st.regions st.level st.again y x) (again_apcs n st.regions st.level st.again y x)
made_shrinks s n st (Begin (Apc a) from) x = taken_shrinks (kind_of s a) a x
made_shrinks s n st (End f) x = ended_shrinks st.body x
made_shrinks s n st (Flush a from) x = shrinks_without a x.apcs
made_shrinks s n st (Gone t) x = shrinks_same x.apcs
made_shrinks s n st (Switch t status) x = shrinks_same x.apcs
made_shrinks s n st w x = shrinks_same x.apcs

-- an accepted insert of an APC of the thread
abbrev pub inserts_for : Script → ThreadNo → What → Bool
inserts_for s t (Call f (InsertApc a) Yes) = (owner_of s a).0 == t.0
inserts_for s t w = false

-- a change made only under a condition adds no kernel APC, if the change itself adds none
if_shrinks : (b : Bool) (x y : ThreadFacts) → Shrinks x.apcs y.apcs → Shrinks x.apcs (if b then y else x).apcs
if_shrinks true x y h = h
if_shrinks false x y h = shrinks_same x.apcs

-- a release leaves the APC queues as they were
pub release_apcs : (x : ThreadFacts) → (release_facts x).apcs ≡ x.apcs
release_apcs x = if_apcs (ends_by_release x) (ended satisfied x) (if is_gone x then x else record x { released = true }) x.apcs refl
    (if_apcs (is_gone x) x (record x { released = true }) x.apcs refl refl)

-- an alert leaves the APC queues as they were
pub alert_apcs : (m : Mode) (x : ThreadFacts) → (alert_facts m x).apcs ≡ x.apcs
alert_apcs m x = if_apcs (is_gone x) x (if ends_by_alert m x then ended alerted x else set_alerted m true x) x.apcs refl
    (if_apcs (ends_by_alert m x) (ended alerted x) (set_alerted m true x) x.apcs refl (set_apcs m true x))

-- the expiry of a delay leaves the APC queues as they were
pub expiry_apcs : (from : ℕ) (x : ThreadFacts) → (expiry_facts from x).apcs ≡ x.apcs
expiry_apcs from x = if_apcs (ends_by_expiry from x) (ended satisfied x) x x.apcs refl refl

-- where the condition fails, no insert is made
no_insert : (b : Bool) → b ≡ false → (x y : ThreadFacts) → (if b then y else x) ≡ x
no_insert true h x y = cc
no_insert false h x y = refl

-- another event that names it
pub named_shrinks : (s : Script) (t : ThreadNo) (n : ℕ) (w : What) (x : ThreadFacts) → inserts_for s t w ≡ false → Shrinks x.apcs (named_facts s t n w x).apcs
named_shrinks s t n (Call f (Release u) y) x h = if_shrinks (is_answer y && (u.0 == t.0)) x (release_facts x)
    (shrinks_as x.apcs (release_facts x) (release_apcs x))
named_shrinks s t n (Call f (Alert u m) y) x h = if_shrinks (is_answer y && (u.0 == t.0)) x (alert_facts m x)
    (shrinks_as x.apcs (alert_facts m x) (alert_apcs m x))
named_shrinks s t n (Call f (InsertApc a) Yes) x h =
    shrinks_as x.apcs (named_facts s t n (Call f (InsertApc a) Yes) x)
    (ap (λ (z : ThreadFacts). z.apcs) (no_insert ((owner_of s a).0 == t.0) h x (insert_facts (new_pick s a n) x)))
named_shrinks s t n (Call f (RemoveApc a) Yes) x h =
    if_shrinks ((owner_of s a).0 == t.0) x (record x { apcs = without_apc a x.apcs }) (shrinks_without a x.apcs)
named_shrinks s t n (Expire (OfDelay u) from) x h = if_shrinks (u.0 == t.0) x (expiry_facts from x)
    (shrinks_as x.apcs (expiry_facts from x) (expiry_apcs from x))
named_shrinks s t n w x h = shrinks_same x.apcs

-- two changes that add no kernel APC and leave closed queues closed are together one that does so
shrinks_then : (a b c : ApcQueues) → Shrinks a b → Shrinks b c → Shrinks a c
shrinks_then a b c h k = record { kernel = λ x. k.kernel (h.kernel x); closed = λ x. k.closed (h.closed x) }

-- in a run nothing is inserted where the thread takes no more APCs
pub yes_if_true : (b : Bool) → yes_if b ≡ Yes → b ≡ true
yes_if_true true h = refl
yes_if_true false h = cc

-- no legal event inserts an APC at a thread whose queues are closed
pub closed_inserts : (s : Script) (limit : ℕ) (t : ThreadNo) (e : Event) (past : List Event) → IsLegal s limit e past → has_thread s t ≡ true →
    (facts s t past).apcs.closed ≡ true → inserts_for s t e.what ≡ false
closed_inserts s limit t e past g has closed = go e.what refl
  where
    go : (w : What) → e.what ≡ w → inserts_for s t w ≡ false
    go (Call f (InsertApc a) Yes) k = it ((owner_of s a).0 == t.0) refl
      where
        it : (b : Bool) → ((owner_of s a).0 == t.0) ≡ b → b ≡ false
        it false q = refl
        it true q =
            let known : Known s e.cpu (own_of s e.cpu past) (lanes_at s past) (Call f (InsertApc a) Yes) = subst
            (Known s e.cpu (own_of s e.cpu past) (lanes_at s past)) k (legal_known s limit e past g (ap is_next k)) in
            let reply = (call_accepted s e.cpu (own_of s e.cpu past) (lanes_at s past) f (InsertApc a) Yes known refl).1 in
            let takes_it : takes a (facts_at (lanes_at s past) (owner_of s a)).apcs ≡ true = yes_if_true _ (sym reply) in
            let same : owner_of s a ≡ t = ap (λ (n : ℕ). record { 0 = n }) (eqb-true (owner_of s a).0 t.0 q) in
            let at : facts_at (lanes_at s past) t ≡ facts s t past = get_or-table (length s.threads) t.0 (λ k. facts s (thread k) past) start_facts
            (ltb-true t.0 (length s.threads) has) in
            let opened : not (facts s t past).apcs.closed
            ≡ true = (both (not (facts s t past).apcs.closed) _
            (subst (λ (x : ThreadFacts). takes a x.apcs ≡ true) at
            (subst (λ (u : ThreadNo). takes a (facts_at (lanes_at s past) u).apcs ≡ true) same takes_it))).0 in
            absurd (clash (facts s t past).apcs.closed closed opened)
          where
            clash : (b : Bool) → b ≡ true → not b ≡ true → ⊥
            clash true h k = cc
            clash false h k = cc
    go w k = refl

-- what a legal event leaves of the pending APCs of a thread that takes no more
pub legal_shrinks : (s : Script) (limit : ℕ) (t : ThreadNo) (e : Event) (past : List Event) → IsLegal s limit e past → has_thread s t ≡ true →
    (facts s t past).apcs.closed ≡ true → Shrinks (facts s t past).apcs (facts s t (e ∷ past)).apcs
legal_shrinks s limit t e past g has closed = go (is_of_thread s t e) refl
  where
    none : inserts_for s t e.what ≡ false
    none = closed_inserts s limit t e past g has closed

    go : (b : Bool) → is_of_thread s t e ≡ b → Shrinks (facts s t past).apcs (facts s t (e ∷ past)).apcs
    go true k =
        let made : ThreadFacts = made_facts s (length past) (stand_at s e.cpu past) e.what (facts s t past) in
        subst (λ (x : ThreadFacts). Shrinks (facts s t past).apcs x.apcs) (sym (facts_made s t e past true k))
        (shrinks_then (facts s t past).apcs made.apcs (named_facts s t (length past) e.what made).apcs
        (made_shrinks s (length past) (stand_at s e.cpu past) e.what (facts s t past)) (named_shrinks s t (length past) e.what made none))
    go false k =
        subst (λ (x : ThreadFacts). Shrinks (facts s t past).apcs x.apcs) (sym (facts_made s t e past false k))
        (named_shrinks s t (length past) e.what (facts s t past) none)

-- ---- a thread that leaves takes no more APCs

-- an event keeps closed queues closed, whoever makes it
with_closed : (pick : Pick) (x : ThreadFacts) → (insert_facts pick x).apcs.closed ≡ x.apcs.closed
with_closed pick x = go (ends_by_apc pick x) (is_kernel_kind pick.kind)
  where
    go : (b k : Bool) → (if b then (if k then ended kernel_apc (record x { apcs = with_apc pick x.apcs })
        else record (ended user_apc (record x { apcs = with_apc pick x.apcs })) { user_pending = true })
        else record x { apcs = with_apc pick x.apcs }).apcs.closed ≡ x.apcs.closed
    go true true = refl
    go true false = refl
    go false k = refl

-- an event that names a thread leaves its closed APC queue closed
named_closed : (s : Script) (t : ThreadNo) (n : ℕ) (w : What) (x : ThreadFacts) → x.apcs.closed ≡ true → (named_facts s t n w x).apcs.closed ≡ true
named_closed s t n w x h = go (inserts_for s t w) refl
  where
    insert : (w : What) → inserts_for s t w ≡ true → (named_facts s t n w x).apcs.closed ≡ true
    insert (Call f (InsertApc a) Yes) k = rw k (with_closed (new_pick s a n) x ∙ h)
    insert w k = cc

    go : (b : Bool) → inserts_for s t w ≡ b → (named_facts s t n w x).apcs.closed ≡ true
    go false k = (named_shrinks s t n w x k).closed h
    go true k = insert w k

-- a thread's facts say that it is leaving only where they say that it takes no more APCs
made_close : (s : Script) (n : ℕ) (st : Stand) (w : What) (x : ThreadFacts) → (x.leaving ≡ true → x.apcs.closed ≡ true) → (made_facts s n st w x).leaving
    ≡ true → (made_facts s n st w x).apcs.closed ≡ true
made_close s n st (End f) x h k = go st.body k
  where
    go : (b : Option Body) → (frame_ended b x).leaving ≡ true → (frame_ended b x).apcs.closed ≡ true
    go (Some (OnBase t)) k = refl
    go (Some (OnApc a UserApc)) k =
        ap (λ (q : ApcQueues). q.closed) (tested_apcs UserMode x) ∙ h (sym (tested_leaving UserMode x) ∙ k)
    go b k = h k
made_close s n st (Gone t) x h k = cc
made_close s n st w x h k = (made_shrinks s n st w x).closed (h (sym (facts_made_so s n st w x refl) ∙ k))

-- a leaving thread has its APC queues closed
pub leaving_closed : (s : Script) (t : ThreadNo) (past : List Event) → (facts s t past).leaving ≡ true → (facts s t past).apcs.closed ≡ true
leaving_closed s t [] h = cc
leaving_closed s t (e ∷ past) h = go (is_of_thread s t e) refl (leaving_closed s t past)
  where
    go : (b : Bool) → is_of_thread s t e ≡ b → ((facts s t past).leaving ≡ true → (facts s t past).apcs.closed ≡ true) → (facts s t (e ∷ past)).apcs.closed
        ≡ true
    go true k ih =
        let made : ThreadFacts = made_facts s (length past) (stand_at s e.cpu past) e.what (facts s t past) in
        let after : facts s t (e ∷ past) ≡ named_facts s t (length past) e.what made = facts_made s t e past true k in
        let leaves : made.leaving ≡ true = sym (facts_named s t (length past) e.what made) ∙ (ap (λ (x : ThreadFacts). x.leaving) (sym after) ∙ h) in
        ap (λ (x : ThreadFacts). x.apcs.closed) after ∙ named_closed s t (length past) e.what made
        (made_close s (length past) (stand_at s e.cpu past) e.what (facts s t past) ih leaves)
    go false k ih =
        let after : facts s t (e ∷ past) ≡ named_facts s t (length past) e.what (facts s t past) = facts_made s t e past false k in
        let leaves : (facts s t past).leaving ≡ true = sym (facts_named s t (length past) e.what (facts s t past))
        ∙ (ap (λ (x : ThreadFacts). x.leaving) (sym after) ∙ h) in
        ap (λ (x : ThreadFacts). x.apcs.closed) after ∙ named_closed s t (length past) e.what (facts s t past) (ih leaves)

-- ---- kinds

-- each pending APC has the kind that the script gives its object
abbrev pub KindsFit : Script → List Pick → Type 0
KindsFit s [] = Unit {0}
KindsFit s (x ∷ xs) = (x.kind ≡ kind_of s x.apc) × KindsFit s xs

-- keeping the pending APCs that pass a test leaves each kind as the script gives it
filter_kinds : (s : Script) (test : Pick → Bool) (xs : List Pick) → KindsFit s xs → KindsFit s (filter test xs)
filter_kinds s test [] h = tt
filter_kinds s test (x ∷ xs) h = go (test x) (filter_kinds s test xs h.1)
  where
    go : (b : Bool) → KindsFit s (filter test xs) → KindsFit s (cond b (x ∷ filter test xs) (filter test xs))
    go true k = (h.0, k)
    go false k = k

-- equal queues have pending APCs of the kinds that the script gives
kinds_as : (s : Script) (q : ApcQueues) (x : ThreadFacts) → x.apcs ≡ q → KindsFit s q.pending → KindsFit s x.apcs.pending
kinds_as s q x e h = subst (λ (q : ApcQueues). KindsFit s q.pending) (sym e) h

-- an APC that begins leaves the pending ones with the kinds of the script
taken_kinds : (s : Script) (k : ApcKind) (a : ApcNo) (x : ThreadFacts) → KindsFit s x.apcs.pending → KindsFit s (apc_taken k a x).apcs.pending
taken_kinds s UserApc a x h = filter_kinds s (λ x. not (is_of_apc a x)) x.apcs.pending h
taken_kinds s SpecialApc a x h = filter_kinds s (λ x. not (is_of_apc a x)) x.apcs.pending h
taken_kinds s NormalApc a x h = filter_kinds s (λ x. not (is_of_apc a x)) x.apcs.pending h

-- the end of a frame leaves the pending APCs with the kinds of the script
ended_kinds : (s : Script) (b : Option Body) (x : ThreadFacts) → KindsFit s x.apcs.pending → KindsFit s (frame_ended b x).apcs.pending
ended_kinds s (Some (OnBase t)) x h = h
ended_kinds s (Some (OnApc a UserApc)) x h = kinds_as s x.apcs (alert_tested UserMode x) (tested_apcs UserMode x) h
ended_kinds s b x h = h

-- an event that a thread makes leaves its pending APCs with the kinds of the script
made_kinds : (s : Script) (n : ℕ) (st : Stand) (w : What) (x : ThreadFacts) → KindsFit s x.apcs.pending → KindsFit s (made_facts s n st w x).apcs.pending
made_kinds s n st (Call f (StartWait m a) y) x h = kinds_as s x.apcs (waited n st.regions st.level m a false y x)
    (waited_apcs n st.regions st.level m a false y x) h
made_kinds s n st (Call f (Delay m a u) y) x h = kinds_as s x.apcs (waited n st.regions st.level m a true y x)
    (waited_apcs n st.regions st.level m a true y x) h
made_kinds s n st (Call f (TestAlert m) y) x h =
    kinds_as s x.apcs (if is_answer y then alert_tested m x else x) (if_apcs (is_answer y) (alert_tested m x) x x.apcs (tested_apcs m x) refl) h
made_kinds s n st (Call f Yield Done) x h = h
made_kinds s n st (Rewait f y) x h = kinds_as s x.apcs (waited_again n st.regions st.level st.again y x) (again_apcs n st.regions st.level st.again y x) h
made_kinds s n st (Begin (Apc a) from) x h = taken_kinds s (kind_of s a) a x h
made_kinds s n st (End f) x h = ended_kinds s st.body x h
made_kinds s n st (Flush a from) x h = filter_kinds s (λ x. not (is_of_apc a x)) x.apcs.pending h
made_kinds s n st w x h = h

-- an inserted APC has the kind of the script, as the others have
insert_kinds : (s : Script) (a : ApcNo) (n : ℕ) (x : ThreadFacts) → KindsFit s x.apcs.pending → KindsFit s (insert_facts (new_pick s a n) x).apcs.pending
insert_kinds s a n x h = go (ends_by_apc (new_pick s a n) x) (is_kernel_kind (kind_of s a))
  where
    y : ThreadFacts
    y = record x { apcs = with_apc (new_pick s a n) x.apcs }

    go : (b k : Bool) → KindsFit s (if b then (if k then ended kernel_apc (record x { apcs = with_apc (new_pick s a n) x.apcs })
        else record (ended user_apc (record x { apcs = with_apc (new_pick s a n) x.apcs })) { user_pending = true })
        else record x { apcs = with_apc (new_pick s a n) x.apcs }).apcs.pending
    go true true = (refl, h)
    go true false = (refl, h)
    go false k = (refl, h)

-- of two facts whose pending APCs have the script's kinds, the one picked by a test has them too
if_kinds : (s : Script) (b : Bool) (x y : ThreadFacts) → KindsFit s x.apcs.pending → KindsFit s y.apcs.pending → KindsFit s (if b then x else y).apcs.pending
if_kinds s true x y h k = h
if_kinds s false x y h k = k

-- an event that names a thread leaves its pending APCs with the kinds of the script
named_kinds : (s : Script) (t : ThreadNo) (n : ℕ) (w : What) (x : ThreadFacts) → KindsFit s x.apcs.pending → KindsFit s (named_facts s t n w x).apcs.pending
named_kinds s t n (Call f (Release u) y) x h = if_kinds s (is_answer y && (u.0 == t.0)) (release_facts x) x
    (kinds_as s x.apcs (release_facts x) (release_apcs x) h) h
named_kinds s t n (Call f (Alert u m) y) x h = if_kinds s (is_answer y && (u.0 == t.0)) (alert_facts m x) x
    (kinds_as s x.apcs (alert_facts m x) (alert_apcs m x) h) h
named_kinds s t n (Call f (InsertApc a) Yes) x h =
    if_kinds s ((owner_of s a).0 == t.0) (insert_facts (new_pick s a n) x) x (insert_kinds s a n x h) h
named_kinds s t n (Call f (RemoveApc a) Yes) x h =
    if_kinds s ((owner_of s a).0 == t.0) (record x { apcs = without_apc a x.apcs }) x (filter_kinds s (λ x. not (is_of_apc a x)) x.apcs.pending h) h
named_kinds s t n (Expire (OfDelay u) from) x h = if_kinds s (u.0 == t.0) (expiry_facts from x) x
    (kinds_as s x.apcs (expiry_facts from x) (expiry_apcs from x) h) h
named_kinds s t n w x h = h

-- each pending APC of a thread has the kind that the script gives its object
pub kinds_fit : (s : Script) (t : ThreadNo) (past : List Event) → KindsFit s (facts s t past).apcs.pending
kinds_fit s t [] = tt
kinds_fit s t (e ∷ past) = go (is_of_thread s t e) refl (kinds_fit s t past)
  where
    go : (b : Bool) → is_of_thread s t e ≡ b → KindsFit s (facts s t past).apcs.pending → KindsFit s (facts s t (e ∷ past)).apcs.pending
    go true k ih =
        subst (λ (x : ThreadFacts). KindsFit s x.apcs.pending) (sym (facts_made s t e past true k))
        (named_kinds s t (length past) e.what (made_facts s (length past) (stand_at s e.cpu past) e.what (facts s t past))
        (made_kinds s (length past) (stand_at s e.cpu past) e.what (facts s t past) ih))
    go false k ih =
        subst (λ (x : ThreadFacts). KindsFit s x.apcs.pending) (sym (facts_made s t e past false k)) (named_kinds s t (length past) e.what (facts s t past) ih)

-- the processor of a legal event is one of the script's
pub legal_cpu : (s : Script) (limit : ℕ) (e : Event) (past : List Event) → IsLegal s limit e past → nat_lt e.cpu.0 s.cpus ≡ true
legal_cpu s limit e past h =
    subst (λ (p : CpuNo). nat_lt p.0 s.cpus ≡ true) (cpu_at-turn_at e.cpu e.what) (not_false _ (step_uncut s limit (turn_of e) past e h).0)

-- the queue that the lanes hold for a declared processor is the queue of the history
pub queue_there : (s : Script) (p : CpuNo) (past : List Event) → nat_lt p.0 s.cpus ≡ true → queue_at (lanes_at s past) p ≡ queue_of s p past
queue_there s p past h =
    get_or-table s.cpus p.0 (λ p. queue_of s (cpu p) past) start_queue (ltb-true p.0 s.cpus h)
