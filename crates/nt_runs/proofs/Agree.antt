-- In a run, the facts of a thread agree with its frames: it runs where its facts say so, and one that doesn't run has the level and,
-- blocked, the regions with which it stopped.
use Rattle.std.proofs.Common.{ap, inl, inr, subst, sym, ◌∙◌}
use Rattle.std.specs.Option.{option_map_or}
use Rattle.std.specs.Prelude.{Bool, List, Some, false, if◌then◌else◌, is_some, not, refl, true, ℕ, ◌&&◌, ◌==◌, ◌||◌, ◌≡◌, ◌⊎◌}
use Rattle.nt_event.specs.declared.commands.Command.TheVariants.{Alert, InsertApc, Release, RemoveApc}
use Rattle.nt_event.specs.declared.commands.Mode.{Mode}
use Rattle.nt_event.specs.declared.commands.Mode.TheVariants.{Kernel as KernelMode, User as UserMode}
use Rattle.nt_event.specs.declared.commands.Reply.TheVariants.{Yes}
use Rattle.nt_event.specs.declared.commands.TimerKey.TheVariants.{Delay as OfDelay}
use Rattle.nt_event.specs.declared.events.What.{What}
use Rattle.nt_event.specs.declared.events.What.TheVariants.{Call, Expire}
use Rattle.nt_event.specs.Frame.{Frame}
use Rattle.nt_event.specs.declared.inserts.Pick.{Pick}
use Rattle.nt_event.specs.declared.numbers.ThreadNo.{ThreadNo}
use Rattle.nt_event.specs.declared.scripts.Script.{Script}
use Rattle.nt_event.specs.declared.threads.Doing.{Doing}
use Rattle.nt_event.specs.declared.threads.Doing.TheVariants.{Blocked as IsBlocked, Gone as IsGone, Ready as IsReady, Running as IsRunning}
use Rattle.nt_event.specs.declared.threads.Waiting.{Waiting}
use Rattle.nt_event.specs.Apcs.{deliverable, with_apc, without_apc}
use Rattle.nt_runs.specs.Laws.{Says, level_of}
use Rattle.nt_event.specs.Regions.{regions_of}
use Rattle.nt_event.specs.Routines.{is_kernel_kind, owner_of}
use Rattle.nt_event.specs.Threads.{ThreadFacts, doing_level, ended, ends_by_alert, ends_by_apc, ends_by_expiry, ends_by_kernel, ends_by_release, ends_by_user}
use Rattle.nt_event.specs.Threads.{is_alerted, is_gone, not_below, set_alerted, waiting_of, waits_as}
use Rattle.nt_event.specs.Waits.{alert_facts, expiry_facts, insert_facts, named_facts, new_pick, release_facts}
use Rattle.nt_event.specs.Replies.{alerted, is_answer, is_user, kernel_apc, satisfied, user_apc}
use Rattle.nt_event.proofs.Options.{both}

-- the thread runs exactly where its facts say so
pub runs_as : (d : Doing) (fs : List Frame) (runs : Type 0) → Says d fs runs → runs → d ≡ IsRunning
runs_as IsRunning fs runs h r = refl
runs_as (IsReady level st) fs runs h r = absurd (h.0 r)
runs_as (IsBlocked w) fs runs h r = absurd (h.0 r)
runs_as IsGone fs runs h r = absurd (h.0 r)

-- ---- an event that the thread doesn't make

-- its doing stays, or its wait is ended
abbrev pub Ends : Doing → Doing → Type 0
Ends old new = (new ≡ old) ⊎ ((w : Waiting) × (st : ℕ) × (old ≡ IsBlocked w) × (new ≡ IsReady w.level (Some st)))

-- a thread whose wait passes a test is blocked in some wait
waits_some : (test : Waiting → Bool) (x : ThreadFacts) → waits_as test x ≡ true → (w : Waiting) × (x.doing ≡ IsBlocked w)
waits_some test x h = go x.doing refl h
  where
    go : (d : Doing) → x.doing ≡ d → option_map_or test (waiting_of d) false ≡ true → (w : Waiting) × (x.doing ≡ IsBlocked w)
    go (IsBlocked w) e h = (w, e)
    go (IsReady level st) e h = cc
    go IsRunning e h = cc
    go IsGone e h = cc

-- making a blocked thread ready with a status, at the level of its wait, ends its wait
ends_so : (st : ℕ) (old : Doing) (w : Waiting) → old ≡ IsBlocked w → Ends old (IsReady (doing_level old) (Some st))
ends_so st old w e = inr (w, st, e, ap (λ (d : Doing). IsReady (doing_level d) (Some st)) e)

-- a release leaves a thread's doing as it was or ends its wait
release_ends : (x : ThreadFacts) → Ends x.doing (release_facts x).doing
release_ends x = go (ends_by_release x) refl
  where
    other : (b : Bool) → Ends x.doing (if b then x else record x { released = true }).doing
    other true = inl refl
    other false = inl refl

    go : (b : Bool) → ends_by_release x ≡ b → Ends x.doing (if b then ended satisfied x else (if is_gone x then x else record x { released = true })).doing
    go true e = let k = waits_some (λ w. not w.delay) x e in ends_so satisfied x.doing k.0 k.1
    go false e = other (is_gone x)

-- setting or clearing an alert flag leaves what a thread is doing
set_doing : (m : Mode) (b : Bool) (x : ThreadFacts) → (set_alerted m b x).doing ≡ x.doing
set_doing KernelMode b x = refl
set_doing UserMode b x = refl

-- an alert leaves a thread's doing as it was or ends its wait
alert_ends : (m : Mode) (x : ThreadFacts) → Ends x.doing (alert_facts m x).doing
alert_ends m x = gone (is_gone x) (ends_by_alert m x) refl
  where
    gone : (g b : Bool) → ends_by_alert m x ≡ b → Ends x.doing (if g then x else (if b then ended alerted x else set_alerted m true x)).doing
    gone true b e = inl refl
    gone false true e =
        let k = waits_some (λ w. w.alertable && not_below w.mode m) x (both (not (is_alerted m x)) _ e).1 in
        ends_so alerted x.doing k.0 k.1
    gone false false e = inl (set_doing m true x)

-- the expiry of a timeout leaves a thread's doing as it was or ends its wait
expiry_ends : (from : ℕ) (x : ThreadFacts) → Ends x.doing (expiry_facts from x).doing
expiry_ends from x = go (ends_by_expiry from x) refl
  where
    go : (b : Bool) → ends_by_expiry from x ≡ b → Ends x.doing (if b then ended satisfied x else x).doing
    go true e = let k = waits_some (λ w. w.delay && (w.event == from)) x e in ends_so satisfied x.doing k.0 k.1
    go false e = inl refl

-- a thread whose wait an APC ends is blocked
apc_blocked : (pick : Pick) (x : ThreadFacts) → ends_by_apc pick x ≡ true → (w : Waiting) × (x.doing ≡ IsBlocked w)
apc_blocked pick x h = go (is_kernel_kind pick.kind) h
  where
    go : (k : Bool) → (if k then ends_by_kernel (with_apc pick x.apcs) x else ends_by_user x) ≡ true → (w : Waiting) × (x.doing ≡ IsBlocked w)
    go true h = waits_some (λ w. is_some (deliverable (with_apc pick x.apcs) w.regions w.level)) x h
    go false h = waits_some (λ w. is_user w.mode && (w.alertable || x.user_pending)) x h

-- the insert of an APC leaves a thread's doing as it was or ends its wait
insert_ends : (pick : Pick) (x : ThreadFacts) → Ends x.doing (insert_facts pick x).doing
insert_ends pick x = go (ends_by_apc pick x) (is_kernel_kind pick.kind) refl
  where
    go : (b k : Bool) → ends_by_apc pick x ≡ b → Ends x.doing
        (if b then (if k then ended kernel_apc (record x { apcs = with_apc pick x.apcs })
        else record (ended user_apc (record x { apcs = with_apc pick x.apcs })) { user_pending = true }) else record x { apcs = with_apc pick x.apcs }).doing
    go true true e = let k = apc_blocked pick x e in ends_so kernel_apc x.doing k.0 k.1
    go true false e = let k = apc_blocked pick x e in ends_so user_apc x.doing k.0 k.1
    go false k e = inl refl

-- a change made only under a condition leaves the doing or ends the wait, if the change itself does
ends_if : (b : Bool) (x y : ThreadFacts) → Ends x.doing y.doing → Ends x.doing (if b then y else x).doing
ends_if true x y h = h
ends_if false x y h = inl refl

-- what an event does to a thread as its target leaves its doing as it was or ends its wait
pub named_ends : (s : Script) (t : ThreadNo) (n : ℕ) (w : What) (x : ThreadFacts) → Ends x.doing (named_facts s t n w x).doing
named_ends s t n (Call f (Release u) y) x = ends_if (is_answer y && (u.0 == t.0)) x (release_facts x) (release_ends x)
named_ends s t n (Call f (Alert u m) y) x = ends_if (is_answer y && (u.0 == t.0)) x (alert_facts m x) (alert_ends m x)
named_ends s t n (Call f (InsertApc a) Yes) x =
    ends_if ((owner_of s a).0 == t.0) x (insert_facts (new_pick s a n) x) (insert_ends (new_pick s a n) x)
named_ends s t n (Call f (RemoveApc a) Yes) x =
    ends_if ((owner_of s a).0 == t.0) x (record x { apcs = without_apc a x.apcs }) (inl refl)
named_ends s t n (Expire (OfDelay u) from) x = ends_if (u.0 == t.0) x (expiry_facts from x) (expiry_ends from x)
named_ends s t n w x = inl refl

-- what facts say of frames they still say after the thread's wait is ended
pub says_ended : (old new : Doing) (fs : List Frame) (runs : Type 0) → Ends old new → Says old fs runs → Says new fs runs
says_ended old new fs runs (inl e) h = subst (λ (d : Doing). Says d fs runs) (sym e) h
says_ended old new fs runs (inr k) h =
    let b : Says (IsBlocked k.0) fs runs = subst (λ (d : Doing). Says d fs runs) k.2 h in
    subst (λ (d : Doing). Says d fs runs) (sym k.3) (b.0, b.1)

-- a running thread's wait isn't ended, since it is in none
runs_on : (old new : Doing) → Ends old new → old ≡ IsRunning → new ≡ IsRunning
runs_on old new (inl e) r = e ∙ r
runs_on old new (inr k) r = let x : IsRunning ≡ IsBlocked k.0 = sym r ∙ k.2 in cc

-- what facts say of frames depends only on the frames and on whether the thread runs
pub says_same : (d : Doing) (fs gs : List Frame) (a b : Type 0) → fs ≡ gs → (a → b) → (b → a) → Says d fs a → Says d gs b
says_same IsRunning fs gs a b e f g h = f h
says_same (IsReady level st) fs gs a b e f g h = (λ r. h.0 (g r), h.1 ∙ ap level_of e)
says_same (IsBlocked w) fs gs a b e f g h = (λ r. h.0 (g r), h.1 ∙ ap level_of e, h.2 ∙ ap regions_of e)
says_same IsGone fs gs a b e f g h = (λ r. h.0 (g r), sym e ∙ h.1)
