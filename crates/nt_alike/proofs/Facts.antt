-- What an event leaves of a thread's facts, but for numbers, depends on no number.
use Rattle.std.proofs.Common.{ap, sym, ◌∙◌}
use Rattle.std.specs.Option.{option_map_or}
use Rattle.std.specs.Prelude.{Bool, List, None, Option, Some, false, if◌then◌else◌, is_some, not, option_and_then, option_map, refl, true, ℕ, ◌&&◌, ◌==◌, ◌||◌}
use Rattle.std.specs.Prelude.{◌≡◌}
use Rattle.nt_event.specs.declared.commands.ApcKind.{ApcKind}
use Rattle.nt_event.specs.declared.commands.ApcKind.TheVariants.{Normal as NormalApc, Special as SpecialApc, User as UserApc}
use Rattle.nt_event.specs.declared.commands.Command.TheVariants.{Alert, Delay, InsertApc, Release, RemoveApc, StartWait, TestAlert, Yield}
use Rattle.nt_event.specs.declared.commands.Mode.{Mode}
use Rattle.nt_event.specs.declared.commands.Mode.TheVariants.{Kernel as KernelMode, User as UserMode}
use Rattle.nt_event.specs.declared.commands.Regions.{Regions}
use Rattle.nt_event.specs.declared.commands.Reply.{Reply}
use Rattle.nt_event.specs.declared.commands.Reply.TheVariants.{Done, Status, Yes}
use Rattle.nt_event.specs.declared.commands.TimerKey.TheVariants.{Delay as DelayKey}
use Rattle.nt_event.specs.declared.events.Begun.TheVariants.{Apc}
use Rattle.nt_event.specs.declared.events.Event.{Event}
use Rattle.nt_event.specs.declared.events.What.{What}
use Rattle.nt_event.specs.declared.events.What.TheVariants.{Begin, Call, End, Expire, Flush, Rewait}
use Rattle.nt_event.specs.declared.frames.Again.{Again}
use Rattle.nt_event.specs.declared.frames.Body.{Body}
use Rattle.nt_event.specs.declared.frames.Body.TheVariants.{Apc as OnApc, Base as OnBase}
use Rattle.nt_event.specs.declared.inserts.Pick.{Pick}
use Rattle.nt_event.specs.declared.jobs.Stand.{Stand}
use Rattle.nt_event.specs.declared.numbers.ApcNo.{ApcNo}
use Rattle.nt_event.specs.declared.numbers.ThreadNo.{ThreadNo}
use Rattle.nt_event.specs.declared.scripts.Script.{Script}
use Rattle.nt_event.specs.declared.threads.Doing.{Doing}
use Rattle.nt_event.specs.declared.threads.Doing.TheVariants.{Blocked as IsBlocked}
use Rattle.nt_event.specs.declared.threads.Waiting.{Waiting}
use Rattle.nt_event.specs.Apcs.{ApcQueues, deliverable, first_kernel, first_of_kind, first_user, has_kernel, has_user, is_inserted, is_of_apc, is_of_kind}
use Rattle.nt_event.specs.Apcs.{lets_through, with_apc, without_apc}
use Rattle.nt_event.specs.Lists.{when}
use Rattle.nt_event.specs.Replies.{alerted, is_answer, is_user, kernel_apc, satisfied, user_apc}
use Rattle.nt_event.specs.Routines.{is_kernel_kind, kind_of, owner_of}
use Rattle.nt_event.specs.Threads.{ThreadFacts, doing_level, ended, ends_by_alert, ends_by_apc, ends_by_expiry, ends_by_kernel, ends_by_release, ends_by_user}
use Rattle.nt_event.specs.Threads.{gone_doing, is_alerted, is_gone, not_below, set_alerted, waiting_of, waits_as}
use Rattle.nt_event.specs.Waits.{alert_facts, alert_taken, alert_tested, answered, apc_taken, expiry_facts, facts_after, frame_ended, insert_facts}
use Rattle.nt_event.specs.Waits.{is_of_thread, made_facts, named_facts, new_pick, release_facts, waited, waited_again}
use Rattle.nt_alike.specs.Bare.{bare_apcs, bare_doing, bare_event, bare_facts, bare_pick, bare_stand, bare_waiting, bare_what}
use Rattle.nt_alike.specs.Parts.{IsTimely}
use Rattle.nt_alike.proofs.Mapped.{any_map, filter_map, find_reverse_map, map_or}

-- ---- APCs

-- the first APC of a kind in a queue without numbers is that of the queue, without its number
of_kind_bare : (k : ApcKind) (q : ApcQueues) → first_of_kind k (bare_apcs q) ≡ option_map bare_pick (first_of_kind k q)
of_kind_bare k q = find_reverse_map bare_pick (is_of_kind k) (is_of_kind k) (λ x. refl) q.pending

-- the first kernel APC of a queue without numbers is that of the queue, without its number
kernel_bare : (q : ApcQueues) → first_kernel (bare_apcs q) ≡ option_map bare_pick (first_kernel q)
kernel_bare q = rw (of_kind_bare SpecialApc q, of_kind_bare NormalApc q) (map_or bare_pick (first_of_kind SpecialApc q) (first_of_kind NormalApc q))

-- the first user APC of a queue without numbers is that of the queue, without its number
pub user_bare : (q : ApcQueues) → first_user (bare_apcs q) ≡ option_map bare_pick (first_user q)
user_bare q = of_kind_bare UserApc q

-- mapping an optional value leaves whether there is one
pub is_some_map : {A B : Type 0} (f : A → B) (o : Option A) → is_some (option_map f o) ≡ is_some o
is_some_map f None = refl
is_some_map f (Some x) = refl

-- whether a user APC is pending does not depend on the numbers in the queue
pub has_user_bare : (q : ApcQueues) → has_user (bare_apcs q) ≡ has_user q
has_user_bare q = ap is_some (user_bare q) ∙ is_some_map bare_pick (first_user q)

-- whether a kernel APC is pending does not depend on the numbers in the queue
pub has_kernel_bare : (q : ApcQueues) → has_kernel (bare_apcs q) ≡ has_kernel q
has_kernel_bare q = ap is_some (kernel_bare q) ∙ is_some_map bare_pick (first_kernel q)

-- whether regions and level let a pick through does not depend on the pick's number
deliver_when : (r : Regions) (level : ℕ) (o : Option Pick) →
    option_and_then (λ (x : Pick). when ((level == 0) && lets_through r x.kind) (Some x)) (option_map bare_pick o)
    ≡ option_map bare_pick (option_and_then (λ (x : Pick). when ((level == 0) && lets_through r x.kind) (Some x)) o)
deliver_when r level None = refl
deliver_when r level (Some x) = go ((level == 0) && lets_through r x.kind)
  where
    go : (b : Bool) → when b (Some (bare_pick x)) ≡ option_map bare_pick (when b (Some x))
    go true = refl
    go false = refl

-- the deliverable kernel APC of a queue without numbers is that of the queue, without its number
pub deliverable_bare : (q : ApcQueues) (r : Regions) (level : ℕ) → deliverable (bare_apcs q) r level ≡ option_map bare_pick (deliverable q r level)
deliverable_bare q r level = rw (kernel_bare q) (deliver_when r level (first_kernel q))

-- whether a kernel APC is deliverable does not depend on the numbers in the queue
pub is_deliverable_bare : (q : ApcQueues) (r : Regions) (level : ℕ) → is_some (deliverable (bare_apcs q) r level) ≡ is_some (deliverable q r level)
is_deliverable_bare q r level = ap is_some (deliverable_bare q r level) ∙ is_some_map bare_pick (deliverable q r level)

-- whether an APC object is inserted in a queue does not depend on the numbers in the queue
pub is_inserted_bare : (a : ApcNo) (q : ApcQueues) → is_inserted a (bare_apcs q) ≡ is_inserted a q
is_inserted_bare a q = any_map bare_pick (is_of_apc a) (is_of_apc a) (λ x. refl) q.pending

-- dropping an APC from a queue and leaving out the numbers may be done in either order
without_bare : (a : ApcNo) (q : ApcQueues) → bare_apcs (without_apc a q) ≡ without_apc a (bare_apcs q)
without_bare a q =
    ap (λ (xs : List Pick). record q { pending = xs }) (sym (filter_map bare_pick (λ x. not (is_of_apc a x)) (λ x. not (is_of_apc a x)) (λ x. refl) q.pending))

-- ---- what ends a wait

-- the level of what a thread does does not depend on its numbers
level_bare : (d : Doing) → doing_level (bare_doing d) ≡ doing_level d
level_bare (IsBlocked w) = refl
level_bare d = refl

-- whether what a thread does is being gone does not depend on numbers
pub gone_bare : (d : Doing) → gone_doing (bare_doing d) ≡ gone_doing d
gone_bare (IsBlocked w) = refl
gone_bare d = refl

-- a test of waits that looks at no number says the same of what a thread does without its numbers
waits_bare : (test : Waiting → Bool) → ((w : Waiting) → test (bare_waiting w) ≡ test w) → (d : Doing) →
    option_map_or test (waiting_of (bare_doing d)) false ≡ option_map_or test (waiting_of d) false
waits_bare test h (IsBlocked w) = h w
waits_bare test h d = refl

-- whether a thread is alerted in a mode does not depend on the numbers in its facts
pub alerted_bare : (m : Mode) (x : ThreadFacts) → is_alerted m (bare_facts x) ≡ is_alerted m x
alerted_bare KernelMode x = refl
alerted_bare UserMode x = refl

-- setting an alert flag and leaving out the numbers of a thread's facts may be done in either order
set_bare : (m : Mode) (b : Bool) (x : ThreadFacts) → bare_facts (set_alerted m b x) ≡ set_alerted m b (bare_facts x)
set_bare KernelMode b x = refl
set_bare UserMode b x = refl

-- whether a release ends the thread's wait does not depend on the numbers in its facts
pub by_release_bare : (x : ThreadFacts) → ends_by_release (bare_facts x) ≡ ends_by_release x
by_release_bare x = waits_bare (λ w. not w.delay) (λ w. refl) x.doing

-- whether an alert in a mode ends the thread's wait does not depend on the numbers in its facts
pub by_alert_bare : (m : Mode) (x : ThreadFacts) → ends_by_alert m (bare_facts x) ≡ ends_by_alert m x
by_alert_bare m x = rw (alerted_bare m x, waits_bare (λ w. w.alertable && not_below w.mode m) (λ w. refl) x.doing) refl

-- whether a user APC ends a thread's wait does not depend on the numbers in its facts
by_user_bare : (x : ThreadFacts) → ends_by_user (bare_facts x) ≡ ends_by_user x
by_user_bare x = waits_bare (λ w. is_user w.mode && (w.alertable || x.user_pending)) (λ w. refl) x.doing

-- whether a kernel APC may be delivered in a thread's wait does not depend on numbers
by_kernel_doing : (q : ApcQueues) (d : Doing) →
    option_map_or (λ (w : Waiting). is_some (deliverable (bare_apcs q) w.regions w.level)) (waiting_of (bare_doing d)) false
    ≡ option_map_or (λ (w : Waiting). is_some (deliverable q w.regions w.level)) (waiting_of d) false
by_kernel_doing q (IsBlocked w) = is_deliverable_bare q w.regions w.level
by_kernel_doing q d = refl

-- whether an inserted APC of a kind ends the thread's wait does not depend on numbers
by_kind : (k : ApcKind) (p : Pick) (x : ThreadFacts) →
    (if is_kernel_kind k then ends_by_kernel (bare_apcs (with_apc p x.apcs)) (bare_facts x) else ends_by_user (bare_facts x))
    ≡ (if is_kernel_kind k then ends_by_kernel (with_apc p x.apcs) x else ends_by_user x)
by_kind UserApc p x = by_user_bare x
by_kind k p x = by_kernel_doing (with_apc p x.apcs) x.doing

-- whether an inserted APC ends the thread's wait depends neither on its number nor on those in the facts
pub by_apc_bare : (p : Pick) (x : ThreadFacts) → ends_by_apc (bare_pick p) (bare_facts x) ≡ ends_by_apc p x
by_apc_bare p x = by_kind p.kind p x

-- ending a thread's wait and leaving out the numbers may be done in either order
ended_bare : (st : ℕ) (x : ThreadFacts) → bare_facts (ended st x) ≡ ended st (bare_facts x)
ended_bare st x = rw (level_bare x.doing) refl

-- one of two by a test that says the same
either : (b c : Bool) (x y v w : ThreadFacts) → c ≡ b → bare_facts x ≡ v → bare_facts y ≡ w → bare_facts (if b then x else y) ≡ (if c then v else w)
either true c x y v w e h k = rw e h
either false c x y v w e h k = rw e k

-- ---- events that name the thread

-- releasing a thread and leaving out the numbers may be done in either order
release_bare : (x : ThreadFacts) → bare_facts (release_facts x) ≡ release_facts (bare_facts x)
release_bare x =
    either (ends_by_release x) (ends_by_release (bare_facts x)) _ _ _ _ (by_release_bare x) (ended_bare satisfied x)
    (either (is_gone x) (is_gone (bare_facts x)) _ _ _ _ (gone_bare x.doing) refl refl)

-- alerting a thread and leaving out the numbers may be done in either order
alert_bare : (m : Mode) (x : ThreadFacts) → bare_facts (alert_facts m x) ≡ alert_facts m (bare_facts x)
alert_bare m x =
    either (is_gone x) (is_gone (bare_facts x)) _ _ _ _ (gone_bare x.doing) refl
    (either (ends_by_alert m x) (ends_by_alert m (bare_facts x)) _ _ _ _ (by_alert_bare m x) (ended_bare alerted x) (set_bare m true x))

-- inserting an APC at a thread and leaving out the numbers may be done in either order
insert_bare : (p : Pick) (x : ThreadFacts) → bare_facts (insert_facts p x) ≡ insert_facts (bare_pick p) (bare_facts x)
insert_bare p x =
    let y : ThreadFacts = record x { apcs = with_apc p x.apcs } in
    either (ends_by_apc p x) (ends_by_apc (bare_pick p) (bare_facts x)) _ _ _ _ (by_apc_bare p x)
    (either (is_kernel_kind p.kind) (is_kernel_kind p.kind) _ _ _ _ refl (ended_bare kernel_apc y)
    (ap (λ (z : ThreadFacts). record z { user_pending = true }) (ended_bare user_apc y))) refl

-- a conjunction with true is its first part
and_true : (b : Bool) → (b && true) ≡ b
and_true true = refl
and_true false = refl

-- with all numbers 0 each delay is the one of its wait
pub zero_expiry : (d : Doing) → option_map_or (λ (w : Waiting). w.delay && (w.event == 0)) (waiting_of (bare_doing d)) false
    ≡ option_map_or (λ (w : Waiting). w.delay) (waiting_of d) false
zero_expiry (IsBlocked w) = and_true w.delay
zero_expiry d = refl

-- a timely delay expiry and leaving out the numbers may be done in either order
expiry_bare : (from : ℕ) (x : ThreadFacts) → ends_by_expiry from x ≡ waits_as (λ w. w.delay) x →
    bare_facts (expiry_facts from x) ≡ expiry_facts 0 (bare_facts x)
expiry_bare from x h =
    either (ends_by_expiry from x) (ends_by_expiry 0 (bare_facts x)) _ _ _ _ (zero_expiry x.doing ∙ sym h) (ended_bare satisfied x) refl

-- a timely event leaves the thread that it names the same facts, but for numbers, whatever the numbers
named_bare : (s : Script) (t : ThreadNo) (n : ℕ) (w : What) (x : ThreadFacts) → IsTimely t w x →
    bare_facts (named_facts s t n w x) ≡ named_facts s t 0 (bare_what w) (bare_facts x)
named_bare s t n (Call f (Release u) y) x h = either (is_answer y && (u.0 == t.0)) (is_answer y && (u.0 == t.0)) _ _ _ _ refl (release_bare x) refl
named_bare s t n (Call f (Alert u m) y) x h = either (is_answer y && (u.0 == t.0)) (is_answer y && (u.0 == t.0)) _ _ _ _ refl (alert_bare m x) refl
named_bare s t n (Call f (InsertApc a) Yes) x h =
    either ((owner_of s a).0 == t.0) ((owner_of s a).0 == t.0) _ _ _ _ refl (insert_bare (new_pick s a n) x) refl
named_bare s t n (Call f (RemoveApc a) Yes) x h =
    either ((owner_of s a).0 == t.0) ((owner_of s a).0 == t.0) _ _ _ _ refl
    (ap (λ (q : ApcQueues). record (bare_facts x) { apcs = q }) (without_bare a x.apcs)) refl
named_bare s t n (Expire (DelayKey u) from) x h = go (u.0 == t.0) refl
  where
    go : (b : Bool) → (u.0 == t.0) ≡ b → bare_facts (if b then expiry_facts from x else x) ≡ (if b then expiry_facts 0 (bare_facts x) else bare_facts x)
    go true e = expiry_bare from x (h e)
    go false e = refl
named_bare s t n (Call f c y) x h = refl
named_bare s t n w x h = refl

-- ---- events that the thread makes

-- taking an alert of a mode and leaving out the numbers may be done in either order
taken_bare : (m : Mode) (x : ThreadFacts) → bare_facts (alert_taken m x) ≡ alert_taken m (bare_facts x)
taken_bare m x =
    set_bare (if is_alerted m x then m else KernelMode) false x
    ∙ ap (λ (b : Bool). set_alerted (if b then m else KernelMode) false (bare_facts x)) (sym (alerted_bare m x))

-- a wait that is answered at once leaves facts that, but for numbers, do not depend on any
answered_bare : (st : ℕ) (m : Mode) (alertable delay : Bool) (x : ThreadFacts) →
    bare_facts (answered st m alertable delay x) ≡ answered st m alertable delay (bare_facts x)
answered_bare st m alertable delay x =
    either (st == satisfied) (st == satisfied) _ _ _ _ refl (either delay delay _ _ _ _ refl refl refl)
    (either (st == alerted) (st == alerted) _ _ _ _ refl (taken_bare m x)
    (either ((st == user_apc) && alertable) ((st == user_apc) && alertable) _ _ _ _ refl refl refl))

-- a wait call leaves facts that, but for numbers, do not depend on any
waited_bare : (n : ℕ) (r : Regions) (level : ℕ) (m : Mode) (alertable delay : Bool) (y : Reply) (x : ThreadFacts) →
    bare_facts (waited n r level m alertable delay y x) ≡ waited 0 r level m alertable delay y (bare_facts x)
waited_bare n r level m alertable delay (Status st) x = answered_bare st m alertable delay x
waited_bare n r level m alertable delay y x = refl

-- a wait that is taken up again leaves facts that, but for numbers, do not depend on any
again_bare : (n : ℕ) (r : Regions) (level : ℕ) (w : Option Again) (y : Reply) (x : ThreadFacts) →
    bare_facts (waited_again n r level w y x) ≡ waited_again 0 r level w y (bare_facts x)
again_bare n r level None y x = refl
again_bare n r level (Some w) y x = waited_bare n r level w.mode w.alertable (is_some w.due) y x

-- testing for an alert and leaving out the numbers may be done in either order
tested_bare : (m : Mode) (x : ThreadFacts) → bare_facts (alert_tested m x) ≡ alert_tested m (bare_facts x)
tested_bare m x =
    either (is_alerted m x) (is_alerted m (bare_facts x)) _ _ _ _ (alerted_bare m x) (set_bare m false x)
    (either (is_user m && has_user x.apcs)
    (is_user m && has_user (bare_apcs x.apcs)) _ _ _ _ (ap (λ (b : Bool). is_user m && b) (has_user_bare x.apcs)) refl refl)

-- taking an APC off for its run and leaving out the numbers may be done in either order
apc_taken_bare : (k : ApcKind) (a : ApcNo) (x : ThreadFacts) → bare_facts (apc_taken k a x) ≡ apc_taken k a (bare_facts x)
apc_taken_bare UserApc a x = ap (λ (q : ApcQueues). record (bare_facts x) { user_pending = false; apcs = q }) (without_bare a x.apcs)
apc_taken_bare k a x = ap (λ (q : ApcQueues). record (bare_facts x) { apcs = q }) (without_bare a x.apcs)

-- the end of a thread's frame and leaving out the numbers may be done in either order
ended_frame_bare : (b : Option Body) (x : ThreadFacts) → bare_facts (frame_ended b x) ≡ frame_ended b (bare_facts x)
ended_frame_bare (Some (OnApc a UserApc)) x = tested_bare UserMode x
ended_frame_bare (Some (OnBase t)) x = refl
ended_frame_bare b x = refl

-- an event leaves its own thread the same facts, but for numbers, whatever the numbers
made_bare : (s : Script) (n : ℕ) (st : Stand) (w : What) (x : ThreadFacts) →
    bare_facts (made_facts s n st w x) ≡ made_facts s 0 (bare_stand st) (bare_what w) (bare_facts x)
made_bare s n st (Call f (StartWait m a) y) x = waited_bare n st.regions st.level m a false y x
made_bare s n st (Call f (Delay m a u) y) x = waited_bare n st.regions st.level m a true y x
made_bare s n st (Rewait f y) x = again_bare n st.regions st.level st.again y x
made_bare s n st (Call f (TestAlert m) y) x = either (is_answer y) (is_answer y) _ _ _ _ refl (tested_bare m x) refl
made_bare s n st (Call f Yield Done) x = refl
made_bare s n st (Begin (Apc a) from) x = apc_taken_bare (kind_of s a) a x
made_bare s n st (End f) x = ended_frame_bare st.body x
made_bare s n st (Flush a from) x = ap (λ (q : ApcQueues). record (bare_facts x) { apcs = q }) (without_bare a x.apcs)
made_bare s n st (Call f c y) x = refl
made_bare s n st (Begin b from) x = refl
made_bare s n st w x = refl

-- an expiry isn't made by a thread
timely_made : (s : Script) (t : ThreadNo) (n : ℕ) (st : Stand) (b : Bool) (w : What) (x : ThreadFacts) → IsTimely t w x →
    IsTimely t w (if b then made_facts s n st w x else x)
timely_made s t n st true (Expire (DelayKey u) from) x h = h
timely_made s t n st false w x h = h
timely_made s t n st true w x h = tt

-- the facts of a thread after a timely event, but for numbers, depend on no number
pub facts_bare : (s : Script) (t : ThreadNo) (n : ℕ) (st : Stand) (e : Event) (x : ThreadFacts) → IsTimely t e.what x →
    bare_facts (facts_after s t n st e x) ≡ facts_after s t 0 (bare_stand st) (bare_event e) (bare_facts x)
facts_bare s t n st e x h =
    named_bare s t n e.what (if is_of_thread s t e then made_facts s n st e.what x else x) (timely_made s t n st (is_of_thread s t e) e.what x h)
    ∙ ap (named_facts s t 0 (bare_what e.what)) (either (is_of_thread s t e) (is_of_thread s t e) _ _ _ _ refl (made_bare s n st e.what x) refl)
