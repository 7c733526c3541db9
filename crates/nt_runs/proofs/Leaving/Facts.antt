-- The fact leaving of a thread, event by event.
use Rattle.std.specs.Prelude.{Bool, None, Option, Some, false, if◌then◌else◌, is_some, refl, true, ℕ, ◌&&◌, ◌==◌, ◌≡◌}
use Rattle.nt_event.specs.declared.commands.ApcKind.{ApcKind}
use Rattle.nt_event.specs.declared.commands.ApcKind.TheVariants.{User as UserApc}
use Rattle.nt_event.specs.declared.commands.Command.TheVariants.{Alert, Delay, InsertApc, Release, RemoveApc, StartWait, TestAlert, Yield}
use Rattle.nt_event.specs.declared.commands.Mode.{Mode}
use Rattle.nt_event.specs.declared.commands.Mode.TheVariants.{Kernel as KernelMode, User as UserMode}
use Rattle.nt_event.specs.declared.commands.Regions.{Regions}
use Rattle.nt_event.specs.declared.commands.Reply.{Reply}
use Rattle.nt_event.specs.declared.commands.Reply.TheVariants.{Blocked, Done, Status, Yes}
use Rattle.nt_event.specs.declared.commands.TimerKey.TheVariants.{Delay as OfDelay}
use Rattle.nt_event.specs.declared.events.Begun.TheVariants.{Apc}
use Rattle.nt_event.specs.declared.events.What.{What}
use Rattle.nt_event.specs.declared.events.What.TheVariants.{Begin, Call, End, Expire, Gone, Rewait}
use Rattle.nt_event.specs.declared.frames.Again.{Again}
use Rattle.nt_event.specs.declared.inserts.Pick.{Pick}
use Rattle.nt_event.specs.declared.jobs.Stand.{Stand}
use Rattle.nt_event.specs.declared.numbers.ApcNo.{ApcNo}
use Rattle.nt_event.specs.declared.numbers.ThreadNo.{ThreadNo}
use Rattle.nt_event.specs.declared.scripts.Script.{Script}
use Rattle.nt_event.specs.Apcs.{has_user, with_apc, without_apc}
use Rattle.nt_event.specs.Routines.{is_kernel_kind, kind_of, owner_of}
use Rattle.nt_event.specs.Threads.{ThreadFacts, ended, ends_by_alert, ends_by_apc, ends_by_expiry, ends_by_release, is_alerted, is_gone, set_alerted}
use Rattle.nt_event.specs.Waits.{alert_facts, alert_taken, alert_tested, answered, apc_taken, expiry_facts, insert_facts, made_facts, named_facts, new_pick}
use Rattle.nt_event.specs.Waits.{release_facts, waited, waited_again}
use Rattle.nt_event.specs.Replies.{alerted, is_answer, is_user, kernel_apc, satisfied, user_apc}

-- what an event that the thread doesn't make leaves
set_leaving : (m : Mode) (b : Bool) (x : ThreadFacts) → (set_alerted m b x).leaving ≡ x.leaving
set_leaving KernelMode b x = refl
set_leaving UserMode b x = refl

-- of two results that keep the fact of leaving, the one picked by a test keeps it too
if_leaving : (b : Bool) (x y z : ThreadFacts) → x.leaving ≡ z.leaving → y.leaving ≡ z.leaving → (if b then x else y).leaving ≡ z.leaving
if_leaving true x y z h k = h
if_leaving false x y z h k = k

-- a release keeps the fact of leaving
release_leaving : (x : ThreadFacts) → (release_facts x).leaving ≡ x.leaving
release_leaving x = if_leaving (ends_by_release x) (ended satisfied x) _ x refl (if_leaving (is_gone x) x (record x { released = true }) x refl refl)

-- an alert keeps the fact of leaving
alert_leaving : (m : Mode) (x : ThreadFacts) → (alert_facts m x).leaving ≡ x.leaving
alert_leaving m x = if_leaving (is_gone x) x _ x refl (if_leaving (ends_by_alert m x) (ended alerted x) (set_alerted m true x) x refl (set_leaving m true x))

-- the insert of an APC keeps the fact of leaving
insert_leaving : (pick : Pick) (x : ThreadFacts) → (insert_facts pick x).leaving ≡ x.leaving
insert_leaving pick x =
    let y : ThreadFacts = record x { apcs = with_apc pick x.apcs } in
    if_leaving (ends_by_apc pick x) (if is_kernel_kind pick.kind then ended kernel_apc y else record (ended user_apc y) { user_pending = true }) y x
    (if_leaving (is_kernel_kind pick.kind) (ended kernel_apc y) (record (ended user_apc y) { user_pending = true }) x refl refl) refl

-- what an event does to a thread as its target doesn't change whether it is leaving
pub facts_named : (s : Script) (t : ThreadNo) (n : ℕ) (w : What) (x : ThreadFacts) → (named_facts s t n w x).leaving ≡ x.leaving
facts_named s t n (Call f (Release u) y) x = if_leaving (is_answer y && (u.0 == t.0)) (release_facts x) x x (release_leaving x) refl
facts_named s t n (Call f (Alert u m) y) x = if_leaving (is_answer y && (u.0 == t.0)) (alert_facts m x) x x (alert_leaving m x) refl
facts_named s t n (Call f (InsertApc a) Yes) x =
    if_leaving ((owner_of s a).0 == t.0) (insert_facts (new_pick s a n) x) x x (insert_leaving (new_pick s a n) x) refl
facts_named s t n (Call f (RemoveApc a) Yes) x =
    if_leaving ((owner_of s a).0 == t.0) (record x { apcs = without_apc a x.apcs }) x x refl refl
facts_named s t n (Expire (OfDelay u) from) x =
    if_leaving (u.0 == t.0) (expiry_facts from x) x x (if_leaving (ends_by_expiry from x) (ended satisfied x) x x refl refl) refl
facts_named s t n w x = refl

-- a test for an alert doesn't change whether the thread is leaving
pub tested_leaving : (m : Mode) (x : ThreadFacts) → (alert_tested m x).leaving ≡ x.leaving
tested_leaving m x =
    if_leaving (is_alerted m x) (set_alerted m false x) _ x (set_leaving m false x)
    (if_leaving (is_user m && has_user x.apcs) (record x { user_pending = true }) x x refl refl)

-- a wait answered without blocking keeps the fact of leaving
answered_leaving : (st : ℕ) (m : Mode) (a delay : Bool) (x : ThreadFacts) → (answered st m a delay x).leaving ≡ x.leaving
answered_leaving st m a delay x =
    if_leaving (st == satisfied) (if delay then x else record x { released = false }) _ x (if_leaving delay x (record x { released = false }) x refl refl)
    (if_leaving (st == alerted) (alert_taken m x) _ x (set_leaving (if is_alerted m x then m else KernelMode) false x)
    (if_leaving ((st == user_apc) && a) (record x { user_pending = true }) x x refl refl))

-- a wait, blocking or not, keeps the fact of leaving
waited_leaving : (n : ℕ) (r : Regions) (level : ℕ) (m : Mode) (a delay : Bool) (y : Reply) (x : ThreadFacts) → (waited n r level m a delay y x).leaving
    ≡ x.leaving
waited_leaving n r level m a delay (Status st) x = answered_leaving st m a delay x
waited_leaving n r level m a delay Blocked x = refl
waited_leaving n r level m a delay y x = refl

-- a wait taken up again keeps the fact of leaving
again_leaving : (n : ℕ) (r : Regions) (level : ℕ) (o : Option Again) (y : Reply) (x : ThreadFacts) → (waited_again n r level o y x).leaving ≡ x.leaving
again_leaving n r level None y x = refl
again_leaving n r level (Some w) y x = waited_leaving n r level w.mode w.alertable (is_some w.due) y x

-- an APC that begins keeps the fact of leaving
taken_leaving : (k : ApcKind) (a : ApcNo) (x : ThreadFacts) → (apc_taken k a x).leaving ≡ x.leaving
taken_leaving UserApc a x = refl
taken_leaving k a x = refl

abbrev pub is_end : What → Bool
is_end (End f) = true
is_end (Gone t) = true
is_end w = false

-- what an event that the thread makes leaves, but at an end
pub facts_made_so : (s : Script) (n : ℕ) (st : Stand) (w : What) (x : ThreadFacts) → is_end w ≡ false → (made_facts s n st w x).leaving ≡ x.leaving
facts_made_so s n st (Call f (StartWait m a) y) x h = waited_leaving n st.regions st.level m a false y x
facts_made_so s n st (Call f (Delay m a u) y) x h = waited_leaving n st.regions st.level m a true y x
facts_made_so s n st (Call f (TestAlert m) y) x h =
    if_leaving (is_answer y) (alert_tested m x) x x (tested_leaving m x) refl
facts_made_so s n st (Call f Yield Done) x h = refl
facts_made_so s n st (Rewait f y) x h = again_leaving n st.regions st.level st.again y x
facts_made_so s n st (Begin (Apc a) from) x h = taken_leaving (kind_of s a) a x
facts_made_so s n st (End f) x h = cc
facts_made_so s n st (Gone t) x h = cc
facts_made_so s n st w x h = refl
