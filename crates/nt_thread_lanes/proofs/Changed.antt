-- What an event leaves of the APC queue of the thread that it changes.
use Rattle.std.proofs.Common.{◌≡◌, Bool, Option, None, Some, false, if◌then◌else◌, is_some, refl, true, ℕ, ◌&&◌, ◌==◌}
use Rattle.nt_event.specs.declared.commands.ApcKind.{ApcKind}
use Rattle.nt_event.specs.declared.commands.ApcKind.TheVariants.{User as UserApc}
use Rattle.nt_event.specs.declared.commands.Command.TheVariants.{Alert, Delay, InsertApc, Release, RemoveApc, StartWait, TestAlert, Yield}
use Rattle.nt_event.specs.declared.commands.Mode.{Mode}
use Rattle.nt_event.specs.declared.commands.Mode.TheVariants.{Kernel as KernelMode, User as UserMode}
use Rattle.nt_event.specs.declared.commands.Regions.{Regions}
use Rattle.nt_event.specs.declared.commands.Reply.{Reply}
use Rattle.nt_event.specs.declared.commands.Reply.TheVariants.{Blocked, Done, Status, Yes}
use Rattle.nt_event.specs.declared.commands.TimerKey.TheVariants.{Delay as OfDelay}
use Rattle.nt_event.specs.declared.events.Begun.TheVariants.{Apc}
use Rattle.nt_event.specs.declared.events.What.{What}
use Rattle.nt_event.specs.declared.events.What.TheVariants.{Begin, Call, End, Expire, Flush, Gone, Rewait}
use Rattle.nt_event.specs.declared.frames.Again.{Again}
use Rattle.nt_event.specs.declared.frames.Body.{Body}
use Rattle.nt_event.specs.declared.frames.Body.TheVariants.{Apc as OnApc, Base as OnBase}
use Rattle.nt_event.specs.declared.inserts.Pick.{Pick}
use Rattle.nt_event.specs.declared.jobs.Stand.{Stand}
use Rattle.nt_event.specs.declared.numbers.ApcNo.{ApcNo}
use Rattle.nt_event.specs.declared.scripts.Script.{Script}
use Rattle.nt_event.specs.Apcs.{ApcQueues, closed_apcs, has_user, with_apc, without_apc}
use Rattle.nt_event.specs.Routines.{is_kernel_kind, kind_of}
use Rattle.nt_event.specs.Threads.{ThreadFacts, ended, ends_by_alert, ends_by_apc, ends_by_expiry, ends_by_release, is_alerted, is_gone, set_alerted}
use Rattle.nt_event.specs.Waits.{alert_taken, alert_tested, answered, apc_taken, frame_ended, insert_facts, made_facts, new_pick, waited, waited_again}
use Rattle.nt_event.specs.Replies.{alerted, is_answer, is_user, kernel_apc, satisfied, user_apc}
use Rattle.nt_states.specs.ThreadFits.{told_facts}

-- the queue after an event that the thread makes
abbrev pub ended_queue : Option Body → ApcQueues → ApcQueues
ended_queue (Some (OnBase t)) q = closed_apcs q
ended_queue body q = q

abbrev pub made_queue : Stand → What → ApcQueues → ApcQueues
made_queue st (Begin (Apc a) from) q = without_apc a q
made_queue st (Flush a from) q = without_apc a q
made_queue st (End f) q = ended_queue st.body q
made_queue st w q = q

-- and after one that names it
abbrev pub told_queue : Script → ℕ → What → ApcQueues → ApcQueues
told_queue s n (Call f (InsertApc a) Yes) q = with_apc (new_pick s a n) q
told_queue s n (Call f (RemoveApc a) Yes) q = without_apc a q
told_queue s n w q = q

-- choosing between two states of a thread with the same APC queue gives that queue
queue_if : (b : Bool) (x y : ThreadFacts) (q : ApcQueues) → x.apcs ≡ q → y.apcs ≡ q → (if b then x else y).apcs ≡ q
queue_if true x y q h k = h
queue_if false x y q h k = k

-- setting or clearing an alert of a thread leaves its APC queue as it was
alerted_queue : (m : Mode) (b : Bool) (x : ThreadFacts) → (set_alerted m b x).apcs ≡ x.apcs
alerted_queue KernelMode b x = refl
alerted_queue UserMode b x = refl

-- testing a thread's alert leaves its APC queue as it was
tested_queue : (m : Mode) (x : ThreadFacts) → (alert_tested m x).apcs ≡ x.apcs
tested_queue m x =
    queue_if (is_alerted m x) (set_alerted m false x) _ x.apcs (alerted_queue m false x)
    (queue_if (is_user m && has_user x.apcs) (record x { user_pending = true }) x x.apcs refl refl)

-- the answer of a wait leaves the thread's APC queue as it was
answered_queue : (st : ℕ) (m : Mode) (a delay : Bool) (x : ThreadFacts) → (answered st m a delay x).apcs ≡ x.apcs
answered_queue st m a delay x =
    queue_if (st == satisfied) (if delay then x else record x { released = false }) _ x.apcs
    (queue_if delay x (record x { released = false }) x.apcs refl refl)
    (queue_if (st == alerted) (alert_taken m x) _ x.apcs (alerted_queue (if is_alerted m x then m else KernelMode) false x)
    (queue_if ((st == user_apc) && a) (record x { user_pending = true }) x x.apcs refl refl))

-- a wait that was made leaves the thread's APC queue as it was
waited_queue : (n : ℕ) (r : Regions) (level : ℕ) (m : Mode) (a delay : Bool) (y : Reply) (x : ThreadFacts) → (waited n r level m a delay y x).apcs ≡ x.apcs
waited_queue n r level m a delay (Status st) x = answered_queue st m a delay x
waited_queue n r level m a delay Blocked x = refl
waited_queue n r level m a delay y x = refl

-- a wait that is made again leaves the thread's APC queue as it was
again_queue : (n : ℕ) (r : Regions) (level : ℕ) (o : Option Again) (y : Reply) (x : ThreadFacts) → (waited_again n r level o y x).apcs ≡ x.apcs
again_queue n r level None y x = refl
again_queue n r level (Some w) y x = waited_queue n r level w.mode w.alertable (is_some w.due) y x

-- an APC that is taken is gone from the thread's queue
taken_queue : (k : ApcKind) (a : ApcNo) (x : ThreadFacts) → (apc_taken k a x).apcs ≡ without_apc a x.apcs
taken_queue UserApc a x = refl
taken_queue k a x = refl

-- the end of a frame leaves of the thread's APC queue what the end of its body leaves
ended_body : (b : Option Body) (x : ThreadFacts) → (frame_ended b x).apcs ≡ ended_queue b x.apcs
ended_body (Some (OnBase t)) x = refl
ended_body (Some (OnApc a UserApc)) x = tested_queue UserMode x
ended_body b x = refl

-- the APC queue of the thread that makes an event is what the event leaves of that queue alone
pub made_changes : (s : Script) (n : ℕ) (st : Stand) (w : What) (x : ThreadFacts) → (made_facts s n st w x).apcs ≡ made_queue st w x.apcs
made_changes s n st (Call f (StartWait m a) y) x = waited_queue n st.regions st.level m a false y x
made_changes s n st (Call f (Delay m a units) y) x = waited_queue n st.regions st.level m a true y x
made_changes s n st (Rewait f y) x = again_queue n st.regions st.level st.again y x
made_changes s n st (Call f (TestAlert m) y) x = queue_if (is_answer y) (alert_tested m x) x x.apcs (tested_queue m x) refl
made_changes s n st (Call f Yield Done) x = refl
made_changes s n st (Begin (Apc a) from) x = taken_queue (kind_of s a) a x
made_changes s n st (End f) x = ended_body st.body x
made_changes s n st (Flush a from) x = refl
made_changes s n st (Gone t) x = refl
made_changes s n st w x = refl

-- inserting an APC into a thread puts it into the queue and changes nothing else of the queue
inserted_queue : (pick : Pick) (x : ThreadFacts) → (insert_facts pick x).apcs ≡ with_apc pick x.apcs
inserted_queue pick x =
    let y : ThreadFacts = record x { apcs = with_apc pick x.apcs } in
    queue_if (ends_by_apc pick x) (if is_kernel_kind pick.kind then ended kernel_apc y else record (ended user_apc y) { user_pending = true }) y
    (with_apc pick x.apcs) (queue_if (is_kernel_kind pick.kind) (ended kernel_apc y) (record (ended user_apc y) { user_pending = true })
    (with_apc pick x.apcs) refl refl) refl

-- the APC queue of the thread that an event names is what the event leaves of that queue alone
pub told_changes : (s : Script) (n : ℕ) (w : What) (x : ThreadFacts) → (told_facts s n w x).apcs ≡ told_queue s n w x.apcs
told_changes s n (Call f (Release u) y) x =
    queue_if (ends_by_release x) (ended satisfied x) _ x.apcs refl (queue_if (is_gone x) x (record x { released = true }) x.apcs refl refl)
told_changes s n (Call f (Alert u m) y) x =
    queue_if (is_gone x) x _ x.apcs refl (queue_if (ends_by_alert m x) (ended alerted x) (set_alerted m true x) x.apcs refl (alerted_queue m true x))
told_changes s n (Call f (InsertApc a) Yes) x = inserted_queue (new_pick s a n) x
told_changes s n (Call f (RemoveApc a) Yes) x = refl
told_changes s n (Expire (OfDelay u) from) x = queue_if (ends_by_expiry from x) (ended satisfied x) x x.apcs refl refl
told_changes s n w x = refl
