-- What each event leaves of what a thread is doing.
use Rattle.nt_event.specs.Apcs.{deliverable, has_user, with_apc, without_apc}
use Rattle.nt_event.specs.Lists.{when}
use Rattle.nt_event.specs.Replies.{alerted, is_answer, is_blocked, is_user, kernel_apc, satisfied, user_apc}
use Rattle.nt_event.specs.Routines.{is_kernel_kind, kind_of, owner_of}
use Rattle.nt_event.specs.Threads.{ThreadFacts, ended, is_alerted, not_below, set_alerted, waiting, waiting_of}
use Rattle.nt_event.specs.Waits.{alert_facts, alert_taken, alert_tested, answered, apc_taken, expiry_facts, frame_ended, insert_facts, made_facts, named_facts}
use Rattle.nt_event.specs.Waits.{new_pick, release_facts, waited_again}
use Rattle.nt_event.specs.declared.commands.ApcKind.{ApcKind}
use Rattle.nt_event.specs.declared.commands.ApcKind.TheVariants.{User as UserApc}
use Rattle.nt_event.specs.declared.commands.Command.TheVariants.{Alert, Delay, InsertApc, Release, RemoveApc, StartWait, TestAlert, Yield}
use Rattle.nt_event.specs.declared.commands.Mode.{Mode}
use Rattle.nt_event.specs.declared.commands.Mode.TheVariants.{Kernel as KernelMode, User as UserMode}
use Rattle.nt_event.specs.declared.commands.Reply.{Reply}
use Rattle.nt_event.specs.declared.commands.Reply.TheVariants.{Blocked, Done, No, Refused, Spin, Status, Yes}
use Rattle.nt_event.specs.declared.commands.TimerKey.TheVariants.{Delay as OfDelay}
use Rattle.nt_event.specs.declared.events.Begun.TheVariants.{Apc}
use Rattle.nt_event.specs.declared.events.What.{What}
use Rattle.nt_event.specs.declared.events.What.TheVariants.{Begin, Call, End, Expire, Gone, Rewait, Switch}
use Rattle.nt_event.specs.declared.frames.Again.{Again}
use Rattle.nt_event.specs.declared.frames.Body.{Body}
use Rattle.nt_event.specs.declared.frames.Body.TheVariants.{Apc as OnApc, Base as OnBase}
use Rattle.nt_event.specs.declared.jobs.Stand.{Stand}
use Rattle.nt_event.specs.declared.numbers.ThreadNo.{ThreadNo}
use Rattle.nt_event.specs.declared.scripts.Script.{Script}
use Rattle.nt_event.specs.declared.threads.Doing.{Doing}
use Rattle.nt_event.specs.declared.threads.Doing.TheVariants.{Blocked as IsBlocked, Gone as IsGone, Ready as IsReady, Running as IsRunning}
use Rattle.nt_event.specs.declared.threads.Waiting.{Waiting}
use Rattle.nt_reader_laws.specs.Waits.{blocked_in, ends_wait, waiting_as}
use Rattle.std.proofs.Common.{refl, subst, sym}
use Rattle.std.specs.Prelude.{Bool, None, Option, Some, false, if◌then◌else◌, is_some, not, option_map, true, ℕ, ◌&&◌, ◌==◌, ◌||◌, ◌≡◌}

-- ---- events that the thread makes

abbrev pub doing_in : Option Waiting → Doing → Doing
doing_in None old = old
doing_in (Some w) old = IsBlocked w

-- what the thread does after an event that it makes
abbrev pub made_to : ℕ → Stand → What → Doing → Doing
made_to n st (Switch u status) old = IsRunning
made_to n st (Gone u) old = IsGone
made_to n st (Call f Yield Done) old = IsReady st.level None
made_to n st w old = doing_in (blocked_in n st w) old

-- setting an alerted flag leaves what a thread is doing
set_doing : (m : Mode) (b : Bool) (x : ThreadFacts) → (set_alerted m b x).doing ≡ x.doing
set_doing KernelMode b x = refl
set_doing UserMode b x = refl

-- answering a wait leaves what a thread is doing
answered_doing : (st : ℕ) (m : Mode) (a delay : Bool) (x : ThreadFacts) → (answered st m a delay x).doing ≡ x.doing
answered_doing st m a delay x = go (st == satisfied) delay (st == alerted) ((st == user_apc) && a)
  where
    go : (s d l u : Bool) → (if s then (if d then x else record x { released = false }) else
        (if l then alert_taken m x else (if u then record x { user_pending = true } else x))).doing ≡ x.doing
    go true true l u = refl
    go true false l u = refl
    go false d true u = set_doing (if is_alerted m x then m else KernelMode) false x
    go false d false true = refl
    go false d false false = refl

-- testing for an alert leaves what a thread is doing
tested_doing : (m : Mode) (x : ThreadFacts) → (alert_tested m x).doing ≡ x.doing
tested_doing m x = go (is_alerted m x) (is_user m && has_user x.apcs)
  where
    go : (a b : Bool) → (if a then set_alerted m false x else (if b then record x { user_pending = true } else x)).doing ≡ x.doing
    go true b = set_doing m false x
    go false true = refl
    go false false = refl

-- ending a frame leaves what a thread is doing
ended_frame_doing : (b : Option Body) (x : ThreadFacts) → (frame_ended b x).doing ≡ x.doing
ended_frame_doing (Some (OnBase t)) x = refl
ended_frame_doing (Some (OnApc a UserApc)) x = tested_doing UserMode x
ended_frame_doing (Some b) x = refl
ended_frame_doing None x = refl

-- going on with an interrupted wait blocks the thread in it if it is blocked again, else leaves what it does
again_doing : (n : ℕ) (st : Stand) (f : ℕ) (again : Option Again) (y : Reply) (x : ThreadFacts) →
    (waited_again n st.regions st.level again y x).doing ≡ (if is_blocked y then doing_in (option_map (waiting_as n st) again) x.doing else x.doing)
again_doing n st f None Blocked x = refl
again_doing n st f None (Status k) x = refl
again_doing n st f None Done x = refl
again_doing n st f None Yes x = refl
again_doing n st f None No x = refl
again_doing n st f None (Refused r) x = refl
again_doing n st f None Spin x = refl
again_doing n st f (Some w) Blocked x = refl
again_doing n st f (Some w) (Status k) x = answered_doing k w.mode w.alertable (is_some w.due) x
again_doing n st f (Some w) Done x = refl
again_doing n st f (Some w) Yes x = refl
again_doing n st f (Some w) No x = refl
again_doing n st f (Some w) (Refused r) x = refl
again_doing n st f (Some w) Spin x = refl

-- what a thread does after an event of its own is told by the event and by what it did before
pub made_doing : (s : Script) (n : ℕ) (st : Stand) (w : What) (x : ThreadFacts) → (made_facts s n st w x).doing ≡ made_to n st w x.doing
made_doing s n st (Switch u status) x = refl
made_doing s n st (Call f (StartWait m a) (Status k)) x = answered_doing k m a false x
made_doing s n st (Call f (StartWait m a) Blocked) x = refl
made_doing s n st (Call f (Delay m a u) (Status k)) x = answered_doing k m a true x
made_doing s n st (Call f (Delay m a u) Blocked) x = refl
made_doing s n st (Rewait f Blocked) x = again_doing n st f st.again Blocked x
made_doing s n st (Rewait f y) x = again_doing n st f st.again y x
made_doing s n st (Call f (TestAlert m) y) x = go (is_answer y)
  where
    go : (b : Bool) → (if b then alert_tested m x else x).doing ≡ x.doing
    go true = tested_doing m x
    go false = refl
made_doing s n st (Call f Yield Done) x = refl
made_doing s n st (Begin (Apc a) from) x = go (kind_of s a)
  where
    go : (k : ApcKind) → (apc_taken k a x).doing ≡ x.doing
    go UserApc = refl
    go k = refl
made_doing s n st (End f) x = ended_frame_doing st.body x
made_doing s n st (Gone u) x = refl
made_doing s n st w x = refl

-- ---- events that name the thread

-- what a blocked thread does after an event that ends its wait or doesn't
abbrev pub doing_of : Option ℕ → Waiting → Doing
doing_of None w = IsBlocked w
doing_of (Some status) w = IsReady w.level (Some status)

abbrev with_doing : Doing → ThreadFacts → ThreadFacts
with_doing d x = record x { doing = d }

-- an event that names a blocked thread ends its wait, or leaves it blocked
named_blocked : (s : Script) (t : ThreadNo) (n : ℕ) (what : What) (w : Waiting) (x : ThreadFacts) →
    (named_facts s t n what (with_doing (IsBlocked w) x)).doing ≡ doing_of (ends_wait s t n (with_doing (IsBlocked w) x) w what) w
named_blocked s t n (Call f (Release u) y) w x = go (is_answer y && (u.0 == t.0)) (not w.delay)
  where
    z : ThreadFacts
    z = with_doing (IsBlocked w) x

    go : (a d : Bool) → (if a then (if d then ended satisfied (with_doing (IsBlocked w) x) else record (with_doing (IsBlocked w) x) { released = true })
        else with_doing (IsBlocked w) x).doing ≡ doing_of (when (a && d) (Some satisfied)) w
    go true true = refl
    go true false = refl
    go false d = refl
named_blocked s t n (Call f (Alert u m) y) w x =
    go (is_answer y && (u.0 == t.0)) (not (is_alerted m (with_doing (IsBlocked w) x)) && (w.alertable && not_below w.mode m))
  where
    go : (a e : Bool) → (if a then (if e then ended alerted (with_doing (IsBlocked w) x) else set_alerted m true (with_doing (IsBlocked w) x))
        else with_doing (IsBlocked w) x).doing ≡ doing_of (when (a && e) (Some alerted)) w
    go true true = refl
    go true false = set_doing m true (with_doing (IsBlocked w) x)
    go false e = refl
named_blocked s t n (Call f (InsertApc a) Yes) w x =
    go ((owner_of s a).0 == t.0) (is_kernel_kind (kind_of s a))
    (is_some (deliverable (with_apc (new_pick s a n) x.apcs) w.regions w.level)) (is_user w.mode && (w.alertable || x.user_pending))
  where
    y : ThreadFacts
    y = record x { doing = IsBlocked w; apcs = with_apc (new_pick s a n) x.apcs }

    go : (b k e u : Bool) →
        (if b then (if (if k then e else u) then (if k then ended kernel_apc (record x { doing = IsBlocked w; apcs = with_apc (new_pick s a n) x.apcs })
        else record (ended user_apc (record x { doing = IsBlocked w; apcs = with_apc (new_pick s a n) x.apcs })) { user_pending = true })
        else record x { doing = IsBlocked w; apcs = with_apc (new_pick s a n) x.apcs }) else with_doing (IsBlocked w) x).doing
        ≡ doing_of (when b (if k then when e (Some kernel_apc) else when u (Some user_apc))) w
    go true true true u = refl
    go true true false u = refl
    go true false e true = refl
    go true false e false = refl
    go false k e u = refl
named_blocked s t n (Call f (RemoveApc a) Yes) w x = go ((owner_of s a).0 == t.0)
  where
    go : (b : Bool) → (if b then record (with_doing (IsBlocked w) x) { apcs = without_apc a x.apcs } else with_doing (IsBlocked w) x).doing ≡ IsBlocked w
    go true = refl
    go false = refl
named_blocked s t n (Expire (OfDelay u) from) w x = go (u.0 == t.0) (w.delay && (w.event == from))
  where
    go : (a e : Bool) → (if a then (if e then ended satisfied (with_doing (IsBlocked w) x) else with_doing (IsBlocked w) x)
        else with_doing (IsBlocked w) x).doing ≡ doing_of (when (a && e) (Some satisfied)) w
    go true true = refl
    go true false = refl
    go false e = refl
named_blocked s t n what w x = refl

-- an event makes a blocked thread ready with a status if it ends the wait, and else leaves it blocked
pub blocked_named : (s : Script) (t : ThreadNo) (n : ℕ) (what : What) (w : Waiting) (x : ThreadFacts) → x.doing ≡ IsBlocked w →
    (named_facts s t n what x).doing ≡ doing_of (ends_wait s t n x w what) w
blocked_named s t n what w x h =
    let same : with_doing (IsBlocked w) x ≡ x = λ i. record x { doing = sym h i } in
    subst (λ (z : ThreadFacts). (named_facts s t n what z).doing ≡ doing_of (ends_wait s t n z w what) w) same (named_blocked s t n what w x)

-- an event that names a thread that waits in nothing leaves what it is doing
named_other : (s : Script) (t : ThreadNo) (n : ℕ) (what : What) (d : Doing) (x : ThreadFacts) → waiting_of d ≡ None →
    (named_facts s t n what (with_doing d x)).doing ≡ d
named_other s t n (Call f (Release u) y) d x h = go (is_answer y && (u.0 == t.0)) d h
  where
    go : (a : Bool) (d : Doing) → waiting_of d ≡ None → (if a then release_facts (with_doing d x) else with_doing d x).doing ≡ d
    go true (IsBlocked w) h = cc
    go true (IsReady level st) h = refl
    go true IsRunning h = refl
    go true IsGone h = refl
    go false d h = refl
named_other s t n (Call f (Alert u m) y) d x h = go (is_answer y && (u.0 == t.0)) d h
  where
    quiet : (b : Bool) (d : Doing) → (if b && false then ended alerted (with_doing d x) else set_alerted m true (with_doing d x)).doing ≡ d
    quiet true d = set_doing m true (with_doing d x)
    quiet false d = set_doing m true (with_doing d x)

    go : (a : Bool) (d : Doing) → waiting_of d ≡ None → (if a then alert_facts m (with_doing d x) else with_doing d x).doing ≡ d
    go true (IsBlocked w) h = cc
    go true (IsReady level st) h = quiet (not (is_alerted m (with_doing (IsReady level st) x))) (IsReady level st)
    go true IsRunning h = quiet (not (is_alerted m (with_doing IsRunning x))) IsRunning
    go true IsGone h = refl
    go false d h = refl
named_other s t n (Call f (InsertApc a) Yes) d x h = go ((owner_of s a).0 == t.0) d h
  where
    quiet : (k : Bool) (d : Doing) (z : ThreadFacts) →
        (if (if k then false else false) then z else record x { doing = d; apcs = with_apc (new_pick s a n) x.apcs }).doing ≡ d
    quiet true d z = refl
    quiet false d z = refl

    go : (b : Bool) (d : Doing) → waiting_of d ≡ None → (if b then insert_facts (new_pick s a n) (with_doing d x) else with_doing d x).doing ≡ d
    go true (IsBlocked w) h = cc
    go true (IsReady level st) h = quiet (is_kernel_kind (kind_of s a)) (IsReady level st) _
    go true IsRunning h = quiet (is_kernel_kind (kind_of s a)) IsRunning _
    go true IsGone h = quiet (is_kernel_kind (kind_of s a)) IsGone _
    go false d h = refl
named_other s t n (Call f (RemoveApc a) Yes) d x h = go ((owner_of s a).0 == t.0)
  where
    go : (b : Bool) → (if b then record (with_doing d x) { apcs = without_apc a x.apcs } else with_doing d x).doing ≡ d
    go true = refl
    go false = refl
named_other s t n (Expire (OfDelay u) from) d x h = go (u.0 == t.0) d h
  where
    go : (a : Bool) (d : Doing) → waiting_of d ≡ None → (if a then expiry_facts from (with_doing d x) else with_doing d x).doing ≡ d
    go true (IsBlocked w) h = cc
    go true (IsReady level st) h = refl
    go true IsRunning h = refl
    go true IsGone h = refl
    go false d h = refl
named_other s t n what d x h = refl

-- an event that names a thread that isn't blocked leaves what it does
pub other_named : (s : Script) (t : ThreadNo) (n : ℕ) (what : What) (x : ThreadFacts) → waiting x ≡ None → (named_facts s t n what x).doing ≡ x.doing
other_named s t n what x h = named_other s t n what x.doing x h
