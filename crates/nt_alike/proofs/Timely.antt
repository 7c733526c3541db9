-- In a run a thread that is blocked in a delay has that delay set, under the number of the event that blocked.
use Rattle.std.proofs.Common.{ap, arith, subst, sym, ◌∙◌}
use Rattle.std.proofs.lemmas.Bool.{eqb-true, ltb-false, ltb-true}
use Rattle.std.proofs.lemmas.List.{get_or_past}
use Rattle.std.specs.Option.{option_map_or}
use Rattle.std.specs.Prelude.{Bool, List, None, Option, Some, [], false, get_or, if◌then◌else◌, is_some, length, nat_lt, refl, true, ℕ, ◌&&◌, ◌==◌, ◌∷◌, ◌≡◌}
use Rattle.nt_event.specs.declared.commands.ApcKind.{ApcKind}
use Rattle.nt_event.specs.declared.commands.ApcKind.TheVariants.{User as UserApc}
use Rattle.nt_event.specs.declared.commands.Command.TheVariants.{Alert, Delay, InsertApc, Release, RemoveApc, StartWait, TestAlert, Yield}
use Rattle.nt_event.specs.declared.commands.Mode.{Mode}
use Rattle.nt_event.specs.declared.commands.Mode.TheVariants.{Kernel as KernelMode, User as UserMode}
use Rattle.nt_event.specs.declared.commands.Regions.{Regions}
use Rattle.nt_event.specs.declared.commands.Reply.{Reply}
use Rattle.nt_event.specs.declared.commands.Reply.TheVariants.{Blocked, Done, Status, Yes}
use Rattle.nt_event.specs.declared.commands.TimerKey.TheVariants.{Delay as DelayKey}
use Rattle.nt_event.specs.declared.events.Begun.TheVariants.{Apc}
use Rattle.nt_event.specs.declared.events.Event.{Event}
use Rattle.nt_event.specs.declared.events.What.{What}
use Rattle.nt_event.specs.declared.events.What.TheVariants.{Begin, Call, End, Expire, Flush, Gone, Rewait, Switch}
use Rattle.nt_event.specs.declared.frames.Again.{Again}
use Rattle.nt_event.specs.declared.frames.Body.{Body}
use Rattle.nt_event.specs.declared.frames.Body.TheVariants.{Apc as OnApc, Base as OnBase}
use Rattle.nt_event.specs.declared.inserts.Pick.{Pick}
use Rattle.nt_event.specs.declared.inserts.Setting.{Setting}
use Rattle.nt_event.specs.declared.jobs.Stand.{Stand}
use Rattle.nt_event.specs.declared.numbers.ThreadNo.{ThreadNo}
use Rattle.nt_event.specs.declared.scripts.Script.{Script}
use Rattle.nt_event.specs.declared.threads.Doing.{Doing}
use Rattle.nt_event.specs.declared.threads.Doing.TheVariants.{Blocked as IsBlocked, Gone as IsGone, Ready as IsReady, Running as IsRunning}
use Rattle.nt_event.specs.declared.threads.Waiting.{Waiting}
use Rattle.nt_event.specs.Frames.{time}
use Rattle.nt_event.specs.Lanes.{lanes_at}
use Rattle.nt_event.specs.Lists.{table}
use Rattle.nt_event.specs.Numbers.{thread}
use Rattle.nt_event.specs.Regions.{stand_at}
use Rattle.nt_event.specs.Replies.{alerted, is_answer, satisfied, user_apc}
use Rattle.nt_event.specs.Routines.{is_kernel_kind, kind_of, owner_of}
use Rattle.nt_event.specs.Step.{IsLegal, IsRun}
use Rattle.nt_event.specs.Threads.{ThreadFacts, ended, ends_by_alert, ends_by_apc, ends_by_expiry, ends_by_release, is_alerted, is_gone, set_alerted}
use Rattle.nt_event.specs.Threads.{waiting_of}
use Rattle.nt_event.specs.Timers.{blocked_after, delay_set, delay_setting, expired_delay}
use Rattle.nt_event.specs.Waits.{alert_facts, alert_tested, answered, apc_taken, expiry_facts, facts, frame_ended, insert_facts, is_of_thread, made_facts}
use Rattle.nt_event.specs.Waits.{named_facts, new_pick, release_facts, waited, waited_again}
use Rattle.nt_event.proofs.Tables.{get_or-table, length-table_from}
use Rattle.nt_event.specs.Own.{own_of}
use Rattle.nt_event.specs.declared.commands.TimerKey.{TimerKey}
use Rattle.nt_runs.proofs.Known.{Known, KnownKey, legal_known}
use Rattle.nt_runs.proofs.Turns.{is_next}
use Rattle.nt_timer.proofs.Among.{first_due_among, set_key_is_set}
use Rattle.nt_timer.specs.Settings.{setting_at}
use Rattle.nt_alike.specs.Parts.{IsTimely}

-- a thread that is blocked in a delay has that delay set, under the number of the blocking event
HasDelay : Doing → Option Setting → Type 0
HasDelay (IsBlocked w) o = w.delay ≡ true → (z : Setting) × (o ≡ Some z) × (z.number ≡ w.event)
HasDelay d o = Unit {0}

-- a doing equal to one that has its delay set has it too
has_same : (d e : Doing) (o : Option Setting) → e ≡ d → HasDelay d o → HasDelay e o
has_same d e o q h = subst (λ (x : Doing). HasDelay x o) (sym q) h

-- ---- what leaves the wait as it is

-- a choice between two threads' facts with the same doing has that doing
if_doing : (b : Bool) (x y : ThreadFacts) (d : Doing) → x.doing ≡ d → y.doing ≡ d → (if b then x else y).doing ≡ d
if_doing true x y d h k = h
if_doing false x y d h k = k

-- setting an alert flag leaves what a thread does as it was
set_doing : (m : Mode) (b : Bool) (x : ThreadFacts) → (set_alerted m b x).doing ≡ x.doing
set_doing KernelMode b x = refl
set_doing UserMode b x = refl

-- answering a wait at once leaves what a thread does as it was
answered_doing : (st : ℕ) (m : Mode) (alertable delay : Bool) (x : ThreadFacts) → (answered st m alertable delay x).doing ≡ x.doing
answered_doing st m alertable delay x =
    if_doing (st == satisfied) _ _ x.doing (if_doing delay _ _ x.doing refl refl)
    (if_doing (st == alerted) _ _ x.doing (set_doing (if is_alerted m x then m else KernelMode) false x)
    (if_doing ((st == user_apc) && alertable) _ _ x.doing refl refl))

-- testing for an alert leaves what a thread does as it was
tested_doing : (m : Mode) (x : ThreadFacts) → (alert_tested m x).doing ≡ x.doing
tested_doing m x = if_doing (is_alerted m x) _ _ x.doing (set_doing m false x) (if_doing _ _ _ x.doing refl refl)

-- taking an APC leaves what a thread does as it was
taken_doing : (k : ApcKind) (x : ThreadFacts) (s : Script) → (a : _) → (apc_taken k a x).doing ≡ x.doing
taken_doing UserApc x s a = refl
taken_doing k x s a = refl

-- the end of a frame leaves what a thread does as it was
ended_doing : (b : Option Body) (x : ThreadFacts) → (frame_ended b x).doing ≡ x.doing
ended_doing (Some (OnApc a UserApc)) x = tested_doing UserMode x
ended_doing (Some (OnBase t)) x = refl
ended_doing b x = refl

-- ---- events that the thread makes

-- a wait that is no delay leaves a thread with its delay set, if it had it so
waited_has : (n : ℕ) (r : Regions) (level : ℕ) (m : Mode) (a : Bool) (y : Reply) (x : ThreadFacts) (o : Option Setting) → HasDelay x.doing o →
    HasDelay (waited n r level m a false y x).doing o
unfolding HasDelay
waited_has n r level m a (Status st) x o h = has_same x.doing (answered st m a false x).doing o (answered_doing st m a false x) h
waited_has n r level m a Blocked x o h = λ e. cc
waited_has n r level m a y x o h = h

-- a call of Delay leaves a thread with its delay set, if it had it so
delayed_has : (n now : ℕ) (again : Option Again) (f : ℕ) (u : ℕ) (r : Regions) (level : ℕ) (m : Mode) (a : Bool) (y : Reply) (x : ThreadFacts)
    (o : Option Setting) → HasDelay x.doing o →
    HasDelay (waited n r level m a true y x).doing (blocked_after n now again (Call f (Delay m a u) y) o)
unfolding HasDelay
delayed_has n now again f u r level m a (Status st) x o h = has_same x.doing (answered st m a true x).doing o (answered_doing st m a true x) h
delayed_has n now again f u r level m a Blocked x o h = λ e. (_, refl, refl)
delayed_has n now again f u r level m a y x o h = h

-- a thread that blocks has just the delay set that it waits with, if any
due_has : (n : ℕ) (r : Regions) (level : ℕ) (m : Mode) (a : Bool) (due : Option ℕ) (x : ThreadFacts) (o : Option Setting) →
    HasDelay (waited n r level m a (is_some due) Blocked x).doing (delay_set n due o)
unfolding HasDelay
due_has n r level m a None x o = λ e. cc
due_has n r level m a (Some due) x o = λ e. (_, refl, refl)

-- a wait that is taken up again leaves a thread with its delay set, if it had it so
again_has : (n now : ℕ) (f : ℕ) (r : Regions) (level : ℕ) (again : Option Again) (y : Reply) (x : ThreadFacts) (o : Option Setting) → HasDelay x.doing o →
    HasDelay (waited_again n r level again y x).doing (blocked_after n now again (Rewait f y) o)
again_has n now f r level None Blocked x o h = h
again_has n now f r level None y x o h = h
again_has n now f r level (Some w) Blocked x o h = due_has n r level w.mode w.alertable w.due x o
again_has n now f r level (Some w) (Status st) x o h =
    has_same x.doing (answered st w.mode w.alertable (is_some w.due) x).doing o (answered_doing st w.mode w.alertable (is_some w.due) x) h
again_has n now f r level (Some w) y x o h = h

-- what an event does to its own thread leaves it with its delay set, if it had it so
made_has : (s : Script) (n now : ℕ) (st : Stand) (w : What) (x : ThreadFacts) (o : Option Setting) → HasDelay x.doing o →
    HasDelay (made_facts s n st w x).doing (blocked_after n now st.again w o)
unfolding HasDelay
made_has s n now st (Switch t status) x o h = tt
made_has s n now st (Call f (StartWait m a) y) x o h = waited_has n st.regions st.level m a y x o h
made_has s n now st (Call f (Delay m a u) y) x o h = delayed_has n now st.again f u st.regions st.level m a y x o h
made_has s n now st (Rewait f y) x o h = again_has n now f st.regions st.level st.again y x o h
made_has s n now st (Call f (TestAlert m) y) x o h =
    has_same x.doing (if is_answer y then alert_tested m x else x).doing o (if_doing (is_answer y) _ _ x.doing (tested_doing m x) refl) h
made_has s n now st (Call f Yield Done) x o h = tt
made_has s n now st (Begin (Apc a) from) x o h = has_same x.doing (apc_taken (kind_of s a) a x).doing o (taken_doing (kind_of s a) x s a) h
made_has s n now st (End f) x o h = has_same x.doing (frame_ended st.body x).doing o (ended_doing st.body x) h
made_has s n now st (Flush a from) x o h = h
made_has s n now st (Gone t) x o h = tt
made_has s n now st (Call f c y) x o h = h
made_has s n now st (Begin b from) x o h = h
made_has s n now st w x o h = h

-- ---- events that name the thread

-- a choice between two threads' facts that have their delay set has it set
if_has : (b : Bool) (x y : ThreadFacts) (o : Option Setting) → HasDelay x.doing o → HasDelay y.doing o → HasDelay (if b then x else y).doing o
if_has true x y o h k = h
if_has false x y o h k = k

-- a thread whose wait has ended has any delay set, as it is blocked in none
ended_has : (st : ℕ) (x : ThreadFacts) (o : Option Setting) → HasDelay (ended st x).doing o
unfolding HasDelay
ended_has st x o = tt

-- releasing a thread leaves it with its delay set, if it had it so
release_has : (x : ThreadFacts) (o : Option Setting) → HasDelay x.doing o → HasDelay (release_facts x).doing o
release_has x o h = if_has (ends_by_release x) _ _ o (ended_has satisfied x o) (if_has (is_gone x) _ _ o h h)

-- alerting a thread leaves it with its delay set, if it had it so
alert_has : (m : Mode) (x : ThreadFacts) (o : Option Setting) → HasDelay x.doing o → HasDelay (alert_facts m x).doing o
alert_has m x o h =
    if_has (is_gone x) _ _ o h (if_has (ends_by_alert m x) _ _ o (ended_has alerted x o)
    (has_same x.doing (set_alerted m true x).doing o (set_doing m true x) h))

-- inserting an APC at a thread leaves it with its delay set, if it had it so
insert_has : (p : Pick) (x : ThreadFacts) (o : Option Setting) → HasDelay x.doing o → HasDelay (insert_facts p x).doing o
unfolding HasDelay
insert_has p x o h = if_has (ends_by_apc p x) _ _ o (if_has (is_kernel_kind p.kind) _ _ o tt tt) h

-- the expiry of the thread's delay names what is set
abbrev NamesDelay : ThreadNo → What → Option Setting → Type 0
NamesDelay t (Expire (DelayKey u) from) o = (u.0 == t.0) ≡ true → (z : Setting) × (o ≡ Some z) × (z.number ≡ from)
NamesDelay t w o = Unit {0}

-- a thread is blocked in no delay after the expiry of the one that is set
expiry_has : (from : ℕ) (x : ThreadFacts) (o : Option Setting) → (z : Setting) → o ≡ Some z → z.number ≡ from → HasDelay x.doing o → (b : Bool) →
    ends_by_expiry from x ≡ b →
    HasDelay (if b then ended satisfied x else x).doing None
unfolding HasDelay
expiry_has from x o z q m h true e = tt
expiry_has from x o z q m h false e = go x.doing h e
  where
    equal : (n k : ℕ) → n ≡ k → (n == k) ≡ true
    equal n k e = grind (arith, e)

    numbers : (a b : Setting) → ◌≡◌ {A = Option Setting} (Some a) (Some b) → a.number ≡ b.number
    numbers a b e = let same : a ≡ b = cc in ap (λ (y : Setting). y.number) same

    go : (d : Doing) → HasDelay d o → option_map_or (λ (w : Waiting). w.delay && (w.event == from)) (waiting_of d) false ≡ false → HasDelay d None
    go (IsBlocked w) k f = λ dl.
        let y = k dl in
        let n : w.event ≡ from = sym y.2 ∙ numbers y.0 z (sym y.1 ∙ q) ∙ m in
        absurd (clash w.delay (w.event == from) dl (equal w.event from n) f)
      where
        clash : (a b : Bool) → a ≡ true → b ≡ true → (a && b) ≡ false → ⊥
        clash true true p r t = cc
        clash true false p r t = cc
        clash false b p r t = cc
    go (IsReady l st) k f = tt
    go IsRunning k f = tt
    go IsGone k f = tt

-- what an event does to a thread that it names leaves it with its delay set, if it had it so
named_has : (s : Script) (t : ThreadNo) (n : ℕ) (w : What) (x : ThreadFacts) (o : Option Setting) → NamesDelay t w o → HasDelay x.doing o →
    HasDelay (named_facts s t n w x).doing (expired_delay t w o)
named_has s t n (Call f (Release u) y) x o d h = if_has (is_answer y && (u.0 == t.0)) _ _ o (release_has x o h) h
named_has s t n (Call f (Alert u m) y) x o d h = if_has (is_answer y && (u.0 == t.0)) _ _ o (alert_has m x o h) h
named_has s t n (Call f (InsertApc a) Yes) x o d h = if_has ((owner_of s a).0 == t.0) _ _ o (insert_has (new_pick s a n) x o h) h
named_has s t n (Call f (RemoveApc a) Yes) x o d h = if_has ((owner_of s a).0 == t.0) _ _ o h h
named_has s t n (Expire (DelayKey u) from) x o d h = go (u.0 == t.0) refl
  where
    go : (b : Bool) → (u.0 == t.0) ≡ b → HasDelay (if b then expiry_facts from x else x).doing (if b then None else o)
    go true e = let k = d e in expiry_has from x o k.0 k.1 k.2 h (ends_by_expiry from x) refl
    go false e = h
named_has s t n (Call f c y) x o d h = h
named_has s t n w x o d h = h

-- ---- runs

-- what stands in the table of delays at a thread
delay_there : (s : Script) (u : ThreadNo) (past : List Event) (z : Setting) →
    get_or {A = Option Setting} (table (length s.threads) (λ t. delay_setting s (thread t) past)) u.0 None ≡ Some z → delay_setting s u past ≡ Some z
delay_there s u past z h = at (nat_lt u.0 (length s.threads)) refl
  where
    at : (b : Bool) → nat_lt u.0 (length s.threads) ≡ b → delay_setting s u past ≡ Some z
    at true l =
        sym (get_or-table {A = Option Setting} (length s.threads) u.0 (λ t. delay_setting s (thread t) past) None (ltb-true u.0 (length s.threads) l)) ∙ h
    at false l =
        let k = length-table_from {A = Option Setting} 0 (length s.threads) (λ t. delay_setting s (thread t) past) in
        let g = ltb-false u.0 (length s.threads) l in
        absurd (none (sym (get_or_past (table {A = Option Setting} (length s.threads) (λ t. delay_setting s (thread t) past)) u.0 None (omega (arith, k, g)))
        ∙ h))
      where
        none : ◌≡◌ {A = Option Setting} None (Some z) → ⊥
        none q = cc

-- an expiry in a run names what is set
names_delay : (s : Script) (limit : ℕ) (t : ThreadNo) (e : Event) (past : List Event) → IsLegal s limit e past →
    NamesDelay t e.what (delay_setting s t past)
names_delay s limit t e past l = go e.what refl
  where
    go : (w : What) → e.what ≡ w → NamesDelay t w (delay_setting s t past)
    go (Expire (DelayKey u) from) q = λ same.
        let known : KnownKey (own_of s e.cpu past) (lanes_at s past) (DelayKey u) from =
        subst (λ (w : What). Known s e.cpu (own_of s e.cpu past) (lanes_at s past) w) q (legal_known s limit e past l (ap is_next q)) in
        let at = set_key_is_set (lanes_at s past).timers known.set (first_due_among (lanes_at s past).timers known.set known.first).0 in
        let here = delay_there s u past known.set.setting (ap (λ (k : TimerKey). setting_at k (lanes_at s past).timers) known.key ∙ at) in
        let name : u ≡ t = ap thread (eqb-true u.0 t.0 same) in
        (known.set.setting, ap (λ (v : ThreadNo). delay_setting s v past) (sym name) ∙ here, sym known.number)
    go w q = tt

-- in a run a thread that is blocked in a delay has it set
has_delay : (s : Script) (limit : ℕ) (t : ThreadNo) (past : List Event) → IsRun s limit past → HasDelay (facts s t past).doing (delay_setting s t past)
unfolding HasDelay
has_delay s limit t [] r = tt
has_delay s limit t (e ∷ past) r =
    let st = stand_at s e.cpu past in
    let x = facts s t past in
    let o = delay_setting s t past in
    named_has s t (length past) e.what (if is_of_thread s t e then made_facts s (length past) st e.what x else x)
    (if is_of_thread s t e then blocked_after (length past) (time past) st.again e.what o else o)
    (kept (is_of_thread s t e) e.what (names_delay s limit t e past r.0))
    (by (is_of_thread s t e) (has_delay s limit t past r.1))
  where
    by : (b : Bool) → HasDelay (facts s t past).doing (delay_setting s t past) →
        HasDelay (if b then made_facts s (length past) (stand_at s e.cpu past) e.what (facts s t past) else facts s t past).doing
        (if b then blocked_after (length past) (time past) (stand_at s e.cpu past).again e.what (delay_setting s t past) else delay_setting s t past)
    by true h = made_has s (length past) (time past) (stand_at s e.cpu past) e.what (facts s t past) (delay_setting s t past) h
    by false h = h

    kept : (b : Bool) (w : What) → NamesDelay t w (delay_setting s t past) →
        NamesDelay t w (if b then blocked_after (length past) (time past) (stand_at s e.cpu past).again w (delay_setting s t past) else delay_setting s t past)
    kept true (Expire (DelayKey u) from) h = h
    kept true w h = tt
    kept false w h = h

-- so where a thread's delay expires, it is the one of its present wait, if that is a delay
pub timely : (s : Script) (limit : ℕ) (t : ThreadNo) (e : Event) (past : List Event) → IsRun s limit (e ∷ past) → IsTimely t e.what (facts s t past)
unfolding HasDelay
timely s limit t e past r = go e.what refl
  where
    go : (w : What) → e.what ≡ w → IsTimely t w (facts s t past)
    go (Expire (DelayKey u) from) q = λ same.
        let k : (z : Setting) × (delay_setting s t past ≡ Some z) × (z.number ≡ from) =
        (subst (λ (w : What). NamesDelay t w (delay_setting s t past)) q (names_delay s limit t e past r.0)) same in
        at (facts s t past).doing (delay_setting s t past) k.0 k.1 k.2 (has_delay s limit t past r.1)
      where
        numbers : (a b : Setting) → ◌≡◌ {A = Option Setting} (Some a) (Some b) → a.number ≡ b.number
        numbers a b e = let same : a ≡ b = cc in ap (λ (y : Setting). y.number) same

        equal : (n k : ℕ) → n ≡ k → (n == k) ≡ true
        equal n k e = grind (arith, e)

        delay : (b : Bool) (w : Waiting) (o : Option Setting) (z : Setting) → o ≡ Some z → z.number ≡ from → w.delay ≡ b →
            (b ≡ true → (y : Setting) × (o ≡ Some y) × (y.number ≡ w.event)) → (b && (w.event == from)) ≡ b
        delay false w o z q m d h = refl
        delay true w o z q m d h =
            let y = h refl in equal w.event from (sym y.2 ∙ numbers y.0 z (sym y.1 ∙ q) ∙ m)

        at : (d : Doing) (o : Option Setting) (z : Setting) → o ≡ Some z → z.number ≡ from → HasDelay d o →
            option_map_or (λ (w : Waiting). w.delay && (w.event == from)) (waiting_of d) false ≡ option_map_or (λ (w : Waiting). w.delay) (waiting_of d) false
        at (IsBlocked w) o z q m h = delay w.delay w o z q m refl h
        at d o z q m h = refl
    go w q = tt
