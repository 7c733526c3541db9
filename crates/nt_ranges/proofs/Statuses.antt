-- The statuses of a run are those of waits: that of a thread whose wait has ended, and those of replies.
use Rattle.std.proofs.Common.{subst, sym}
use Rattle.std.specs.Prelude.{Bool, IfSome, List, None, Option, Some, false, if◌then◌else◌, is_some, length, not, option_map, refl, true, ℕ, ◌&&◌, ◌+◌, ◌==◌}
use Rattle.std.specs.Prelude.{[], ◌∷◌, ◌≡◌}
use Rattle.nt_event.specs.declared.commands.ApcKind.{ApcKind}
use Rattle.nt_event.specs.declared.commands.ApcKind.TheVariants.{User as UserApc}
use Rattle.nt_event.specs.declared.commands.Command.{Command}
use Rattle.nt_event.specs.declared.commands.Command.TheVariants as cmd
use Rattle.nt_event.specs.declared.commands.Mode.{Mode}
use Rattle.nt_event.specs.declared.commands.Mode.TheVariants.{Kernel as KernelMode, User as UserMode}
use Rattle.nt_event.specs.declared.commands.Refusal.{Refusal}
use Rattle.nt_event.specs.declared.commands.Regions.{Regions}
use Rattle.nt_event.specs.declared.commands.Reply.{Reply}
use Rattle.nt_event.specs.declared.commands.Reply.TheVariants.{Blocked, Done, Spin, Status, Yes}
use Rattle.nt_event.specs.declared.commands.TimerKey.TheVariants.{Delay as OfDelay}
use Rattle.nt_event.specs.declared.events.Begun.TheVariants.{Apc}
use Rattle.nt_event.specs.declared.events.Event.{Event}
use Rattle.nt_event.specs.declared.events.Turn.TheVariants.{Switch as SwitchTurn}
use Rattle.nt_event.specs.declared.events.What.{What}
use Rattle.nt_event.specs.declared.events.What.TheVariants.{Begin, Call, End, Expire, Fire, Gone, Rewait, Switch}
use Rattle.nt_event.specs.declared.frames.Again.{Again}
use Rattle.nt_event.specs.declared.frames.Body.{Body}
use Rattle.nt_event.specs.declared.frames.Body.TheVariants.{Apc as OnApc, Base as OnBase}
use Rattle.nt_event.specs.declared.inserts.Pick.{Pick}
use Rattle.nt_event.specs.declared.jobs.Stand.{Stand}
use Rattle.nt_event.specs.declared.numbers.ApcNo.{ApcNo}
use Rattle.nt_event.specs.declared.numbers.ThreadNo.{ThreadNo}
use Rattle.nt_event.specs.declared.scripts.Script.{Script}
use Rattle.nt_event.specs.Apcs.{deliverable, has_user, with_apc}
use Rattle.nt_event.specs.Commands.{is_reached, reply}
use Rattle.nt_event.specs.Frames.{frames_of}
use Rattle.nt_event.specs.Jobs.{rewait_reply, switch_event}
use Rattle.nt_event.specs.Lanes.{Lanes, facts_at, facts_of, lanes_at}
use Rattle.nt_event.specs.Numbers.{thread}
use Rattle.nt_event.specs.Own.{Own, own_of, stand_in}
use Rattle.nt_event.specs.Regions.{stand_at}
use Rattle.nt_event.specs.Replies.{alerted, is_answer, is_user, kernel_apc, satisfied, user_apc, yes_if}
use Rattle.nt_event.specs.Routines.{is_kernel_kind, kind_of, owner_of}
use Rattle.nt_event.specs.Step.{IsRun, event_at, step, turn_at}
use Rattle.nt_event.specs.Threads.{ThreadFacts, ended, ended_status, ends_by_alert, ends_by_apc, ends_by_expiry, ends_by_release, is_alerted, is_gone}
use Rattle.nt_event.specs.Threads.{set_alerted, start_facts}
use Rattle.nt_event.specs.Waits.{alert_facts, alert_taken, alert_tested, answered, apc_taken, expiry_facts, facts, frame_ended, insert_facts, is_of_thread}
use Rattle.nt_event.specs.Waits.{is_satisfied, made_facts, named_facts, new_pick, release_facts, wait_reply, waited, waited_again}
use Rattle.nt_runs.proofs.Known.{Known, legal_known, reply_or, refusal_in}
use Rattle.nt_runs.proofs.Steps.{Gives, switch_gives}
use Rattle.nt_runs.proofs.Turns.{is_next}
use Rattle.nt_ranges.specs.Statuses.{IsWaitStatus, ReplyIsOfWait, TellsWaitStatus}
use Rattle.nt_ranges.proofs.Lists.{of_table}

-- ---- the status of a thread whose wait has ended

-- what it is doing carries no status but that of a wait
abbrev Carries : ThreadFacts → Type 0
Carries x = IfSome (ended_status x) IsWaitStatus

-- of two thread states that carry a wait's status only, the one chosen does too
either : (b : Bool) (x y : ThreadFacts) → Carries x → Carries y → Carries (if b then x else y)
either true x y h k = h
either false x y h k = k

-- setting an alerted flag leaves a thread's status one of a wait
set_carries : (m : Mode) (b : Bool) (x : ThreadFacts) → Carries x → Carries (set_alerted m b x)
set_carries KernelMode b x h = h
set_carries UserMode b x h = h

-- answering a wait leaves a thread's status one of a wait
answered_carries : (st : ℕ) (m : Mode) (a delay : Bool) (x : ThreadFacts) → Carries x → Carries (answered st m a delay x)
answered_carries st m a delay x h = go (st == satisfied) delay (st == alerted) ((st == user_apc) && a)
  where
    go : (b d c u : Bool) → Carries (if b then (if d then x else record x { released = false }) else
        (if c then alert_taken m x else (if u then record x { user_pending = true } else x)))
    go true true c u = h
    go true false c u = h
    go false d true u = set_carries (if is_alerted m x then m else KernelMode) false x h
    go false d false true = h
    go false d false false = h

-- beginning a wait or answering it leaves a thread's status one of a wait
waited_carries : (n : ℕ) (r : Regions) (level : ℕ) (m : Mode) (a delay : Bool) (y : Reply) (x : ThreadFacts) → Carries x →
    Carries (waited n r level m a delay y x)
waited_carries n r level m a delay (Status st) x h = answered_carries st m a delay x h
waited_carries n r level m a delay Blocked x h = tt
waited_carries n r level m a delay y x h = h

-- going on with an interrupted wait leaves a thread's status one of a wait
again_carries : (n : ℕ) (r : Regions) (level : ℕ) (o : Option Again) (y : Reply) (x : ThreadFacts) → Carries x → Carries (waited_again n r level o y x)
again_carries n r level None y x h = h
again_carries n r level (Some w) y x h = waited_carries n r level w.mode w.alertable (is_some w.due) y x h

-- testing for an alert leaves a thread's status one of a wait
tested_carries : (m : Mode) (x : ThreadFacts) → Carries x → Carries (alert_tested m x)
tested_carries m x h = go (is_alerted m x) (is_user m && has_user x.apcs)
  where
    go : (b c : Bool) → Carries (if b then set_alerted m false x else (if c then record x { user_pending = true } else x))
    go true c = set_carries m false x h
    go false true = h
    go false false = h

-- taking an APC out of a queue to run it leaves a thread's status one of a wait
taken_carries : (k : ApcKind) (a : ApcNo) (x : ThreadFacts) → Carries x → Carries (apc_taken k a x)
taken_carries UserApc a x h = h
taken_carries k a x h = h

-- ending a frame leaves a thread's status one of a wait
frame_carries : (b : Option Body) (x : ThreadFacts) → Carries x → Carries (frame_ended b x)
frame_carries (Some (OnApc a UserApc)) x h = tested_carries UserMode x h
frame_carries (Some (OnBase t)) x h = h
frame_carries b x h = h

-- an event that a thread makes itself leaves its status one of a wait
made_carries : (s : Script) (n : ℕ) (st : Stand) (w : What) (x : ThreadFacts) → Carries x → Carries (made_facts s n st w x)
made_carries s n st (Switch t status) x h = tt
made_carries s n st (Call f (cmd.StartWait m a) y) x h = waited_carries n st.regions st.level m a false y x h
made_carries s n st (Call f (cmd.Delay m a units) y) x h = waited_carries n st.regions st.level m a true y x h
made_carries s n st (Rewait f y) x h = again_carries n st.regions st.level st.again y x h
made_carries s n st (Call f (cmd.TestAlert m) y) x h = either (is_answer y) (alert_tested m x) x (tested_carries m x h) h
made_carries s n st (Call f cmd.Yield Done) x h = tt
made_carries s n st (Begin (Apc a) from) x h = taken_carries (kind_of s a) a x h
made_carries s n st (End f) x h = frame_carries st.body x h
made_carries s n st (Gone t) x h = tt
made_carries s n st w x h = h

-- a release ends a wait with the status of a wait, or leaves the status
release_carries : (x : ThreadFacts) → Carries x → Carries (release_facts x)
release_carries x h =
    either (ends_by_release x) (ended satisfied x) _ refl (either (is_gone x) x (record x { released = true }) h h)

-- an alert ends a wait with the status of a wait, or leaves the status
alert_carries : (m : Mode) (x : ThreadFacts) → Carries x → Carries (alert_facts m x)
alert_carries m x h =
    either (is_gone x) x _ h (either (ends_by_alert m x) (ended alerted x) (set_alerted m true x) refl (set_carries m true x h))

-- an APC that is inserted ends a wait with the status of a wait, or leaves the status
insert_carries : (pick : Pick) (x : ThreadFacts) → Carries x → Carries (insert_facts pick x)
insert_carries pick x h =
    let y : ThreadFacts = record x { apcs = with_apc pick x.apcs } in
    either (ends_by_apc pick x) _ y (either (is_kernel_kind pick.kind) (ended kernel_apc y) (record (ended user_apc y) { user_pending = true }) refl refl) h

-- an expiry ends a wait with the status of a wait, or leaves the status
expiry_carries : (from : ℕ) (x : ThreadFacts) → Carries x → Carries (expiry_facts from x)
expiry_carries from x h = either (ends_by_expiry from x) (ended satisfied x) x refl h

-- an event that names a thread leaves its status one of a wait
named_carries : (s : Script) (t : ThreadNo) (n : ℕ) (w : What) (x : ThreadFacts) → Carries x → Carries (named_facts s t n w x)
named_carries s t n (Call f (cmd.Release u) y) x h = either (is_answer y && (u.0 == t.0)) (release_facts x) x (release_carries x h) h
named_carries s t n (Call f (cmd.Alert u m) y) x h = either (is_answer y && (u.0 == t.0)) (alert_facts m x) x (alert_carries m x h) h
named_carries s t n (Call f (cmd.InsertApc a) Yes) x h =
    either ((owner_of s a).0 == t.0) (insert_facts (new_pick s a n) x) x (insert_carries (new_pick s a n) x h) h
named_carries s t n (Call f (cmd.RemoveApc a) Yes) x h = either ((owner_of s a).0 == t.0) _ x h h
named_carries s t n (Expire (OfDelay u) from) x h = either (u.0 == t.0) (expiry_facts from x) x (expiry_carries from x h) h
named_carries s t n w x h = h

-- the status of a thread is that of a wait
facts_carry : (s : Script) (t : ThreadNo) (past : List Event) → Carries (facts s t past)
facts_carry s t [] = tt
facts_carry s t (e ∷ past) =
    let old = facts_carry s t past in
    let made : ThreadFacts = made_facts s (length past) (stand_at s e.cpu past) e.what (facts s t past) in
    named_carries s t (length past) e.what (if is_of_thread s t e then made else facts s t past)
    (either (is_of_thread s t e) made (facts s t past) (made_carries s (length past) (stand_at s e.cpu past) e.what (facts s t past) old) old)

-- the status of a thread in the lanes of a history is one of a wait
lanes_carry : (s : Script) (t : ThreadNo) (past : List Event) → Carries (facts_at (lanes_at s past) t)
lanes_carry s t past =
    of_table Carries (length s.threads) t.0 (λ t. facts s (thread t) past) start_facts tt (λ k. facts_carry s (thread k) past)

-- ---- replies

-- the reply to a wait command is one that a wait may give
wait_of : (x : ThreadFacts) (r : Regions) (level : ℕ) (m : Mode) (a : Bool) (reached : Option Bool) → ReplyIsOfWait (wait_reply x r level m a reached)
wait_of x r level m a reached =
    go (is_some (deliverable x.apcs r level)) (is_satisfied x reached) (a && is_alerted m x) (a && (is_user m && has_user x.apcs)) (a && x.alerted_kernel)
    (not a && (is_user m && x.user_pending))
  where
    go : (b c d e f g : Bool) → ReplyIsOfWait (if b then Status kernel_apc else (if c then Status satisfied else (if d then Status alerted else
        (if e then Status user_apc else (if f then Status alerted else (if g then Status user_apc else Blocked))))))
    go true c d e f g = refl
    go false true d e f g = refl
    go false false true e f g = refl
    go false false false true f g = refl
    go false false false false true g = refl
    go false false false false false true = refl
    go false false false false false false = tt

-- the reply to a wait that is begun again is one that a wait may give
rewait_of : (st : Stand) (l : Lanes) (w : Again) → ReplyIsOfWait (rewait_reply st l w)
rewait_of st l w =
    wait_of (facts_of l st.thread) st.regions st.level w.mode w.alertable (option_map (is_reached l.timers.now) w.due)

-- the reply to a yes-or-no command is one that a wait may give
yes_of : (b : Bool) → ReplyIsOfWait (yes_if b)
yes_of true = tt
yes_of false = tt

-- the reply to trying for a lock is one that a wait may give
tried_of : (b : Bool) → ReplyIsOfWait (if b then Done else Spin)
tried_of true = tt
tried_of false = tt

-- the reply to any command is one that a wait may give
reply_of : (s : Script) (st : Stand) (l : Lanes) (c : Command) → ReplyIsOfWait (reply s st l c)
reply_of s st l (cmd.StartWait m a) = wait_of (facts_of l st.thread) st.regions st.level m a None
reply_of s st l (cmd.Delay m a units) =
    wait_of (facts_of l st.thread) st.regions st.level m a (Some (is_reached l.timers.now (l.timers.now + units)))
reply_of s st l (cmd.Queue d) = yes_of _
reply_of s st l (cmd.Unqueue d) = yes_of _
reply_of s st l (cmd.SetTimer t due period) = yes_of _
reply_of s st l (cmd.CancelTimer t) = yes_of _
reply_of s st l (cmd.InsertApc a) = yes_of _
reply_of s st l (cmd.RemoveApc a) = yes_of _
reply_of s st l (cmd.Release t) = yes_of _
reply_of s st l (cmd.Alert t m) = yes_of _
reply_of s st l (cmd.TestAlert m) = yes_of _
reply_of s st l (cmd.Acquire k) = tried_of _
reply_of s st l c = tt

-- a refusal in place of a reply is one that a wait may give
or_of : (o : Option Refusal) (y : Reply) → ReplyIsOfWait y → ReplyIsOfWait (reply_or o y)
or_of None y h = h
or_of (Some r) y h = tt

-- ---- each event

-- a status that an event of a run tells is that of a wait
pub statuses_are_those_of_waits : (s : Script) (limit : ℕ) (e : Event) (past : List Event) → IsRun s limit (e ∷ past) → TellsWaitStatus e.what
statuses_are_those_of_waits s limit e past r = go e.what refl
  where
    known : (w : What) → e.what ≡ w → is_next w ≡ true → Known s e.cpu (own_of s e.cpu past) (lanes_at s past) w
    known w k n =
        subst (Known s e.cpu (own_of s e.cpu past) (lanes_at s past)) k
        (legal_known s limit e past r.0 (subst (λ (v : What). is_next v ≡ true) (sym k) n))

    go : (w : What) → e.what ≡ w → TellsWaitStatus w
    go (Call f c y) k =
        let q = known (Call f c y) k refl in
        let x : Own = own_of s e.cpu past in
        let l : Lanes = lanes_at s past in
        subst ReplyIsOfWait (sym q.reply)
        (or_of (refusal_in x q.frame c) (reply s (stand_in e.cpu x) l c) (reply_of s (stand_in e.cpu x) l c))
    go (Fire d y) k =
        let q = known (Fire d y) k refl in
        subst ReplyIsOfWait (sym q.1) (reply_of s (stand_in e.cpu (own_of s e.cpu past)) (lanes_at s past) (cmd.Queue d))
    go (Rewait f y) k =
        let q = known (Rewait f y) k refl in
        subst ReplyIsOfWait (sym q.reply) (rewait_of (stand_in e.cpu (own_of s e.cpu past)) (lanes_at s past) q.wait)
    go (Switch t status) k =
        let turn : Gives (step s limit (SwitchTurn e.cpu t) past) e = subst (λ (v : What). Gives (step s limit (turn_at e.cpu v) past) e) k r.0 in
        let made : event_at s e.cpu (switch_event t (lanes_at s past)) (frames_of s e.cpu past) ≡ e = (switch_gives s limit e.cpu t past e turn).2 in
        let same : switch_event t (lanes_at s past) ≡ Switch t status = subst (λ (v : What). switch_event t (lanes_at s past) ≡ v) k (what_of _ e made) in
        subst TellsWaitStatus same (lanes_carry s t past)
      where
        what_of : (a b : Event) → a ≡ b → a.what ≡ b.what
        what_of a b h = subst (λ (x : Event). a.what ≡ x.what) h refl
    go w k = tt
