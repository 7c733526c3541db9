-- What each event leaves of a thread's APC queues is what its calls leave.
use Rattle.nt_apc.specs.Runs.{Act, Closes, Inserts, NumbersBelow, NumbersRise, Uses, after, queues_of}
use Rattle.nt_reader_laws.specs.Apcs.{ApcEventsAreCalls, acts_if, apc_acts, apc_acts_in, left_by_acts, made_apcs, named_apcs}
use Rattle.nt_event.specs.Apcs.{ApcQueues, has_user, with_apc, without_apc}
use Rattle.nt_event.specs.Frames.{is_base_body}
use Rattle.nt_event.specs.Regions.{stand_at}
use Rattle.nt_event.specs.Replies.{alerted, is_answer, is_user, kernel_apc, satisfied, user_apc}
use Rattle.nt_event.specs.Routines.{is_kernel_kind, kind_of, owner_of}
use Rattle.nt_event.specs.Threads.{ThreadFacts, ended, ends_by_alert, ends_by_apc, ends_by_expiry, ends_by_release, is_alerted, is_gone, set_alerted}
use Rattle.nt_event.specs.Waits.{alert_facts, alert_taken, alert_tested, answered, apc_taken, facts, frame_ended, insert_facts, is_of_thread, made_facts}
use Rattle.nt_event.specs.Waits.{named_facts, new_pick, release_facts, waited, waited_again}
use Rattle.nt_event.specs.declared.commands.ApcKind.{ApcKind}
use Rattle.nt_event.specs.declared.commands.ApcKind.TheVariants.{User as UserApc}
use Rattle.nt_event.specs.declared.commands.Command.TheVariants.{Alert, Delay, InsertApc, Release, RemoveApc, StartWait, TestAlert, Yield}
use Rattle.nt_event.specs.declared.commands.Mode.{Mode}
use Rattle.nt_event.specs.declared.commands.Mode.TheVariants.{Kernel as KernelMode, User as UserMode}
use Rattle.nt_event.specs.declared.commands.Regions.{Regions}
use Rattle.nt_event.specs.declared.commands.Reply.{Reply}
use Rattle.nt_event.specs.declared.commands.Reply.TheVariants.{Done, Status, Yes}
use Rattle.nt_event.specs.declared.commands.TimerKey.TheVariants.{Delay as OfDelay}
use Rattle.nt_event.specs.declared.events.Begun.TheVariants.{Apc}
use Rattle.nt_event.specs.declared.events.Event.{Event}
use Rattle.nt_event.specs.declared.events.What.{What}
use Rattle.nt_event.specs.declared.events.What.TheVariants.{Begin, Call, End, Expire, Flush, Rewait}
use Rattle.nt_event.specs.declared.frames.Again.{Again}
use Rattle.nt_event.specs.declared.frames.Body.{Body}
use Rattle.nt_event.specs.declared.frames.Body.TheVariants.{Apc as OnApc, Base as OnBase}
use Rattle.nt_event.specs.declared.inserts.Pick.{Pick}
use Rattle.nt_event.specs.declared.jobs.Stand.{Stand}
use Rattle.nt_event.specs.declared.numbers.ThreadNo.{ThreadNo}
use Rattle.nt_event.specs.declared.scripts.Script.{Script}
use Rattle.std.proofs.Common.{ap, append_assoc, arith, refl, subst, sym, ◌++◌, ◌∙◌}
use Rattle.std.specs.Option.{option_map_or}
use Rattle.std.specs.Prelude.{Bool, List, None, Option, Some, [], false, if◌then◌else◌, is_some, length, suc, true, ℕ, ◌&&◌, ◌==◌, ◌∷◌, ◌≡◌, ◌≤◌}

-- ---- what keeps the queues

-- setting an alerted flag leaves a thread's APC queues
set_apcs : (m : Mode) (b : Bool) (x : ThreadFacts) → (set_alerted m b x).apcs ≡ x.apcs
set_apcs KernelMode b x = refl
set_apcs UserMode b x = refl

-- a release leaves a thread's APC queues
release_apcs : (x : ThreadFacts) → (release_facts x).apcs ≡ x.apcs
release_apcs x = go (ends_by_release x) (is_gone x)
  where
    go : (a b : Bool) → (if a then ended satisfied x else (if b then x else record x { released = true })).apcs ≡ x.apcs
    go true b = refl
    go false true = refl
    go false false = refl

-- an alert leaves a thread's APC queues
alert_apcs : (m : Mode) (x : ThreadFacts) → (alert_facts m x).apcs ≡ x.apcs
alert_apcs m x = go (is_gone x) (ends_by_alert m x)
  where
    go : (a b : Bool) → (if a then x else (if b then ended alerted x else set_alerted m true x)).apcs ≡ x.apcs
    go true b = refl
    go false true = refl
    go false false = set_apcs m true x

-- testing for an alert leaves a thread's APC queues
tested_apcs : (m : Mode) (x : ThreadFacts) → (alert_tested m x).apcs ≡ x.apcs
tested_apcs m x = go (is_alerted m x) (is_user m && has_user x.apcs)
  where
    go : (a b : Bool) → (if a then set_alerted m false x else (if b then record x { user_pending = true } else x)).apcs ≡ x.apcs
    go true b = set_apcs m false x
    go false true = refl
    go false false = refl

-- answering a wait leaves a thread's APC queues
answered_apcs : (st : ℕ) (m : Mode) (a delay : Bool) (x : ThreadFacts) → (answered st m a delay x).apcs ≡ x.apcs
answered_apcs st m a delay x = go (st == satisfied) delay (st == alerted) ((st == user_apc) && a)
  where
    go : (s d l u : Bool) → (if s then (if d then x else record x { released = false }) else
        (if l then alert_taken m x else (if u then record x { user_pending = true } else x))).apcs ≡ x.apcs
    go true true l u = refl
    go true false l u = refl
    go false d true u = set_apcs (if is_alerted m x then m else KernelMode) false x
    go false d false true = refl
    go false d false false = refl

-- beginning a wait leaves a thread's APC queues
waited_apcs : (n : ℕ) (r : Regions) (level : ℕ) (m : Mode) (a delay : Bool) (y : Reply) (x : ThreadFacts) → (waited n r level m a delay y x).apcs ≡ x.apcs
waited_apcs n r level m a delay (Status st) x = answered_apcs st m a delay x
waited_apcs n r level m a delay y x = refl

-- going on with an interrupted wait leaves a thread's APC queues
again_apcs : (n : ℕ) (r : Regions) (level : ℕ) (again : Option Again) (y : Reply) (x : ThreadFacts) → (waited_again n r level again y x).apcs ≡ x.apcs
again_apcs n r level None y x = refl
again_apcs n r level (Some w) y x = waited_apcs n r level w.mode w.alertable (is_some w.due) y x

-- inserting an APC leaves a thread's queues with that APC put in
insert_apcs : (pick : Pick) (x : ThreadFacts) → (insert_facts pick x).apcs ≡ with_apc pick x.apcs
insert_apcs pick x = go (ends_by_apc pick x) (is_kernel_kind pick.kind)
  where
    y : ThreadFacts
    y = record x { apcs = with_apc pick x.apcs }

    go : (a b : Bool) → (if a then (if b then ended kernel_apc (record x { apcs = with_apc pick x.apcs })
        else record (ended user_apc (record x { apcs = with_apc pick x.apcs })) { user_pending = true })
        else record x { apcs = with_apc pick x.apcs }).apcs ≡ with_apc pick x.apcs
    go true true = refl
    go true false = refl
    go false b = refl

-- ---- events

-- an event that names a thread leaves the queues that its calls of them leave
named_step : (s : Script) (t : ThreadNo) (n : ℕ) (w : What) (x : ThreadFacts) → (named_facts s t n w x).apcs ≡ left_by_acts (named_apcs s t n w) x.apcs
named_step s t n (Call f (Release u) y) x = go (is_answer y && (u.0 == t.0))
  where
    go : (b : Bool) → (if b then release_facts x else x).apcs ≡ x.apcs
    go true = release_apcs x
    go false = refl
named_step s t n (Call f (Alert u m) y) x = go (is_answer y && (u.0 == t.0))
  where
    go : (b : Bool) → (if b then alert_facts m x else x).apcs ≡ x.apcs
    go true = alert_apcs m x
    go false = refl
named_step s t n (Call f (InsertApc a) Yes) x = go ((owner_of s a).0 == t.0)
  where
    go : (b : Bool) → (if b then insert_facts (new_pick s a n) x else x).apcs ≡ left_by_acts (acts_if b (Inserts (new_pick s a n))) x.apcs
    go true = insert_apcs (new_pick s a n) x
    go false = refl
named_step s t n (Call f (RemoveApc a) Yes) x = go ((owner_of s a).0 == t.0)
  where
    go : (b : Bool) → (if b then record x { apcs = without_apc a x.apcs } else x).apcs ≡ left_by_acts (acts_if b (Uses a)) x.apcs
    go true = refl
    go false = refl
named_step s t n (Expire (OfDelay u) from) x = go (u.0 == t.0) (ends_by_expiry from x)
  where
    go : (a b : Bool) → (if a then (if b then ended satisfied x else x) else x).apcs ≡ x.apcs
    go true true = refl
    go true false = refl
    go false b = refl
named_step s t n w x = refl

-- an event that a thread makes leaves the queues that its calls of them leave
made_step : (s : Script) (n : ℕ) (st : Stand) (w : What) (x : ThreadFacts) → (made_facts s n st w x).apcs ≡ left_by_acts (made_apcs st.body w) x.apcs
made_step s n st (Call f (StartWait m a) y) x = waited_apcs n st.regions st.level m a false y x
made_step s n st (Call f (Delay m a u) y) x = waited_apcs n st.regions st.level m a true y x
made_step s n st (Rewait f y) x = again_apcs n st.regions st.level st.again y x
made_step s n st (Call f (TestAlert m) y) x = go (is_answer y)
  where
    go : (b : Bool) → (if b then alert_tested m x else x).apcs ≡ x.apcs
    go true = tested_apcs m x
    go false = refl
made_step s n st (Call f Yield Done) x = refl
made_step s n st (Begin (Apc a) from) x = go (kind_of s a)
  where
    go : (k : ApcKind) → (apc_taken k a x).apcs ≡ without_apc a x.apcs
    go UserApc = refl
    go k = refl
made_step s n st (End f) x = go st.body
  where
    go : (b : Option Body) → (frame_ended b x).apcs ≡ left_by_acts (acts_if (option_map_or is_base_body b false) Closes) x.apcs
    go (Some (OnBase u)) = refl
    go (Some (OnApc a UserApc)) = tested_apcs UserMode x
    go (Some b) = refl
    go None = refl
made_step s n st (Flush a from) x = refl
made_step s n st w x = refl

-- the queues left by joined lists of calls are those left by the first list after the second
left-append : (xs ys : List Act) (q : ApcQueues) → left_by_acts (xs ++ ys) q ≡ left_by_acts xs (left_by_acts ys q)
left-append [] ys q = refl
left-append (x ∷ xs) ys q = ap (after x) (left-append xs ys q)

-- an event leaves the queues that all its calls of them leave
event_step : (s : Script) (t : ThreadNo) (e : Event) (past : List Event) → (facts s t (e ∷ past)).apcs
    ≡ left_by_acts (apc_acts s t (length past) (stand_at s e.cpu past) (is_of_thread s t e) e.what) (facts s t past).apcs
event_step s t e past =
    named_step s t (length past) e.what
    (if is_of_thread s t e then made_facts s (length past) (stand_at s e.cpu past) e.what (facts s t past) else facts s t past)
    ∙ (ap (left_by_acts (named_apcs s t (length past) e.what)) (go (is_of_thread s t e))
    ∙ sym (left-append (named_apcs s t (length past) e.what) (if is_of_thread s t e then made_apcs (stand_at s e.cpu past).body e.what else [])
    (facts s t past).apcs))
  where
    go : (b : Bool) → (if b then made_facts s (length past) (stand_at s e.cpu past) e.what (facts s t past) else facts s t past).apcs
        ≡ left_by_acts (if b then made_apcs (stand_at s e.cpu past).body e.what else []) (facts s t past).apcs
    go true = made_step s (length past) (stand_at s e.cpu past) e.what (facts s t past)
    go false = refl

-- calls made after those from empty queues leave the queues of all calls joined
queues-append : (xs ys : List Act) → left_by_acts xs (queues_of ys) ≡ queues_of (xs ++ ys)
queues-append [] ys = refl
queues-append (x ∷ xs) ys = ap (after x) (queues-append xs ys)

-- the queues of a thread after a history are those that its calls leave
history_step : (s : Script) (t : ThreadNo) (past : List Event) → (facts s t past).apcs ≡ queues_of (apc_acts_in s t past)
history_step s t [] = refl
history_step s t (e ∷ past) =
    let acts : List Act = apc_acts s t (length past) (stand_at s e.cpu past) (is_of_thread s t e) e.what in
    event_step s t e past ∙ (ap (left_by_acts acts) (history_step s t past) ∙ queues-append acts (apc_acts_in s t past))

-- ---- numbers

-- event numbers of calls that are below one number are below a greater one
below_more : (n m : ℕ) (acts : List Act) → n ≤ m → NumbersBelow n acts → NumbersBelow m acts
below_more n m [] l h = tt
below_more n m (Inserts x ∷ acts) l h = (let k = h.0 in omega (arith, k, l), below_more n m acts l h.1)
below_more n m (Uses a ∷ acts) l h = below_more n m acts l h
below_more n m (Closes ∷ acts) l h = below_more n m acts l h

-- calls of the event's own thread are below the number of which the earlier ones are below
made_below : (n m : ℕ) (body : Option Body) (b : Bool) (w : What) (acts : List Act) → NumbersBelow n acts →
    NumbersBelow n ((if b then made_apcs body w else []) ++ acts)
made_below n m body false w acts h = h
made_below n m body true (Begin (Apc a) from) acts h = h
made_below n m body true (Flush a from) acts h = h
made_below n m body true (End f) acts h = go (option_map_or is_base_body body false)
  where
    go : (b : Bool) → NumbersBelow n (acts_if b Closes ++ acts)
    go true = h
    go false = h
made_below n m body true w acts h = h

-- calls of the event's own thread leave the numbers of inserts rising
made_rise : (body : Option Body) (b : Bool) (w : What) (acts : List Act) → NumbersRise acts → NumbersRise ((if b then made_apcs body w else []) ++ acts)
made_rise body false w acts h = h
made_rise body true (Begin (Apc a) from) acts h = h
made_rise body true (Flush a from) acts h = h
made_rise body true (End f) acts h = go (option_map_or is_base_body body false)
  where
    go : (b : Bool) → NumbersRise (acts_if b Closes ++ acts)
    go true = h
    go false = h
made_rise body true w acts h = h

-- calls of an event that names a thread are below the next number
named_below : (s : Script) (t : ThreadNo) (n : ℕ) (w : What) (acts : List Act) → NumbersBelow n acts → NumbersBelow (suc n) (named_apcs s t n w ++ acts)
named_below s t n (Call f (InsertApc a) Yes) acts h = go ((owner_of s a).0 == t.0)
  where
    go : (b : Bool) → NumbersBelow (suc n) (acts_if b (Inserts (new_pick s a n)) ++ acts)
    go true = (omega arith, below_more n (suc n) acts (omega arith) h)
    go false = below_more n (suc n) acts (omega arith) h
named_below s t n (Call f (RemoveApc a) Yes) acts h = go ((owner_of s a).0 == t.0)
  where
    go : (b : Bool) → NumbersBelow (suc n) (acts_if b (Uses a) ++ acts)
    go true = below_more n (suc n) acts (omega arith) h
    go false = below_more n (suc n) acts (omega arith) h
named_below s t n w acts h = below_more n (suc n) acts (omega arith) h

-- calls of an event that names a thread leave the numbers of inserts rising
named_rise : (s : Script) (t : ThreadNo) (n : ℕ) (w : What) (acts : List Act) → NumbersBelow n acts → NumbersRise acts →
    NumbersRise (named_apcs s t n w ++ acts)
named_rise s t n (Call f (InsertApc a) Yes) acts h k = go ((owner_of s a).0 == t.0)
  where
    go : (b : Bool) → NumbersRise (acts_if b (Inserts (new_pick s a n)) ++ acts)
    go true = (h, k)
    go false = k
named_rise s t n (Call f (RemoveApc a) Yes) acts h k = go ((owner_of s a).0 == t.0)
  where
    go : (b : Bool) → NumbersRise (acts_if b (Uses a) ++ acts)
    go true = k
    go false = k
named_rise s t n w acts h k = k

-- the numbers of a history's inserts rise and are below its length
numbers : (s : Script) (t : ThreadNo) (past : List Event) → NumbersBelow (length past) (apc_acts_in s t past) × NumbersRise (apc_acts_in s t past)
numbers s t [] = (tt, tt)
numbers s t (e ∷ past) =
    let ih = numbers s t past in
    let made : List Act = if is_of_thread s t e then made_apcs (stand_at s e.cpu past).body e.what else [] in
    let below = made_below (length past) 0 (stand_at s e.cpu past).body (is_of_thread s t e) e.what (apc_acts_in s t past) ih.0 in
    let rise = made_rise (stand_at s e.cpu past).body (is_of_thread s t e) e.what (apc_acts_in s t past) ih.1 in
    let group : (named_apcs s t (length past) e.what ++ made) ++ apc_acts_in s t past ≡ named_apcs s t (length past) e.what ++ (made ++ apc_acts_in s t past) =
    append_assoc (named_apcs s t (length past) e.what) made (apc_acts_in s t past) in (
      subst (NumbersBelow (suc (length past))) (sym group) (named_below s t (length past) e.what (made ++ apc_acts_in s t past) below),
      subst NumbersRise (sym group) (named_rise s t (length past) e.what (made ++ apc_acts_in s t past) below rise),
    )

-- each event leaves of a thread's APC queues what its calls leave, and so does every history
pub apc_calls : ApcEventsAreCalls
apc_calls s t = record {
  event = λ e past. event_step s t e past;
  history = λ past. history_step s t past;
  numbers = λ past. (numbers s t past).1;
}
