-- In a run, nothing is deliverable behind a block.
use Rattle.std.proofs.Common.{ap, subst, sym, ◌∙◌}
use Rattle.std.proofs.lemmas.Bool.{eqb-true}
use Rattle.std.specs.Option.{option_map_or}
use Rattle.std.specs.Prelude.{Bool, List, None, Option, Some, [], false, if◌then◌else◌, is_some, length, option_map, refl, true, ℕ, ◌&&◌, ◌+◌, ◌==◌, ◌∷◌, ◌≡◌}
use Rattle.nt_event.specs.declared.commands.ApcKind.TheVariants.{User as UserApc}
use Rattle.nt_event.specs.declared.commands.Command.TheVariants.{Alert, Delay, InsertApc, Release, RemoveApc, StartWait, TestAlert, Yield}
use Rattle.nt_event.specs.declared.commands.Mode.TheVariants.{User as UserMode}
use Rattle.nt_event.specs.declared.commands.Refusal.{Refusal}
use Rattle.nt_event.specs.declared.commands.Reply.{Reply}
use Rattle.nt_event.specs.declared.commands.Reply.TheVariants.{Done, Yes}
use Rattle.nt_event.specs.declared.commands.TimerKey.TheVariants.{Delay as OfDelay}
use Rattle.nt_event.specs.declared.events.Begun.TheVariants.{Apc}
use Rattle.nt_event.specs.declared.events.Event.{Event}
use Rattle.nt_event.specs.declared.events.What.{What}
use Rattle.nt_event.specs.declared.events.What.TheVariants.{Begin, Call, End, Expire, Flush, Gone, Rewait, Switch}
use Rattle.nt_event.specs.declared.frames.Again.{Again}
use Rattle.nt_event.specs.declared.frames.Body.{Body}
use Rattle.nt_event.specs.declared.frames.Body.TheVariants.{Apc as OnApc, Base as OnBase}
use Rattle.nt_event.specs.declared.jobs.Stand.{Stand}
use Rattle.nt_event.specs.declared.numbers.ApcNo.{ApcNo}
use Rattle.nt_event.specs.declared.numbers.ThreadNo.{ThreadNo}
use Rattle.nt_event.specs.declared.scripts.Script.{Script}
use Rattle.nt_event.specs.declared.threads.Doing.{Doing}
use Rattle.nt_event.specs.declared.threads.Doing.TheVariants.{Blocked as IsBlocked}
use Rattle.nt_event.specs.declared.threads.Waiting.{Waiting}
use Rattle.nt_event.specs.Apcs.{takes}
use Rattle.nt_event.specs.Commands.{is_reached}
use Rattle.nt_event.specs.Frames.{running}
use Rattle.nt_event.specs.Lanes.{facts_at, facts_of, lanes_at}
use Rattle.nt_event.specs.Own.{own_of}
use Rattle.nt_event.specs.Regions.{stand_at}
use Rattle.nt_event.specs.Routines.{owner_of}
use Rattle.nt_event.specs.Script.{has_thread}
use Rattle.nt_event.specs.Step.{IsLegal, IsRun, thread_field}
use Rattle.nt_event.specs.Threads.{ThreadFacts, start_facts}
use Rattle.nt_event.specs.Waits.{alert_facts, alert_tested, expiry_facts, facts, frame_ended, insert_facts, is_of_thread, made_facts, named_facts, new_pick}
use Rattle.nt_event.specs.Waits.{release_facts, wait_reply, waited, waited_again}
use Rattle.nt_event.specs.Replies.{is_answer}
use Rattle.nt_event.specs.Numbers.{is_by, is_of}
use Rattle.nt_runs.proofs.Known.{Known, KnownCall, KnownRewait, again_known, legal_known, refusal_in, reply_or}
use Rattle.nt_event.proofs.Options.{both}
use Rattle.nt_runs.proofs.Running.{same_thread, thread_named}
use Rattle.nt_runs.proofs.Stops.{call_accepted}
use Rattle.nt_runs.proofs.Turns.{is_next}
use Rattle.nt_runs.proofs.Pending.{yes_if_true}
use Rattle.nt_runs.proofs.Rundown.Steps.{facts_there}
use Rattle.nt_thread.proofs.Events.{facts-by}
use Rattle.nt_thread.proofs.Runs.{quiet-after}
use Rattle.nt_event.specs.Quiet.{IsQuiet, NothingBehind, QuietDoing}
use Rattle.nt_thread.specs.Runs.{Alerts, EndsDelay, Inserts, Leaves, Releases, Removes, Takes, TestsAlert, Wait, Waits}

-- if nothing is deliverable behind either of two thread states, nothing is behind the one that a test picks
quiet_if : (b : Bool) (x y : ThreadFacts) → NothingBehind x → NothingBehind y → NothingBehind (if b then y else x)
quiet_if true x y h k = k
quiet_if false x y h k = h

-- ---- events that the thread makes

-- a wait that answers by its tests, or is refused
quiet_wait : (w : Wait) (o : Option Refusal) (x : ThreadFacts) (y : Reply) → y ≡ reply_or o (wait_reply x w.regions w.level w.mode w.alertable w.reached) →
    NothingBehind x → NothingBehind (waited w.number w.regions w.level w.mode w.alertable (is_some w.reached) y x)
quiet_wait w None x y e h =
    subst (λ (y : Reply). NothingBehind (waited w.number w.regions w.level w.mode w.alertable (is_some w.reached) y x)) (sym e) (quiet-after (Waits w) x h)
quiet_wait w (Some r) x y e h =
    subst (λ (y : Reply). NothingBehind (waited w.number w.regions w.level w.mode w.alertable (is_some w.reached) y x)) (sym e) h

-- mapping an option keeps whether it is there
same_some : (f : ℕ → Bool) (o : Option ℕ) → is_some (option_map f o) ≡ is_some o
same_some f None = refl
same_some f (Some n) = refl

-- case: the thread takes up its wait again; nothing is deliverable behind it after the reply
quiet_rewait : (s : Script) (e : Event) (past : List Event) (f : ℕ) (y : Reply) (x : ThreadFacts) → facts_of (lanes_at s past) (running e.cpu past) ≡ x →
    KnownRewait e.cpu (own_of s e.cpu past) (lanes_at s past) f y → NothingBehind x →
    NothingBehind (waited_again (length past) (stand_at s e.cpu past).regions (stand_at s e.cpu past).level (stand_at s e.cpu past).again y x)
quiet_rewait s e past f y x same k h =
    subst (λ (o : Option Again). NothingBehind (waited_again (length past) (stand_at s e.cpu past).regions (stand_at s e.cpu past).level o y x)) (sym again)
    (subst (λ (b : Bool). NothingBehind (waited (length past) (stand_at s e.cpu past).regions
    (stand_at s e.cpu past).level k.wait.mode k.wait.alertable b y x)) (same_some (is_reached (lanes_at s past).timers.now) k.wait.due)
    (quiet_wait taken None x y replied h))
  where
    again : (stand_at s e.cpu past).again ≡ Some k.wait
    again = again_known e.cpu (own_of s e.cpu past) k.frame k.goes_on ∙ k.again

    taken : Wait
    taken = record {
      number = length past;
      mode = k.wait.mode;
      alertable = k.wait.alertable;
      reached = option_map (is_reached (lanes_at s past).timers.now) k.wait.due;
      level = (stand_at s e.cpu past).level;
      regions = (stand_at s e.cpu past).regions;
    }

    replied : y ≡ wait_reply x (stand_at s e.cpu past).regions (stand_at s e.cpu past).level k.wait.mode k.wait.alertable
        (option_map (is_reached (lanes_at s past).timers.now) k.wait.due)
    replied =
        k.reply ∙ ap (λ (x : ThreadFacts). wait_reply x (stand_at s e.cpu past).regions (stand_at s e.cpu past).level k.wait.mode k.wait.alertable
        (option_map (is_reached (lanes_at s past).timers.now) k.wait.due)) same

-- case: a frame of the thread ends; nothing is deliverable behind it after the end
quiet_ended : (b : Option Body) (x : ThreadFacts) → NothingBehind x → NothingBehind (frame_ended b x)
quiet_ended (Some (OnBase t)) x h = quiet-after Leaves x h
quiet_ended (Some (OnApc a UserApc)) x h = quiet-after (TestsAlert UserMode) x h
quiet_ended b x h = h

-- the thread runs, where an event but a Switch names it
runs_there : (s : Script) (limit : ℕ) (t : ThreadNo) (e : Event) (past : List Event) (w : What) → has_thread s t ≡ true → IsLegal s limit e past →
    is_of_thread s t e ≡ true → e.what ≡ w → thread_field w (running e.cpu past) ≡ running e.cpu past → facts_of (lanes_at s past) (running e.cpu past)
    ≡ facts s t past
runs_there s limit t e past w has g of k field =
    let by : is_by e t ≡ true = (both (is_of e _) (is_by e t) of).1 in
    let run : running e.cpu past ≡ Some t = sym field ∙ (ap (λ (w : What). thread_field w (running e.cpu past)) (sym k)
    ∙ (sym (thread_named s limit e past g) ∙ same_thread e.thread t by)) in
    ap (λ (o : Option ThreadNo). option_map_or (facts_at (lanes_at s past)) o start_facts) run ∙ facts_there s limit t past has

-- case: the event is of the thread itself; it leaves nothing deliverable behind a block
made_quiet : (s : Script) (limit : ℕ) (t : ThreadNo) (e : Event) (past : List Event) → has_thread s t ≡ true → IsLegal s limit e past → is_of_thread s t e
    ≡ true → NothingBehind (facts s t past) → (w : What) → e.what ≡ w → NothingBehind (made_facts s (length past) (stand_at s e.cpu past) w (facts s t past))
made_quiet s limit t e past has g of h w k = go w k
  where
    known : (w : What) → e.what ≡ w → is_next w ≡ true → Known s e.cpu (own_of s e.cpu past) (lanes_at s past) w
    known w k =
        subst (λ (w : What). is_next w ≡ true → Known s e.cpu (own_of s e.cpu past) (lanes_at s past) w) k (legal_known s limit e past g)

    here : (w : What) → e.what ≡ w → thread_field w (running e.cpu past) ≡ running e.cpu past → facts_of (lanes_at s past) (running e.cpu past) ≡ facts s t past
    here w k f = runs_there s limit t e past w has g of k f

    go : (w : What) → e.what ≡ w → NothingBehind (made_facts s (length past) (stand_at s e.cpu past) w (facts s t past))
    go (Switch u st) k = tt
    go (Call f (StartWait m a) y) k =
        let c : KnownCall s e.cpu (own_of s e.cpu past) (lanes_at s past) f (StartWait m a) y = known (Call f (StartWait m a) y) k refl in
        let st : Stand = stand_at s e.cpu past in
        let same = here (Call f (StartWait m a) y) k refl in
        quiet_wait (record { number = length past; mode = m; alertable = a; reached = None; level = st.level; regions = st.regions })
        (refusal_in (own_of s e.cpu past) c.frame (StartWait m a)) (facts s t past) y
        (c.reply ∙ ap (λ (x : ThreadFacts). reply_or (refusal_in (own_of s e.cpu past) c.frame (StartWait m a))
        (wait_reply x st.regions st.level m a None)) same) h
    go (Call f (Delay m a units) y) k =
        let c : KnownCall s e.cpu (own_of s e.cpu past) (lanes_at s past) f (Delay m a units) y = known (Call f (Delay m a units) y) k refl in
        let st : Stand = stand_at s e.cpu past in
        let reached : Option Bool = Some (is_reached (lanes_at s past).timers.now ((lanes_at s past).timers.now + units)) in
        let same = here (Call f (Delay m a units) y) k refl in
        quiet_wait (record { number = length past; mode = m; alertable = a; reached = reached; level = st.level; regions = st.regions })
        (refusal_in (own_of s e.cpu past) c.frame (Delay m a units)) (facts s t past) y
        (c.reply ∙ ap (λ (x : ThreadFacts). reply_or (refusal_in (own_of s e.cpu past) c.frame (Delay m a units))
        (wait_reply x st.regions st.level m a reached)) same) h
    go (Rewait f y) k =
        quiet_rewait s e past f y (facts s t past) (here (Rewait f y) k refl) (known (Rewait f y) k refl) h
    go (Call f (TestAlert m) y) k =
        quiet_if (is_answer y) (facts s t past) (alert_tested m (facts s t past)) h (quiet-after (TestsAlert m) (facts s t past) h)
    go (Call f Yield Done) k = tt
    go (Begin (Apc a) from) k = quiet-after (Takes (new_pick s a 0)) (facts s t past) h
    go (End f) k = quiet_ended (stand_at s e.cpu past).body (facts s t past) h
    go (Flush a from) k = quiet-after (Removes a) (facts s t past) h
    go (Gone u) k = tt
    go w k = h

-- ---- events that name the thread

-- an insert of an APC that is accepted is of an APC that its owner's queues take
inserted_takes : (s : Script) (limit : ℕ) (t : ThreadNo) (e : Event) (past : List Event) (f : ℕ) (a : ApcNo) → has_thread s t ≡ true → IsLegal s limit e past →
    e.what ≡ Call f (InsertApc a) Yes → ((owner_of s a).0 == t.0) ≡ true → takes a (facts s t past).apcs ≡ true
inserted_takes s limit t e past f a has g k o =
    ap (λ (x : ThreadFacts). takes a x.apcs) (sym there)
    ∙ yes_if_true (takes a (facts_at (lanes_at s past) (owner_of s a)).apcs)
    (sym (call_accepted s e.cpu (own_of s e.cpu past) (lanes_at s past) f (InsertApc a) Yes known refl).1)
  where
    known : KnownCall s e.cpu (own_of s e.cpu past) (lanes_at s past) f (InsertApc a) Yes
    known =
        subst (λ (w : What). is_next w ≡ true → Known s e.cpu (own_of s e.cpu past) (lanes_at s past) w) k (legal_known s limit e past g) refl

    owner : owner_of s a ≡ t
    owner = ap (λ (n : ℕ). record { 0 = n }) (eqb-true (owner_of s a).0 t.0 o)

    there : facts_at (lanes_at s past) (owner_of s a) ≡ facts s t past
    there = ap (facts_at (lanes_at s past)) owner ∙ facts_there s limit t past has

-- case: an APC that the queues take is inserted; nothing is deliverable behind the block after it
quiet_insert : (s : Script) (a : ApcNo) (n : ℕ) (x : ThreadFacts) → NothingBehind x → takes a x.apcs ≡ true → NothingBehind (insert_facts (new_pick s a n) x)
quiet_insert s a n x h k =
    subst (λ (b : Bool). NothingBehind (if b then insert_facts (new_pick s a n) x else x)) k (quiet-after (Inserts (new_pick s a n)) x h)

-- x is what the thread's own part of the event left: for an insert, the facts before it
named_quiet : (s : Script) (t : ThreadNo) (n : ℕ) (w : What) (x : ThreadFacts) →
    ((f : ℕ) (a : ApcNo) → w ≡ Call f (InsertApc a) Yes → ((owner_of s a).0 == t.0) ≡ true → takes a x.apcs ≡ true) → NothingBehind x →
    NothingBehind (named_facts s t n w x)
named_quiet s t n (Call f (Release u) y) x k h =
    quiet_if (is_answer y && (u.0 == t.0)) x (release_facts x) h (quiet-after Releases x h)
named_quiet s t n (Call f (Alert u m) y) x k h =
    quiet_if (is_answer y && (u.0 == t.0)) x (alert_facts m x) h (quiet-after (Alerts m) x h)
named_quiet s t n (Call f (InsertApc a) Yes) x k h = go ((owner_of s a).0 == t.0) refl
  where
    go : (b : Bool) → ((owner_of s a).0 == t.0) ≡ b → NothingBehind (if b then insert_facts (new_pick s a n) x else x)
    go true o = quiet_insert s a n x h (k f a refl o)
    go false o = h
named_quiet s t n (Call f (RemoveApc a) Yes) x k h =
    quiet_if ((owner_of s a).0 == t.0) x _ h (quiet-after (Removes a) x h)
named_quiet s t n (Expire (OfDelay u) from) x k h =
    quiet_if (u.0 == t.0) x (expiry_facts from x) h (quiet-after (EndsDelay from) x h)
named_quiet s t n w x k h = h

-- ---- in a run

-- an event of a run, of whichever processor, leaves nothing deliverable behind a thread's block
quiet_step : (s : Script) (limit : ℕ) (t : ThreadNo) (e : Event) (past : List Event) → has_thread s t ≡ true → IsLegal s limit e past →
    NothingBehind (facts s t past) → NothingBehind (facts s t (e ∷ past))
quiet_step s limit t e past has g h = go (is_of_thread s t e) refl
  where
    after : (b : Bool) → is_of_thread s t e ≡ b → facts s t (e ∷ past)
        ≡ named_facts s t (length past) e.what (if b then made_facts s (length past) (stand_at s e.cpu past) e.what (facts s t past) else facts s t past)
    after b of = facts-by s t (length past) (stand_at s e.cpu past) e (facts s t past) e.what b refl of

    takes_here : (f : ℕ) (a : ApcNo) → e.what ≡ Call f (InsertApc a) Yes → ((owner_of s a).0 == t.0) ≡ true → takes a (facts s t past).apcs ≡ true
    takes_here f a k o = inserted_takes s limit t e past f a has g k o

    -- an insert changes nothing of the facts of the thread that makes it
    takes_made : (f : ℕ) (a : ApcNo) → e.what ≡ Call f (InsertApc a) Yes → ((owner_of s a).0 == t.0) ≡ true →
        takes a (made_facts s (length past) (stand_at s e.cpu past) e.what (facts s t past)).apcs ≡ true
    takes_made f a k o =
        ap (λ (w : What). takes a (made_facts s (length past) (stand_at s e.cpu past) w (facts s t past)).apcs) k ∙ takes_here f a k o

    go : (b : Bool) → is_of_thread s t e ≡ b → NothingBehind (facts s t (e ∷ past))
    go true of =
        subst (λ (x : ThreadFacts). NothingBehind x) (sym (after true of))
        (named_quiet s t (length past) e.what (made_facts s (length past) (stand_at s e.cpu past) e.what (facts s t past)) takes_made
        (made_quiet s limit t e past has g of h e.what refl))
    go false of =
        subst (λ (x : ThreadFacts). NothingBehind x) (sym (after false of)) (named_quiet s t (length past) e.what (facts s t past) takes_here h)

-- in a run nothing is deliverable behind what a thread of the script is doing
pub quiet : (s : Script) (limit : ℕ) (t : ThreadNo) (past : List Event) → IsRun s limit past → has_thread s t ≡ true → NothingBehind (facts s t past)
quiet s limit t [] r has = tt
quiet s limit t (e ∷ past) r has = quiet_step s limit t e past has r.0 (quiet s limit t past r.1 has)

-- in a run no kernel APC, and no user APC if the wait takes them, is deliverable to a blocked thread
pub nothing_waits_behind_a_block : (s : Script) (limit : ℕ) (t : ThreadNo) (w : Waiting) (past : List Event) → IsRun s limit past → has_thread s t ≡ true →
    (facts s t past).doing ≡ IsBlocked w → IsQuiet w (facts s t past).apcs
nothing_waits_behind_a_block s limit t w past r has d =
    subst (λ (d : Doing). QuietDoing d (facts s t past).apcs) d (quiet s limit t past r has)
