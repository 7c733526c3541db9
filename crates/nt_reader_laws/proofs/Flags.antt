-- What each event leaves of the flags and marks of a thread.
use Rattle.nt_event.specs.Apcs.{has_user, same_kind, with_apc, without_apc}
use Rattle.nt_event.specs.Frames.{is_base_body, is_user_apc_body}
use Rattle.nt_event.specs.Lists.{when}
use Rattle.nt_event.specs.Regions.{stand_at}
use Rattle.nt_event.specs.Replies.{alerted, is_answer, kernel_apc, satisfied, user_apc}
use Rattle.nt_event.specs.Routines.{is_kernel_kind, kind_of, owner_of}
use Rattle.nt_event.specs.Threads.{ThreadFacts, ended, ends_by_alert, ends_by_expiry, ends_by_kernel, ends_by_release, ends_by_user, is_alerted, is_gone}
use Rattle.nt_event.specs.Threads.{set_alerted}
use Rattle.nt_event.specs.Waits.{alert_taken, alert_tested, answered, apc_taken, facts, frame_ended, is_of_thread, made_facts, named_facts, new_pick}
use Rattle.nt_event.specs.Waits.{waited_again}
use Rattle.nt_event.specs.declared.commands.ApcKind.{ApcKind}
use Rattle.nt_event.specs.declared.commands.ApcKind.TheVariants.{User as UserApc}
use Rattle.nt_event.specs.declared.commands.Command.TheVariants.{Alert, Delay, InsertApc, Release, RemoveApc, StartWait, TestAlert, Yield}
use Rattle.nt_event.specs.declared.commands.Mode.{Mode}
use Rattle.nt_event.specs.declared.commands.Mode.TheVariants.{Kernel as KernelMode, User as UserMode}
use Rattle.nt_event.specs.declared.commands.Reply.{Reply}
use Rattle.nt_event.specs.declared.commands.Reply.TheVariants.{Blocked, Done, No, Refused, Spin, Status, Yes}
use Rattle.nt_event.specs.declared.commands.TimerKey.TheVariants.{Delay as OfDelay}
use Rattle.nt_event.specs.declared.events.Begun.TheVariants.{Apc}
use Rattle.nt_event.specs.declared.events.Event.{Event}
use Rattle.nt_event.specs.declared.events.What.{What}
use Rattle.nt_event.specs.declared.events.What.TheVariants.{Begin, Call, End, Expire, Rewait}
use Rattle.nt_event.specs.declared.frames.Again.{Again}
use Rattle.nt_event.specs.declared.frames.Body.{Body}
use Rattle.nt_event.specs.declared.frames.Body.TheVariants.{Apc as OnApc, Base as OnBase}
use Rattle.nt_event.specs.declared.inserts.Pick.{Pick}
use Rattle.nt_event.specs.declared.jobs.Stand.{Stand}
use Rattle.nt_event.specs.declared.numbers.ApcNo.{ApcNo}
use Rattle.nt_event.specs.declared.numbers.ThreadNo.{ThreadNo}
use Rattle.nt_event.specs.declared.scripts.Script.{Script}
use Rattle.nt_runs.proofs.Facts.{facts_made}
use Rattle.nt_thread.specs.Rows.{same_mode}
use Rattle.nt_reader_laws.proofs.SetAndKept.{flag_after, set_and_kept}
use Rattle.nt_reader_laws.specs.Flags.{FlagsAreSetAndKept, IsSetAndKept, alert_mode, alerted_wait, alerts, begins_user, clears_alerted, clears_leaving}
use Rattle.nt_reader_laws.specs.Flags.{clears_released, clears_user_pending, ends_base, is_gone_event, is_mode, releases, satisfies, sets_alerted, sets_leaving}
use Rattle.nt_reader_laws.specs.Flags.{sets_released, sets_user_pending, tested_mode, user_ends, user_wait}
use Rattle.std.proofs.Common.{ap, arith, refl, sym, ◌∙◌}
use Rattle.std.proofs.lemmas.Bool.{eqb-true}
use Rattle.std.specs.Option.{option_map_or}
use Rattle.std.specs.Prelude.{Bool, List, None, Option, Some, false, if◌then◌else◌, is_none, is_some, length, not, option_and_then, option_map, true, ℕ, ◌&&◌}
use Rattle.std.specs.Prelude.{◌==◌, ◌||◌, ◌↔◌, ◌∷◌, ◌≡◌}

-- ---- the flags and marks together

record Flags : Type 0 where
  released : Bool
  kernel : Bool
  user : Bool
  pending : Bool
  leaving : Bool

abbrev flags : ThreadFacts → Flags
flags x =
    record { released = x.released; kernel = x.alerted_kernel; user = x.alerted_user; pending = x.user_pending; leaving = x.leaving }

abbrev none_of_them : Flags
none_of_them = record { released = false; kernel = false; user = false; pending = false; leaving = false }

abbrev flags_after : Flags → Flags → Flags → Flags
flags_after sets clears old =
    record {
      released = flag_after sets.released clears.released old.released;
      kernel = flag_after sets.kernel clears.kernel old.kernel;
      user = flag_after sets.user clears.user old.user;
      pending = flag_after sets.pending clears.pending old.pending;
      leaving = flag_after sets.leaving clears.leaving old.leaving;
    }

-- the tests of the readings, by where the processor stood, whether the thread makes the event, and the facts before it
abbrev tests_alert : ThreadFacts → Stand → Bool → What → Mode → Bool
tests_alert x st b w m = b && (is_mode m (option_map (alert_mode x) (alerted_wait st.again w)) || is_mode m (tested_mode st.body w))

abbrev alert_sets : ThreadNo → ThreadFacts → What → Mode → Bool
alert_sets t x w m = alerts t m w && (not (is_gone x) && not (ends_by_alert m x))

abbrev sets_of : Script → ThreadNo → Stand → Bool → What → ThreadFacts → Flags
sets_of s t st b w x =
    record {
      released = releases t w && (not (ends_by_release x) && not (is_gone x));
      kernel = alert_sets t x w KernelMode;
      user = alert_sets t x w UserMode;
      pending = user_ends s t x w || (b && (user_wait st.again w || (is_mode UserMode (tested_mode st.body w) && (not x.alerted_user && has_user x.apcs))));
      leaving = b && ends_base st.body w;
    }

abbrev clears_of : Script → Stand → Bool → What → ThreadFacts → Flags
clears_of s st b w x =
    record {
      released = b && satisfies st.again w;
      kernel = tests_alert x st b w KernelMode;
      user = tests_alert x st b w UserMode;
      pending = b && begins_user s w;
      leaving = b && is_gone_event w;
    }

abbrev after : Script → ThreadNo → ℕ → Stand → Bool → What → ThreadFacts → ThreadFacts
after s t n st b w x = named_facts s t n w (if b then made_facts s n st w x else x)

abbrev Step : Script → ThreadNo → ℕ → Stand → Bool → What → ThreadFacts → Type 0
Step s t n st b w x = flags (after s t n st b w x) ≡ flags_after (sets_of s t st b w x) (clears_of s st b w x) (flags x)

-- ---- events that name the thread

-- a release sets the released flag of a thread whose wait it does not end and that is not gone
released_by : (a e g : Bool) (x : ThreadFacts) → flags (if a then (if e then ended satisfied x else (if g then x else record x { released = true })) else x)
    ≡ flags_after (record none_of_them { released = a && (not e && not g) }) none_of_them (flags x)
released_by true true g x = refl
released_by true false true x = refl
released_by true false false x = refl
released_by false e g x = refl

-- a kernel alert sets that flag of a thread whose wait it does not end and that is not gone
alerted_kernel_by : (a g e u : Bool) (x : ThreadFacts) →
    flags (if a then (if g then x else (if e then ended alerted x else record x { alerted_kernel = true })) else x)
    ≡ flags_after (record none_of_them { kernel = (a && true) && (not g && not e); user = (a && false) && (not g && not u) }) none_of_them (flags x)
alerted_kernel_by true true e u x = refl
alerted_kernel_by true false true u x = refl
alerted_kernel_by true false false u x = refl
alerted_kernel_by false g e u x = refl

-- a user alert sets that flag of a thread whose wait it does not end and that is not gone
alerted_user_by : (a g e k : Bool) (x : ThreadFacts) →
    flags (if a then (if g then x else (if e then ended alerted x else record x { alerted_user = true })) else x)
    ≡ flags_after (record none_of_them { kernel = (a && false) && (not g && not k); user = (a && true) && (not g && not e) }) none_of_them (flags x)
alerted_user_by true true e k x = refl
alerted_user_by true false true k x = refl
alerted_user_by true false false k x = refl
alerted_user_by false g e k x = refl

-- an inserted APC sets the pending flag exactly if it ends a user wait
inserted_by : (a k e u z : Bool) (pick : Pick) (x : ThreadFacts) →
    flags (if a then (if (if k then e else u) then (if k then ended kernel_apc (record x { apcs = with_apc pick x.apcs })
    else record (ended user_apc (record x { apcs = with_apc pick x.apcs })) { user_pending = true }) else record x { apcs = with_apc pick x.apcs }) else x)
    ≡ flags_after (record none_of_them { pending = (a && (not k && u)) || (z && false) }) none_of_them (flags x)
inserted_by true true true u true pick x = refl
inserted_by true true true u false pick x = refl
inserted_by true true false u true pick x = refl
inserted_by true true false u false pick x = refl
inserted_by true false e true z pick x = refl
inserted_by true false e false true pick x = refl
inserted_by true false e false false pick x = refl
inserted_by false k e u true pick x = refl
inserted_by false k e u false pick x = refl

-- removing an APC leaves the flags
removed_by : (b : Bool) (a : ApcNo) (x : ThreadFacts) → flags (if b then record x { apcs = without_apc a x.apcs } else x)
    ≡ flags_after none_of_them none_of_them (flags x)
removed_by true a x = refl
removed_by false a x = refl

-- an expiry leaves the flags
expired_by : (a e : Bool) (x : ThreadFacts) → flags (if a then (if e then ended satisfied x else x) else x)
    ≡ flags_after none_of_them none_of_them (flags x)
expired_by true true x = refl
expired_by true false x = refl
expired_by false e x = refl

-- ---- events that the thread makes

-- a user alert test clears the user flag, or makes user APCs pending if the flag was clear
tested_user : (f u : Bool) (x : ThreadFacts) → x.alerted_user ≡ f →
    flags (if f then record x { alerted_user = false } else (if u then record x { user_pending = true } else x))
    ≡ flags_after (record none_of_them { pending = not f && u }) (record none_of_them { user = true }) (flags x)
tested_user true u x h = refl
tested_user false true x h = λ i. record { released = x.released; kernel = x.alerted_kernel; user = h i; pending = true; leaving = x.leaving }
tested_user false false x h = λ i. record { released = x.released; kernel = x.alerted_kernel; user = h i; pending = x.user_pending; leaving = x.leaving }

-- a kernel alert test clears the kernel flag and sets none
tested_kernel : (f : Bool) (x : ThreadFacts) → x.alerted_kernel ≡ f → flags (if f then record x { alerted_kernel = false } else x)
    ≡ flags_after none_of_them (record none_of_them { kernel = true }) (flags x)
tested_kernel true x h = refl
tested_kernel false x h = λ i. record { released = x.released; kernel = h i; user = x.alerted_user; pending = x.user_pending; leaving = x.leaving }

-- a user alert test that is made under a condition sets and clears the flags that the condition says
test_user : (y : Bool) (x : ThreadFacts) → flags (if y then alert_tested UserMode x else x)
    ≡ flags_after (record none_of_them { pending = is_mode UserMode (when y (Some UserMode)) && (not x.alerted_user && has_user x.apcs) })
    (record none_of_them { kernel = is_mode KernelMode (when y (Some UserMode)); user = is_mode UserMode (when y (Some UserMode)) }) (flags x)
test_user true x = tested_user x.alerted_user (has_user x.apcs) x refl
test_user false x = refl

-- a kernel alert test that is made under a condition clears the kernel flag under it, and sets none
test_kernel : (y : Bool) (x : ThreadFacts) → flags (if y then alert_tested KernelMode x else x)
    ≡ flags_after (record none_of_them { pending = is_mode UserMode (when y (Some KernelMode)) && (not x.alerted_user && has_user x.apcs) })
    (record none_of_them { kernel = is_mode KernelMode (when y (Some KernelMode)); user = is_mode UserMode (when y (Some KernelMode)) }) (flags x)
test_kernel true x = tested_kernel x.alerted_kernel x refl
test_kernel false x = refl

-- a wait that is answered, and is a delay or not
abbrev Answers : Bool → Bool → Bool → Mode → Bool → Bool → ThreadFacts → Type 0
Answers sat al us m a delay x = flags (if sat then (if delay then x else record x { released = false }) else
    (if al then alert_taken m x else (if us && a then record x { user_pending = true } else x)))
    ≡ flags_after (record none_of_them { pending = (us && a) || false })
    (record none_of_them {
      released = sat && not delay;
      kernel = is_mode KernelMode (option_map (alert_mode x) (when al (Some m))) || false;
      user = is_mode UserMode (option_map (alert_mode x) (when al (Some m))) || false;
    }) (flags x)

-- taking an alert in user mode clears the user flag where it is set, else the kernel flag
taken_user : (f : Bool) (x : ThreadFacts) → flags (set_alerted (if f then UserMode else KernelMode) false x)
    ≡ flags_after none_of_them (record none_of_them {
      kernel = same_mode KernelMode (if f then UserMode else KernelMode) || false;
      user = same_mode UserMode (if f then UserMode else KernelMode) || false;
    }) (flags x)
taken_user true x = refl
taken_user false x = refl

-- taking an alert in kernel mode clears the kernel flag
taken_kernel : (f : Bool) (x : ThreadFacts) → flags (set_alerted (if f then KernelMode else KernelMode) false x)
    ≡ flags_after none_of_them (record none_of_them {
      kernel = same_mode KernelMode (if f then KernelMode else KernelMode) || false;
      user = same_mode UserMode (if f then KernelMode else KernelMode) || false;
    }) (flags x)
taken_kernel true x = refl
taken_kernel false x = refl

-- of the three tests of a status at most one holds
answers_one : (st : ℕ) (m : Mode) (a delay : Bool) (x : ThreadFacts) → Answers (st == satisfied) (st == alerted) (st == user_apc) m a delay x
answers_one st m a delay x = go (st == satisfied) (st == alerted) (st == user_apc) refl refl refl
  where
    clash : (p q : ℕ) → (st == p) ≡ true → (st == q) ≡ true → p ≡ q
    clash p q h k = sym (eqb-true st p h) ∙ eqb-true st q k

    go : (sat al us : Bool) → (st == satisfied) ≡ sat → (st == alerted) ≡ al → (st == user_apc) ≡ us → Answers sat al us m a delay x
    go true true us h k l = absurd (let e : satisfied ≡ alerted = clash satisfied alerted h k in omega (arith, e))
    go true false true h k l = absurd (let e : satisfied ≡ user_apc = clash satisfied user_apc h l in omega (arith, e))
    go true false false h k l = plain delay
      where
        plain : (delay : Bool) → Answers true false false m a delay x
        plain true = refl
        plain false = refl
    go false true true h k l = absurd (let e : alerted ≡ user_apc = clash alerted user_apc k l in omega (arith, e))
    go false true false h k l = taken m
      where
        taken : (m : Mode) → Answers false true false m a delay x
        taken UserMode = taken_user x.alerted_user x
        taken KernelMode = taken_kernel x.alerted_kernel x
    go false false true h k l = marked a
      where
        marked : (a : Bool) → Answers false false true m a delay x
        marked true = refl
        marked false = refl
    go false false false h k l = refl

-- answering a wait sets and clears the flags by the status of the answer
answers_so : (st : ℕ) (m : Mode) (a delay : Bool) (x : ThreadFacts) (r : Bool) → ((st == satisfied) && not delay) ≡ r →
    flags (answered st m a delay x) ≡ flags_after (record none_of_them { pending = ((st == user_apc) && a) || false })
    (record none_of_them {
      released = r;
      kernel = is_mode KernelMode (option_map (alert_mode x) (when (st == alerted) (Some m))) || false;
      user = is_mode UserMode (option_map (alert_mode x) (when (st == alerted) (Some m))) || false;
    }) (flags x)
answers_so st m a delay x r h =
    answers_one st m a delay x ∙ ap (λ (v : Bool). flags_after (record none_of_them { pending = ((st == user_apc) && a) || false })
    (record none_of_them {
      released = v;
      kernel = is_mode KernelMode (option_map (alert_mode x) (when (st == alerted) (Some m))) || false;
      user = is_mode UserMode (option_map (alert_mode x) (when (st == alerted) (Some m))) || false;
    }) (flags x)) h

-- a conjunction whose right side is true is its left side
and_true : (b : Bool) → (b && true) ≡ b
and_true true = refl
and_true false = refl

-- a conjunction whose right side is false fails, whatever its left side is
and_false : (b : Bool) → (b && false) ≡ false
and_false true = refl
and_false false = refl

-- ---- each event

abbrev is_status : Reply → Bool
is_status (Status k) = true
is_status y = false

module _ (s : Script) (t : ThreadNo) where
  ended_step : (n f : ℕ) (st : Stand) (x : ThreadFacts) (body : Option Body) → flags (frame_ended body x)
      ≡ flags_after (record none_of_them {
        pending = is_mode UserMode (option_and_then (λ b. when (is_user_apc_body b) (Some UserMode)) body) && (not x.alerted_user && has_user x.apcs);
        leaving = option_map_or is_base_body body false;
      }) (record none_of_them {
        kernel = is_mode KernelMode (option_and_then (λ b. when (is_user_apc_body b) (Some UserMode)) body);
        user = is_mode UserMode (option_and_then (λ b. when (is_user_apc_body b) (Some UserMode)) body);
      }) (flags x)
  ended_step n f st x (Some (OnBase u)) = refl
  ended_step n f st x (Some (OnApc a UserApc)) = test_user true x
  ended_step n f st x (Some b) = refl
  ended_step n f st x None = refl

  rewait_step : (n f k : ℕ) (st : Stand) (x : ThreadFacts) (again : Option Again) → flags (waited_again n st.regions st.level again (Status k) x)
      ≡ flags_after (record none_of_them { pending = ((k == user_apc) && option_map_or (λ w. w.alertable) again false) || false })
      (record none_of_them {
        released = (k == satisfied) && option_map_or (λ w. is_none w.due) again false;
        kernel = is_mode KernelMode (option_map (alert_mode x) (when (k == alerted) (option_map (λ w. w.mode) again))) || false;
        user = is_mode UserMode (option_map (alert_mode x) (when (k == alerted) (option_map (λ w. w.mode) again))) || false;
      }) (flags x)
  rewait_step n f k st x None = go (k == user_apc) (k == satisfied) (k == alerted)
    where
      go : (u r a : Bool) → flags x ≡ flags_after (record none_of_them { pending = (u && false) || false })
          (record none_of_them {
            released = r && false;
            kernel = is_mode KernelMode (option_map (alert_mode x) (when a None)) || false;
            user = is_mode UserMode (option_map (alert_mode x) (when a None)) || false;
          }) (flags x)
      go true true true = refl
      go true true false = refl
      go true false true = refl
      go true false false = refl
      go false true true = refl
      go false true false = refl
      go false false true = refl
      go false false false = refl
  rewait_step n f k st x (Some w) = answers_so k w.mode w.alertable (is_some w.due) x ((k == satisfied) && is_none w.due)
      (ap (λ (b : Bool). (k == satisfied) && b) (go w.due))
    where
      go : (o : Option ℕ) → not (is_some o) ≡ is_none o
      go None = refl
      go (Some d) = refl

  -- a reply that is no status leaves the flags
  unanswered_step : (n : ℕ) (st : Stand) (y : Reply) (x : ThreadFacts) (again : Option Again) → is_status y ≡ false →
      flags (waited_again n st.regions st.level again y x) ≡ flags x
  unanswered_step n st y x None h = refl
  unanswered_step n st (Status k) x (Some w) h = cc
  unanswered_step n st Blocked x (Some w) h = refl
  unanswered_step n st Done x (Some w) h = refl
  unanswered_step n st Yes x (Some w) h = refl
  unanswered_step n st No x (Some w) h = refl
  unanswered_step n st (Refused r) x (Some w) h = refl
  unanswered_step n st Spin x (Some w) h = refl

  step_made : (n : ℕ) (st : Stand) (w : What) (x : ThreadFacts) → Step s t n st true w x
  step_made n st (Call f (Release u) y) x = released_by (is_answer y && (u.0 == t.0)) (ends_by_release x) (is_gone x) x
  step_made n st (Call f (Alert u KernelMode) y) x =
      alerted_kernel_by (is_answer y && (u.0 == t.0)) (is_gone x) (ends_by_alert KernelMode x) (ends_by_alert UserMode x) x
  step_made n st (Call f (Alert u UserMode) y) x =
      alerted_user_by (is_answer y && (u.0 == t.0)) (is_gone x) (ends_by_alert UserMode x) (ends_by_alert KernelMode x) x
  step_made n st (Call f (InsertApc a) Yes) x =
      inserted_by ((owner_of s a).0 == t.0) (is_kernel_kind (kind_of s a)) (ends_by_kernel (with_apc (new_pick s a n) x.apcs) x) (ends_by_user x) true
      (new_pick s a n) x
  step_made n st (Call f (RemoveApc a) Yes) x = removed_by ((owner_of s a).0 == t.0) a x
  step_made n st (Expire (OfDelay u) from) x = expired_by (u.0 == t.0) (ends_by_expiry from x) x
  step_made n st (Call f (StartWait m a) (Status k)) x = answers_so k m a false x (k == satisfied) (and_true (k == satisfied))
  step_made n st (Call f (Delay m a u) (Status k)) x = answers_so k m a true x false (and_false (k == satisfied))
  step_made n st (Call f (TestAlert KernelMode) y) x = test_kernel (is_answer y) x
  step_made n st (Call f (TestAlert UserMode) y) x = test_user (is_answer y) x
  step_made n st (Rewait f (Status k)) x = rewait_step n f k st x st.again
  step_made n st (Rewait f Blocked) x = unanswered_step n st Blocked x st.again refl
  step_made n st (Rewait f Done) x = unanswered_step n st Done x st.again refl
  step_made n st (Rewait f Yes) x = unanswered_step n st Yes x st.again refl
  step_made n st (Rewait f No) x = unanswered_step n st No x st.again refl
  step_made n st (Rewait f (Refused r)) x = unanswered_step n st (Refused r) x st.again refl
  step_made n st (Rewait f Spin) x = unanswered_step n st Spin x st.again refl
  step_made n st (Call f Yield Done) x = refl
  step_made n st (Begin (Apc a) from) x = go (kind_of s a)
    where
      go : (k : ApcKind) → flags (apc_taken k a x) ≡ flags_after none_of_them (record none_of_them { pending = same_kind UserApc k }) (flags x)
      go UserApc = refl
      go k = refl
  step_made n st (End f) x = ended_step n f st x st.body
  step_made n st w x = refl

  step_named : (n : ℕ) (st : Stand) (w : What) (x : ThreadFacts) → Step s t n st false w x
  step_named n st (Call f (Release u) y) x = released_by (is_answer y && (u.0 == t.0)) (ends_by_release x) (is_gone x) x
  step_named n st (Call f (Alert u KernelMode) y) x =
      alerted_kernel_by (is_answer y && (u.0 == t.0)) (is_gone x) (ends_by_alert KernelMode x) (ends_by_alert UserMode x) x
  step_named n st (Call f (Alert u UserMode) y) x =
      alerted_user_by (is_answer y && (u.0 == t.0)) (is_gone x) (ends_by_alert UserMode x) (ends_by_alert KernelMode x) x
  step_named n st (Call f (InsertApc a) Yes) x =
      inserted_by ((owner_of s a).0 == t.0) (is_kernel_kind (kind_of s a)) (ends_by_kernel (with_apc (new_pick s a n) x.apcs) x) (ends_by_user x) false
      (new_pick s a n) x
  step_named n st (Call f (RemoveApc a) Yes) x = removed_by ((owner_of s a).0 == t.0) a x
  step_named n st (Expire (OfDelay u) from) x = expired_by (u.0 == t.0) (ends_by_expiry from x) x
  step_named n st w x = refl

  step_of : (n : ℕ) (st : Stand) (b : Bool) (w : What) (x : ThreadFacts) → Step s t n st b w x
  step_of n st true w x = step_made n st w x
  step_of n st false w x = step_named n st w x

  -- each event of a history
  flags_step : (e : Event) (past : List Event) → flags (facts s t (e ∷ past))
      ≡ flags_after (sets_of s t (stand_at s e.cpu past) (is_of_thread s t e) e.what (facts s t past))
      (clears_of s (stand_at s e.cpu past) (is_of_thread s t e) e.what (facts s t past)) (flags (facts s t past))
  flags_step e past =
      ap flags (facts_made s t e past (is_of_thread s t e) refl) ∙ step_of (length past) (stand_at s e.cpu past) (is_of_thread s t e) e.what (facts s t past)

-- each flag of a thread is set exactly where an event set it and no later one cleared it
pub flags_read : FlagsAreSetAndKept
flags_read s t past = record {
  released = set_and_kept (λ past. (facts s t past).released) (sets_released s t) (clears_released s t) refl
      (λ e past. ap (λ (x : Flags). x.released) (flags_step s t e past)) past;
  alerted = λ m. alert m;
  user_pending = set_and_kept (λ past. (facts s t past).user_pending) (sets_user_pending s t) (clears_user_pending s t) refl
      (λ e past. ap (λ (x : Flags). x.pending) (flags_step s t e past)) past;
  leaving = set_and_kept (λ past. (facts s t past).leaving) (sets_leaving s t) (clears_leaving s t) refl
      (λ e past. ap (λ (x : Flags). x.leaving) (flags_step s t e past)) past;
}
  where
    alert : (m : Mode) → (is_alerted m (facts s t past) ≡ true) ↔ IsSetAndKept (sets_alerted s t m) (clears_alerted s t m) past
    alert KernelMode = set_and_kept (λ past. (facts s t past).alerted_kernel) (sets_alerted s t KernelMode) (clears_alerted s t KernelMode) refl
        (λ e past. ap (λ (x : Flags). x.kernel) (flags_step s t e past)) past
    alert UserMode = set_and_kept (λ past. (facts s t past).alerted_user) (sets_alerted s t UserMode) (clears_alerted s t UserMode) refl
        (λ e past. ap (λ (x : Flags). x.user) (flags_step s t e past)) past
