-- What an event leaves of a thread's facts is what one call leaves: one lemma for each kind of event.
use Rattle.std.proofs.Common.{◌≡◌, ◌&&◌, ◌==◌, Bool, None, Option, Some, ap, false, if◌then◌else◌, refl, true, ◌∙◌, ℕ}
use Rattle.nt_event.specs.Apcs.{without_apc}
use Rattle.nt_event.specs.Routines.{kind_of, owner_of}
use Rattle.nt_event.specs.Threads.{ThreadFacts}
use Rattle.nt_event.specs.Waits.{alert_facts, alert_tested, apc_taken, expiry_facts, facts_after, frame_ended, insert_facts, is_of_thread, leaving_facts}
use Rattle.nt_event.specs.Waits.{made_facts, named_facts, new_pick, release_facts, waited, waited_again}
use Rattle.nt_event.specs.Replies.{is_answer, yes_if}
use Rattle.nt_event.specs.declared.commands.ApcKind.TheVariants.{User as UserApc}
use Rattle.nt_event.specs.declared.commands.Command.TheVariants.{Alert, Delay, InsertApc, Release, RemoveApc, StartWait, TestAlert, Yield}
use Rattle.nt_event.specs.declared.commands.Mode.{Mode}
use Rattle.nt_event.specs.declared.commands.Mode.TheVariants.{User as UserMode}
use Rattle.nt_event.specs.declared.commands.Reply.{Reply}
use Rattle.nt_event.specs.declared.commands.Reply.TheVariants.{Done, No, Yes}
use Rattle.nt_event.specs.declared.commands.TimerKey.TheVariants.{Delay as OfDelay}
use Rattle.nt_event.specs.declared.events.Begun.TheVariants.{Apc}
use Rattle.nt_event.specs.declared.events.Event.{Event}
use Rattle.nt_event.specs.declared.events.What.{What}
use Rattle.nt_event.specs.declared.events.What.TheVariants.{Begin, Call, End, Expire, Flush, Gone, Rewait, Switch}
use Rattle.nt_event.specs.declared.frames.Body.{Body}
use Rattle.nt_event.specs.declared.frames.Body.TheVariants.{Apc as OnApc, Base as OnBase}
use Rattle.nt_event.specs.declared.jobs.Stand.{Stand}
use Rattle.nt_event.specs.declared.numbers.ApcNo.{ApcNo}
use Rattle.nt_event.specs.declared.numbers.ThreadNo.{ThreadNo}
use Rattle.nt_event.specs.declared.scripts.Script.{Script}
use Rattle.nt_event.specs.declared.threads.Doing.TheVariants.{Gone as IsGone, Ready as IsReady, Running as IsRunning}

-- by what the event was, and whether the thread made it
pub facts-by : (s : Script) (t : ThreadNo) (n : ℕ) (st : Stand) (e : Event) (x : ThreadFacts) (w : What) (b : Bool) → e.what ≡ w → is_of_thread s t e ≡ b →
    facts_after s t n st e x ≡ named_facts s t n w (if b then made_facts s n st w x else x)
facts-by s t n st e x w b what of =
    ap (λ (v : What). named_facts s t n v (if is_of_thread s t e then made_facts s n st v x else x)) what
    ∙ ap (λ (c : Bool). named_facts s t n w (if c then made_facts s n st w x else x)) of

-- an event that changes nothing of the facts of the thread that makes it
pub facts-named : (s : Script) (t : ThreadNo) (n : ℕ) (st : Stand) (e : Event) (x : ThreadFacts) (w : What) → e.what ≡ w → made_facts s n st w x ≡ x →
    facts_after s t n st e x ≡ named_facts s t n w x
facts-named s t n st e x w what same = go (is_of_thread s t e) refl where
  go : (b : Bool) → is_of_thread s t e ≡ b → facts_after s t n st e x ≡ named_facts s t n w x
  go true of = facts-by s t n st e x w true what of ∙ ap (λ (y : ThreadFacts). named_facts s t n w y) same
  go false of = facts-by s t n st e x w false what of

-- an event of another thread that doesn't name this one
pub facts-untouched : (s : Script) (t : ThreadNo) (n : ℕ) (st : Stand) (e : Event) (x : ThreadFacts) (w : What) → e.what ≡ w → is_of_thread s t e ≡ false →
    named_facts s t n w x ≡ x → facts_after s t n st e x ≡ x
facts-untouched s t n st e x w what of same = facts-by s t n st e x w false what of ∙ same

-- ---- events that the thread makes

-- `resume`
pub facts-switch : (s : Script) (t : ThreadNo) (n : ℕ) (st : Stand) (e : Event) (x : ThreadFacts) (u : ThreadNo) (status : Option ℕ) →
    e.what ≡ Switch u status → is_of_thread s t e ≡ true → facts_after s t n st e x ≡ record x { doing = IsRunning }
facts-switch s t n st e x u status what of = facts-by s t n st e x (Switch u status) true what of

-- `wait`, of a wait
pub facts-wait : (s : Script) (t : ThreadNo) (n : ℕ) (st : Stand) (e : Event) (x : ThreadFacts) (f : ℕ) (m : Mode) (a : Bool) (y : Reply) →
    e.what ≡ Call f (StartWait m a) y → is_of_thread s t e ≡ true → facts_after s t n st e x ≡ waited n st.regions st.level m a false y x
facts-wait s t n st e x f m a y what of = facts-by s t n st e x (Call f (StartWait m a) y) true what of

-- `wait`, of a delay
pub facts-delay : (s : Script) (t : ThreadNo) (n : ℕ) (st : Stand) (e : Event) (x : ThreadFacts) (f : ℕ) (m : Mode) (a : Bool) (units : ℕ) (y : Reply) →
    e.what ≡ Call f (Delay m a units) y → is_of_thread s t e ≡ true → facts_after s t n st e x ≡ waited n st.regions st.level m a true y x
facts-delay s t n st e x f m a units y what of = facts-by s t n st e x (Call f (Delay m a units) y) true what of

-- `wait`, of one that is taken up again
pub facts-rewait : (s : Script) (t : ThreadNo) (n : ℕ) (st : Stand) (e : Event) (x : ThreadFacts) (f : ℕ) (y : Reply) → e.what ≡ Rewait f y →
    is_of_thread s t e ≡ true → facts_after s t n st e x ≡ waited_again n st.regions st.level st.again y x
facts-rewait s t n st e x f y what of = facts-by s t n st e x (Rewait f y) true what of

-- the reply that says whether a test passed is an answer, either way
answer-yes_if : (b : Bool) → is_answer (yes_if b) ≡ true
answer-yes_if true = refl
answer-yes_if false = refl

-- `test_alert`
pub facts-test_alert : (s : Script) (t : ThreadNo) (n : ℕ) (st : Stand) (e : Event) (x : ThreadFacts) (f : ℕ) (m : Mode) (b : Bool) →
    e.what ≡ Call f (TestAlert m) (yes_if b) → is_of_thread s t e ≡ true → facts_after s t n st e x ≡ alert_tested m x
facts-test_alert s t n st e x f m b what of =
    facts-by s t n st e x (Call f (TestAlert m) (yes_if b)) true what of ∙ ap (λ (c : Bool). if c then alert_tested m x else x) (answer-yes_if b)

-- `give_way`
pub facts-yield : (s : Script) (t : ThreadNo) (n : ℕ) (st : Stand) (e : Event) (x : ThreadFacts) (f : ℕ) → e.what ≡ Call f Yield Done →
    is_of_thread s t e ≡ true → facts_after s t n st e x ≡ record x { doing = IsReady st.level None }
facts-yield s t n st e x f what of = facts-by s t n st e x (Call f Yield Done) true what of

-- `take`
pub facts-begin : (s : Script) (t : ThreadNo) (n : ℕ) (st : Stand) (e : Event) (x : ThreadFacts) (a : ApcNo) (from : ℕ) → e.what ≡ Begin (Apc a) from →
    is_of_thread s t e ≡ true → facts_after s t n st e x ≡ apc_taken (kind_of s a) a x
facts-begin s t n st e x a from what of = facts-by s t n st e x (Begin (Apc a) from) true what of

-- `leave`
pub facts-leave : (s : Script) (t : ThreadNo) (n : ℕ) (st : Stand) (e : Event) (x : ThreadFacts) (f : ℕ) (u : ThreadNo) → e.what ≡ End f →
    st.body ≡ Some (OnBase u) → is_of_thread s t e ≡ true → facts_after s t n st e x ≡ leaving_facts x
facts-leave s t n st e x f u what body of = facts-by s t n st e x (End f) true what of ∙ ap (λ (b : Option Body). frame_ended b x) body

-- `test_alert` for user mode
pub facts-user_end : (s : Script) (t : ThreadNo) (n : ℕ) (st : Stand) (e : Event) (x : ThreadFacts) (f : ℕ) (a : ApcNo) → e.what ≡ End f →
    st.body ≡ Some (OnApc a UserApc) → is_of_thread s t e ≡ true → facts_after s t n st e x ≡ alert_tested UserMode x
facts-user_end s t n st e x f a what body of = facts-by s t n st e x (End f) true what of ∙ ap (λ (b : Option Body). frame_ended b x) body

-- `flush`
pub facts-flush : (s : Script) (t : ThreadNo) (n : ℕ) (st : Stand) (e : Event) (x : ThreadFacts) (a : ApcNo) (from : ℕ) → e.what ≡ Flush a from →
    is_of_thread s t e ≡ true → facts_after s t n st e x ≡ record x { apcs = without_apc a x.apcs }
facts-flush s t n st e x a from what of = facts-by s t n st e x (Flush a from) true what of

-- `gone`
pub facts-gone : (s : Script) (t : ThreadNo) (n : ℕ) (st : Stand) (e : Event) (x : ThreadFacts) (u : ThreadNo) → e.what ≡ Gone u → is_of_thread s t e ≡ true →
    facts_after s t n st e x ≡ record x { doing = IsGone; leaving = false }
facts-gone s t n st e x u what of = facts-by s t n st e x (Gone u) true what of

-- ---- events that name the thread, whoever makes them

-- where the first of two tests passes, a choice by both of them is the choice by the second
if-both : (y : Bool) (b c : Bool) (x z : ThreadFacts) → y ≡ true → b ≡ c → (if y && b then z else x) ≡ (if c then z else x)
if-both y b c x z p q = ap (λ (v : Bool). if v && b then z else x) p ∙ ap (λ (v : Bool). if v then z else x) q

-- `release`; another thread's release leaves the facts
pub facts-release : (s : Script) (t : ThreadNo) (n : ℕ) (st : Stand) (e : Event) (x : ThreadFacts) (f : ℕ) (u : ThreadNo) (b c : Bool) →
    e.what ≡ Call f (Release u) (yes_if b) → (u.0 == t.0) ≡ c → facts_after s t n st e x ≡ (if c then release_facts x else x)
facts-release s t n st e x f u b c what at =
    facts-named s t n st e x (Call f (Release u) (yes_if b)) what refl ∙ if-both (is_answer (yes_if b)) (u.0 == t.0) c x (release_facts x) (answer-yes_if b) at

-- `alert`
pub facts-alert : (s : Script) (t : ThreadNo) (n : ℕ) (st : Stand) (e : Event) (x : ThreadFacts) (f : ℕ) (u : ThreadNo) (m : Mode) (b c : Bool) →
    e.what ≡ Call f (Alert u m) (yes_if b) → (u.0 == t.0) ≡ c → facts_after s t n st e x ≡ (if c then alert_facts m x else x)
facts-alert s t n st e x f u m b c what at =
    facts-named s t n st e x (Call f (Alert u m) (yes_if b)) what refl ∙ if-both (is_answer (yes_if b)) (u.0 == t.0) c x (alert_facts m x) (answer-yes_if b) at

-- `apc`: an accepted insert, and a refused one
pub facts-insert : (s : Script) (t : ThreadNo) (n : ℕ) (st : Stand) (e : Event) (x : ThreadFacts) (f : ℕ) (a : ApcNo) (c : Bool) →
    e.what ≡ Call f (InsertApc a) Yes → ((owner_of s a).0 == t.0) ≡ c → facts_after s t n st e x ≡ (if c then insert_facts (new_pick s a n) x else x)
facts-insert s t n st e x f a c what at =
    facts-named s t n st e x (Call f (InsertApc a) Yes) what refl ∙ ap (λ (v : Bool). if v then insert_facts (new_pick s a n) x else x) at

-- an insert of an APC that is answered no leaves every thread's facts as they were
pub facts-no_insert : (s : Script) (t : ThreadNo) (n : ℕ) (st : Stand) (e : Event) (x : ThreadFacts) (f : ℕ) (a : ApcNo) → e.what ≡ Call f (InsertApc a) No →
    facts_after s t n st e x ≡ x
facts-no_insert s t n st e x f a what = facts-named s t n st e x (Call f (InsertApc a) No) what refl

-- `unapc`
pub facts-remove : (s : Script) (t : ThreadNo) (n : ℕ) (st : Stand) (e : Event) (x : ThreadFacts) (f : ℕ) (a : ApcNo) (c : Bool) →
    e.what ≡ Call f (RemoveApc a) Yes → ((owner_of s a).0 == t.0) ≡ c → facts_after s t n st e x ≡ (if c then (record x { apcs = without_apc a x.apcs }) else x)
facts-remove s t n st e x f a c what at =
    facts-named s t n st e x (Call f (RemoveApc a) Yes) what refl ∙ ap (λ (v : Bool). if v then (record x { apcs = without_apc a x.apcs }) else x) at

-- a removal of an APC that is answered no leaves every thread's facts as they were
pub facts-no_remove : (s : Script) (t : ThreadNo) (n : ℕ) (st : Stand) (e : Event) (x : ThreadFacts) (f : ℕ) (a : ApcNo) → e.what ≡ Call f (RemoveApc a) No →
    facts_after s t n st e x ≡ x
facts-no_remove s t n st e x f a what = facts-named s t n st e x (Call f (RemoveApc a) No) what refl

-- `end_delay`
pub facts-expire : (s : Script) (t : ThreadNo) (n : ℕ) (st : Stand) (e : Event) (x : ThreadFacts) (u : ThreadNo) (from : ℕ) (c : Bool) →
    e.what ≡ Expire (OfDelay u) from → (u.0 == t.0) ≡ c → facts_after s t n st e x ≡ (if c then expiry_facts from x else x)
facts-expire s t n st e x u from c what at =
    facts-named s t n st e x (Expire (OfDelay u) from) what refl ∙ ap (λ (v : Bool). if v then expiry_facts from x else x) at
