-- In a run, an event that ends the wait of another processor's thread asks for class 2 there.
use Rattle.std.proofs.Common.{ap, subst, sym, ◌∙◌}
use Rattle.std.proofs.lemmas.Bool.{eq-eqb, eqb-true}
use Rattle.std.specs.List.{list_any}
use Rattle.std.specs.Option.{option_map_or}
use Rattle.std.specs.Prelude.{Bool, List, None, Option, Some, false, if◌then◌else◌, is_some, length, not, refl, true, ℕ, ◌&&◌, ◌++◌, ◌==◌, ◌≡◌}
use Rattle.nt_apc.proofs.Firsts.{deliverable-with}
use Rattle.nt_event.specs.declared.commands.Command.{Command}
use Rattle.nt_event.specs.declared.commands.Command.TheVariants.{Alert, InsertApc, Release, RemoveApc}
use Rattle.nt_event.specs.declared.commands.Mode.{Mode}
use Rattle.nt_event.specs.declared.commands.Mode.TheVariants.{Kernel as KernelMode, User as UserMode}
use Rattle.nt_event.specs.declared.commands.Reply.{Reply}
use Rattle.nt_event.specs.declared.commands.Reply.TheVariants.{No, Refused, Yes}
use Rattle.nt_event.specs.declared.commands.TimerKey.TheVariants.{Delay as OfDelay}
use Rattle.nt_event.specs.declared.events.Event.{Event}
use Rattle.nt_event.specs.declared.events.What.{What}
use Rattle.nt_event.specs.declared.events.What.TheVariants.{Call, Expire}
use Rattle.nt_event.specs.declared.inserts.Pick.{Pick}
use Rattle.nt_event.specs.declared.numbers.ApcNo.{ApcNo}
use Rattle.nt_event.specs.declared.numbers.CpuNo.{CpuNo}
use Rattle.nt_event.specs.declared.numbers.ThreadNo.{ThreadNo}
use Rattle.nt_event.specs.declared.scripts.Script.{Script}
use Rattle.nt_event.specs.declared.threads.Waiting.{Waiting}
use Rattle.nt_event.specs.Apcs.{deliverable, with_apc}
use Rattle.nt_event.specs.Commands.{reply}
use Rattle.nt_event.specs.Lanes.{facts_at, lanes_at}
use Rattle.nt_event.specs.Own.{own_of, stand_in}
use Rattle.nt_event.specs.Regions.{stand_at}
use Rattle.nt_event.specs.Requests.{ask, ask_if, asks, is_ask, what_asks}
use Rattle.nt_event.specs.Routines.{cpu_of, is_kernel_kind, kind_of, owner_of}
use Rattle.nt_event.specs.Script.{has_thread}
use Rattle.nt_event.specs.Step.{IsLegal}
use Rattle.nt_event.specs.Threads.{ThreadFacts, ended, ends_by_alert, ends_by_apc, ends_by_expiry, ends_by_release, ends_by_user, is_alerted, is_gone, is_ready}
use Rattle.nt_event.specs.Threads.{set_alerted, waiting}
use Rattle.nt_event.specs.Waits.{alert_facts, expiry_facts, facts, insert_facts, named_facts, new_pick, release_facts}
use Rattle.nt_event.specs.Replies.{alerted, is_answer, is_refused, kernel_apc, satisfied, user_apc, yes_if}
use Rattle.nt_runs.proofs.Known.{Known, KnownCall, legal_known}
use Rattle.nt_event.proofs.Options.{both, not_true}
use Rattle.nt_runs.proofs.Robin.{or_yes}
use Rattle.nt_runs.proofs.Stops.{call_accepted}
use Rattle.nt_runs.proofs.Turns.{is_next}
use Rattle.nt_runs.proofs.Rundown.Steps.{facts_there}

-- ---- tests

-- a thread isn't both ready and not ready
no_ready : {A : Type 0} (x : ThreadFacts) → is_ready x ≡ false → is_ready x ≡ true → A
no_ready x a b = cc

-- a thread that wasn't ready is ready by the changed facts only
woken_if : (b : Bool) (x y : ThreadFacts) → is_ready x ≡ false → is_ready (if b then y else x) ≡ true → b ≡ true
woken_if true x y h k = refl
woken_if false x y h k = no_ready x h k

-- a reply that is an answer isn't a refusal
not_refused : (y : Reply) → is_answer y ≡ true → is_refused y ≡ false
not_refused (Refused r) h = cc
not_refused y h = refl

-- two threads with the same number are the same thread
same_number : (t u : ThreadNo) → (u.0 == t.0) ≡ true → u ≡ t
same_number t u h = ap (λ (n : ℕ). record { 0 = n }) (eqb-true u.0 t.0 h)

-- ---- what ends the wait

-- if a release makes a waiting thread ready, it ends its wait by release
release_wakes : (x : ThreadFacts) → is_ready x ≡ false → is_ready (release_facts x) ≡ true → ends_by_release x ≡ true
release_wakes x h k =
    woken_if (ends_by_release x) (if is_gone x then x else record x { released = true }) (ended satisfied x) (other (is_gone x)) k
  where
    other : (g : Bool) → is_ready (if g then x else record x { released = true }) ≡ false
    other true = h
    other false = h

-- setting the alerted mark of a thread leaves whether it is ready as it was
set_ready : (m : Mode) (b : Bool) (x : ThreadFacts) → is_ready (set_alerted m b x) ≡ is_ready x
set_ready KernelMode b x = refl
set_ready UserMode b x = refl

-- if an alert makes a waiting thread ready, the thread isn't gone and the alert ends its wait
alert_wakes : (m : Mode) (x : ThreadFacts) → is_ready x ≡ false → is_ready (alert_facts m x) ≡ true → (is_gone x ≡ false) × (ends_by_alert m x ≡ true)
alert_wakes m x h k = go (is_gone x) refl k
  where
    go : (g : Bool) → is_gone x ≡ g → is_ready (if g then x else (if ends_by_alert m x then ended alerted x else set_alerted m true x)) ≡ true →
        (is_gone x ≡ false) × (ends_by_alert m x ≡ true)
    go true e k = no_ready x h k
    go false e k =
        (e, woken_if (ends_by_alert m x) (set_alerted m true x) (ended alerted x) (set_ready m true x ∙ h) k)

-- if an insert of an APC makes a waiting thread ready, the APC ends its wait
insert_wakes : (pick : Pick) (x : ThreadFacts) → is_ready x ≡ false → is_ready (insert_facts pick x) ≡ true → ends_by_apc pick x ≡ true
insert_wakes pick x h k =
    woken_if (ends_by_apc pick x) (record x { apcs = with_apc pick x.apcs })
    (if is_kernel_kind pick.kind then ended kernel_apc (record x { apcs = with_apc pick x.apcs })
    else record (ended user_apc (record x { apcs = with_apc pick x.apcs })) { user_pending = true }) h k

-- whether an insert ends the wait doesn't depend on its number
any_number : (s : Script) (a : ApcNo) (n : ℕ) (x : ThreadFacts) → ends_by_apc (new_pick s a n) x ≡ ends_by_apc (new_pick s a 0) x
any_number s a n x =
    ap (λ (b : Bool). if is_kernel_kind (kind_of s a) then b else ends_by_user x) (go (waiting x))
  where
    one : (w : Waiting) → is_some (deliverable (with_apc (new_pick s a n) x.apcs) w.regions w.level)
        ≡ is_some (deliverable (with_apc (new_pick s a 0) x.apcs) w.regions w.level)
    one w =
        deliverable-with (new_pick s a n) x.apcs w.regions w.level ∙ sym (deliverable-with (new_pick s a 0) x.apcs w.regions w.level)

    go : (o : Option Waiting) → option_map_or (λ w. is_some (deliverable (with_apc (new_pick s a n) x.apcs) w.regions w.level)) o false
        ≡ option_map_or (λ w. is_some (deliverable (with_apc (new_pick s a 0) x.apcs) w.regions w.level)) o false
    go None = refl
    go (Some w) = one w

-- ---- what the event asks for

-- if what an event does asks for class 2 on a processor, the event asks for class 2 there
by_what : (s : Script) (p : CpuNo) (e : Event) (past : List Event) (w : What) → e.what ≡ w →
    list_any (is_ask p 2) (what_asks s (stand_at s e.cpu past) w (lanes_at s past)) ≡ true → asks s p 2 e past ≡ true
by_what s p e past w k h =
    ap (λ (w : What). list_any (is_ask p 2) (what_asks s (stand_at s e.cpu past) w (lanes_at s past))) k ∙ h

-- asking a processor for class 2 asks the processor with the same number for it
asked_there : (q p : CpuNo) → q.0 ≡ p.0 → list_any (is_ask p 2) (ask q 2) ≡ true
asked_there q p h = let e : (q.0 == p.0) ≡ true = eq-eqb q.0 p.0 h in rw e refl

-- asking a processor for class 2 under a condition asks it for class 2 if the condition is true
asked_if : (b : Bool) (q p : CpuNo) → b ≡ true → q.0 ≡ p.0 → list_any (is_ask p 2) (ask_if b q 2) ≡ true
asked_if true q p e h = asked_there q p h
asked_if false q p e h = cc

-- asking for class 1 under one condition and class 2 under another asks for class 2 if the other is true
asked_too : (b c : Bool) (q p : CpuNo) → c ≡ true → q.0 ≡ p.0 → list_any (is_ask p 2) (ask_if b q 1 ++ ask_if c q 2) ≡ true
asked_too true c q p e h =
    or_yes ((q.0 == p.0) && (1 == 2)) (list_any (is_ask p 2) (ask_if c q 2)) (asked_if c q p e h)
asked_too false c q p e h = asked_if c q p e h

-- the wait of this thread of p is ended
pub record Wakes (s : Script) (limit : ℕ) (p : CpuNo) (t : ThreadNo) (past : List Event) : Type 0 where
  pub has : has_thread s t ≡ true
  pub own : (cpu_of s t).0 ≡ p.0
  pub slept : is_ready (facts s t past) ≡ false

-- the facts of a thread with the same number, as the lanes have them, are the facts of the thread
there : (s : Script) (limit : ℕ) (p : CpuNo) (t u : ThreadNo) (past : List Event) → Wakes s limit p t past → (u.0 == t.0) ≡ true → facts_at (lanes_at s past) u
    ≡ facts s t past
there s limit p t u past k h =
    ap (facts_at (lanes_at s past)) (same_number t u h) ∙ facts_there s limit t past k.has

-- a thread with the number of a thread of the processor is of that processor too
own_there : (s : Script) (limit : ℕ) (p : CpuNo) (t u : ThreadNo) (past : List Event) → Wakes s limit p t past → (u.0 == t.0) ≡ true → (cpu_of s u).0 ≡ p.0
own_there s limit p t u past k h =
    ap (λ (t : ThreadNo). (cpu_of s t).0) (same_number t u h) ∙ k.own

-- the answer to a call of a run is the reply to its command
known_call : (s : Script) (limit : ℕ) (e : Event) (past : List Event) (f : ℕ) (c : Command) (y : Reply) → IsLegal s limit e past → e.what ≡ Call f c y →
    is_answer y ≡ true → y ≡ reply s (stand_in e.cpu (own_of s e.cpu past)) (lanes_at s past) c
known_call s limit e past f c y g k a =
    let known : KnownCall s e.cpu (own_of s e.cpu past) (lanes_at s past) f c y = subst
    (λ (w : What). is_next w ≡ true → Known s e.cpu (own_of s e.cpu past) (lanes_at s past) w) k (legal_known s limit e past g) refl in
    (call_accepted s e.cpu (own_of s e.cpu past) (lanes_at s past) f c y known (not_refused y a)).1

-- case: the event is a release that ends the thread's wait; it asks for class 2 on its processor
released : (s : Script) (limit : ℕ) (p : CpuNo) (t u : ThreadNo) (e : Event) (past : List Event) (f : ℕ) (y : Reply) → IsLegal s limit e past →
    Wakes s limit p t past → e.what ≡ Call f (Release u) y → is_ready (if is_answer y && (u.0 == t.0) then release_facts (facts s t past) else facts s t past)
    ≡ true → asks s p 2 e past ≡ true
released s limit p t u e past f y g k i r =
    by_what s p e past (Call f (Release u) Yes) (i ∙ ap (λ (y : Reply). Call f (Release u) y) yes)
    (asked_there (cpu_of s u) p (own_there s limit p t u past k parts.1))
  where
    parts : (is_answer y ≡ true) × ((u.0 == t.0) ≡ true)
    parts =
        both (is_answer y) (u.0 == t.0) (woken_if (is_answer y && (u.0 == t.0)) (facts s t past) (release_facts (facts s t past)) k.slept r)

    wakes : is_ready (release_facts (facts s t past)) ≡ true
    wakes =
        let a = parts.0 in
        let b = parts.1 in
        rw (a, b) at r

    yes : y ≡ Yes
    yes =
        known_call s limit e past f (Release u) y g i parts.0
        ∙ ap yes_if (ap ends_by_release (there s limit p t u past k parts.1) ∙ release_wakes (facts s t past) k.slept wakes)

-- case: the event is an alert that ends the thread's wait; it asks for class 2 on its processor
alerted_so : (s : Script) (limit : ℕ) (p : CpuNo) (t u : ThreadNo) (e : Event) (past : List Event) (f : ℕ) (m : Mode) (y : Reply) → IsLegal s limit e past →
    Wakes s limit p t past → e.what ≡ Call f (Alert u m) y → is_ready (if is_answer y && (u.0 == t.0) then alert_facts m (facts s t past) else facts s t past)
    ≡ true → asks s p 2 e past ≡ true
alerted_so s limit p t u e past f m y g k i r =
    by_what s p e past (Call f (Alert u m) No) (i ∙ ap (λ (y : Reply). Call f (Alert u m) y) no)
    (asked_if _ (cpu_of s u) p ends (own_there s limit p t u past k parts.1))
  where
    parts : (is_answer y ≡ true) × ((u.0 == t.0) ≡ true)
    parts =
        both (is_answer y) (u.0 == t.0) (woken_if (is_answer y && (u.0 == t.0)) (facts s t past) (alert_facts m (facts s t past)) k.slept r)

    wakes : is_ready (alert_facts m (facts s t past)) ≡ true
    wakes =
        let a = parts.0 in
        let b = parts.1 in
        rw (a, b) at r

    ended_by : (is_gone (facts s t past) ≡ false) × (ends_by_alert m (facts s t past) ≡ true)
    ended_by = alert_wakes m (facts s t past) k.slept wakes

    clear : is_alerted m (facts s t past) ≡ false
    clear = not_true (is_alerted m (facts s t past)) (both (not (is_alerted m (facts s t past))) _ ended_by.1).0

    no : y ≡ No
    no =
        known_call s limit e past f (Alert u m) y g i parts.0
        ∙ (ap (λ (x : ThreadFacts). yes_if (not (is_gone x) && is_alerted m x)) (there s limit p t u past k parts.1) ∙ let a = ended_by.0 in
        let b = clear in rw (a, b) refl)

    ends : (not (is_gone (facts_at (lanes_at s past) u)) && ends_by_alert m (facts_at (lanes_at s past) u)) ≡ true
    ends =
        ap (λ (x : ThreadFacts). not (is_gone x) && ends_by_alert m x) (there s limit p t u past k parts.1) ∙ let a = ended_by.0 in let b = ended_by.1 in
        rw (a, b) refl

-- case: the event is an insert of an APC that ends the thread's wait; it asks for class 2 on its processor
inserted : (s : Script) (limit : ℕ) (p : CpuNo) (t : ThreadNo) (e : Event) (past : List Event) (f : ℕ) (a : ApcNo) → Wakes s limit p t past → e.what
    ≡ Call f (InsertApc a) Yes → is_ready (if (owner_of s a).0 == t.0 then insert_facts (new_pick s a (length past)) (facts s t past) else facts s t past)
    ≡ true → asks s p 2 e past ≡ true
inserted s limit p t e past f a k i r =
    by_what s p e past (Call f (InsertApc a) Yes) i (asked_too (is_kernel_kind (kind_of s a)) _ (cpu_of s (owner_of s a)) p ends
    (own_there s limit p t (owner_of s a) past k at))
  where
    at : ((owner_of s a).0 == t.0) ≡ true
    at =
        woken_if ((owner_of s a).0 == t.0) (facts s t past) (insert_facts (new_pick s a (length past)) (facts s t past)) k.slept r

    wakes : is_ready (insert_facts (new_pick s a (length past)) (facts s t past)) ≡ true
    wakes = let b = at in rw b at r

    ends : ends_by_apc (new_pick s a 0) (facts_at (lanes_at s past) (owner_of s a)) ≡ true
    ends =
        ap (λ (x : ThreadFacts). ends_by_apc (new_pick s a 0) x) (there s limit p t (owner_of s a) past k at)
        ∙ (sym (any_number s a (length past) (facts s t past)) ∙ insert_wakes (new_pick s a (length past)) (facts s t past) k.slept wakes)

-- case: the event is an expiry that ends the thread's delay; it asks for class 2 on its processor
expired : (s : Script) (limit : ℕ) (p : CpuNo) (t u : ThreadNo) (e : Event) (past : List Event) (from : ℕ) → Wakes s limit p t past → e.what
    ≡ Expire (OfDelay u) from → is_ready (if u.0 == t.0 then expiry_facts from (facts s t past) else facts s t past) ≡ true → asks s p 2 e past ≡ true
expired s limit p t u e past from k i r =
    by_what s p e past (Expire (OfDelay u) from) i (asked_if _ (cpu_of s u) p ends (own_there s limit p t u past k at))
  where
    at : (u.0 == t.0) ≡ true
    at = woken_if (u.0 == t.0) (facts s t past) (expiry_facts from (facts s t past)) k.slept r

    wakes : is_ready (expiry_facts from (facts s t past)) ≡ true
    wakes = let b = at in rw b at r

    ends : ends_by_expiry from (facts_at (lanes_at s past) u) ≡ true
    ends =
        ap (ends_by_expiry from) (there s limit p t u past k at)
        ∙ woken_if (ends_by_expiry from (facts s t past)) (facts s t past) (ended satisfied (facts s t past)) k.slept wakes

-- a change that keeps whether a thread is ready makes no thread ready
removed : {A : Type 0} (b : Bool) (x y : ThreadFacts) → is_ready x ≡ false → is_ready y ≡ is_ready x → is_ready (if b then y else x) ≡ true → A
removed true x y h e k = no_ready x h (sym e ∙ k)
removed false x y h e k = no_ready x h k

-- an event that makes a thread ready asks for class 2 on the thread's processor
pub woken_asks : (s : Script) (limit : ℕ) (p : CpuNo) (t : ThreadNo) (e : Event) (past : List Event) → IsLegal s limit e past → Wakes s limit p t past →
    is_ready (named_facts s t (length past) e.what (facts s t past)) ≡ true → asks s p 2 e past ≡ true
woken_asks s limit p t e past g k r = go e.what refl r
  where
    go : (w : What) → e.what ≡ w → is_ready (named_facts s t (length past) w (facts s t past)) ≡ true → asks s p 2 e past ≡ true
    go (Call f (Release u) y) i r = released s limit p t u e past f y g k i r
    go (Call f (Alert u m) y) i r = alerted_so s limit p t u e past f m y g k i r
    go (Call f (InsertApc a) Yes) i r = inserted s limit p t e past f a k i r
    go (Call f (RemoveApc a) Yes) i r = removed ((owner_of s a).0 == t.0) (facts s t past) _ k.slept refl r
    go (Expire (OfDelay u) from) i r = expired s limit p t u e past from k i r
    go w i r = no_ready (facts s t past) k.slept r
