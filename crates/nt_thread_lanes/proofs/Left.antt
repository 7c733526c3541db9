-- An event leaves one thread changed: the one that it names, or else the one that makes it.
use Rattle.std.proofs.Common.{◌≡◌, ◌∙◌, ◌<◌, Bool, List, None, Some, ap, arith, eqb, false, get_or, if◌then◌else◌, length, refl, set, subst, sym, true, ℕ, ◌&&◌}
use Rattle.std.proofs.Common.{◌==◌}
use Rattle.std.proofs.lemmas.Bool.{and_right, eq-eqb, eqb-false, eqb-true}
use Rattle.std.proofs.lemmas.List.{get_or-set_other, get_or-set_same, length-set}
use Rattle.nt_event.specs.declared.commands.Command.TheVariants.{Alert, InsertApc, Release, RemoveApc}
use Rattle.nt_event.specs.declared.commands.Reply.{Reply}
use Rattle.nt_event.specs.declared.commands.Reply.TheVariants.{Yes}
use Rattle.nt_event.specs.declared.commands.TimerKey.TheVariants.{Delay as OfDelay}
use Rattle.nt_event.specs.declared.events.Event.{Event}
use Rattle.nt_event.specs.declared.events.What.{What}
use Rattle.nt_event.specs.declared.events.What.TheVariants.{Call, Expire}
use Rattle.nt_event.specs.declared.jobs.Stand.{Stand}
use Rattle.nt_event.specs.declared.numbers.ThreadNo.{ThreadNo}
use Rattle.nt_event.specs.declared.scripts.Script.{Script}
use Rattle.nt_event.specs.Apcs.{without_apc}
use Rattle.nt_event.specs.Routines.{cpu_of, owner_of}
use Rattle.nt_event.specs.Threads.{ThreadFacts, ends_by_release, start_facts}
use Rattle.nt_event.specs.Waits.{alert_facts, expiry_facts, facts_after, insert_facts, is_of_thread, made_facts, named_facts, new_pick, release_facts}
use Rattle.nt_event.specs.Replies.{is_answer, yes_if}
use Rattle.nt_event.specs.Numbers.{is_of, is_thread, thread}
use Rattle.nt_event.specs.Lists.{table}
use Rattle.nt_event.proofs.Tables.{table-self}
use Rattle.nt_states.specs.ThreadFits.{CanTell, named_thread, told_facts}
use Rattle.nt_states.specs.ThreadLanes.{ThreadLanes, facts_in, left}

-- ---- tables in which one place changes, or none

-- reading states of which one is set gives the set one at its place and the old ones elsewhere
set_reads : (xs : List ThreadFacts) (t i : ℕ) (v : ThreadFacts) (f : ℕ → ThreadFacts) → i < length xs → (eqb t i ≡ true → f i ≡ v) →
    (eqb t i ≡ false → f i ≡ get_or xs i start_facts) → (b : Bool) → eqb t i ≡ b → f i ≡ get_or (set xs t v) i start_facts
set_reads xs t i v f h same other true e =
    let at : t ≡ i = eqb-true t i e in
    same e ∙ sym (subst (λ (k : ℕ). get_or (set xs k v) i start_facts ≡ v) (sym at) (get_or-set_same xs i v start_facts h))
set_reads xs t i v f h same other false e =
    other e ∙ sym (get_or-set_other xs t i v start_facts (λ k. eqb-false t i e (sym k)))

-- a table whose elements are those of the list but at t is the list with that place written
table_set : (xs : List ThreadFacts) (n t : ℕ) (v : ThreadFacts) (f : ℕ → ThreadFacts) → length xs ≡ n → ((i : ℕ) → eqb t i ≡ true → f i ≡ v) →
    ((i : ℕ) → eqb t i ≡ false → f i ≡ get_or xs i start_facts) → table n f ≡ set xs t v
table_set xs n t v f l same other =
    table-self start_facts n (set xs t v) f (length-set xs t v ∙ l) (λ i h. set_reads xs t i v f (omega arith) (same i) (other i) (eqb t i) refl)

-- ---- the thread that the event names

-- threads that are equal as options are equal
some_same : (u t : ThreadNo) → Some u ≡ Some t → u ≡ t
some_same u t h = cc

-- a choice on two tests takes the second branch if the second test fails
apart : (b c : Bool) (x z : ThreadFacts) → c ≡ false → (if b && c then z else x) ≡ x
apart true c x z h = ap (λ (d : Bool). if d then z else x) h
apart false c x z h = refl

-- a choice on two tests takes the first branch if both hold
at_last : (b c : Bool) (x z : ThreadFacts) → b ≡ true → c ≡ true → (if b && c then z else x) ≡ z
at_last b c x z h k = ap (λ (d : Bool). if d && c then z else x) h ∙ ap (λ (d : Bool). if d then z else x) k

-- a test of the named thread's number is one of the number that is named
tested : (u t : ThreadNo) (k : ℕ) (b : Bool) → Some u ≡ Some t → (t.0 == k) ≡ b → (u.0 == k) ≡ b
tested u t k b h e = subst (λ (v : ThreadNo). (v.0 == k) ≡ b) (sym (some_same u t h)) e

-- an event that names no thread tells no thread anything
named_none : (s : Script) (u : ThreadNo) (n : ℕ) (w : What) (x : ThreadFacts) → named_thread s w ≡ None → named_facts s u n w x ≡ x
named_none s u n (Call f (Release v) y) x h = cc
named_none s u n (Call f (Alert v m) y) x h = cc
named_none s u n (Call f (InsertApc a) y) x h = cc
named_none s u n (Call f (RemoveApc a) y) x h = cc
named_none s u n (Expire (OfDelay v) from) x h = cc
named_none s u n w x h = refl

-- an event that names a thread tells no other thread anything
named_other : (s : Script) (t : ThreadNo) (k n : ℕ) (w : What) (x : ThreadFacts) → named_thread s w ≡ Some t → (t.0 == k) ≡ false →
    named_facts s (thread k) n w x ≡ x
named_other s t k n (Call f (Release v) y) x h e = apart (is_answer y) (v.0 == k) x (release_facts x) (tested v t k false h e)
named_other s t k n (Call f (Alert v m) y) x h e = apart (is_answer y) (v.0 == k) x (alert_facts m x) (tested v t k false h e)
named_other s t k n (Call f (InsertApc a) Yes) x h e =
    ap (λ (d : Bool). if d then insert_facts (new_pick s a n) x else x) (tested (owner_of s a) t k false h e)
named_other s t k n (Call f (RemoveApc a) Yes) x h e =
    ap (λ (d : Bool). if d then (record x { apcs = without_apc a x.apcs }) else x) (tested (owner_of s a) t k false h e)
named_other s t k n (Expire (OfDelay v) from) x h e =
    ap (λ (d : Bool). if d then expiry_facts from x else x) (tested v t k false h e)
named_other s t k n w x h e = refl

-- the reply to a test is an answer
answers : (b : Bool) (y : Reply) → y ≡ yes_if b → is_answer y ≡ true
answers true y h = ap is_answer h
answers false y h = ap is_answer h

-- an event that names a thread, and may, leaves that thread as it tells it
named_told : (s : Script) (t : ThreadNo) (k n : ℕ) (w : What) (x : ThreadFacts) → named_thread s w ≡ Some t → (t.0 == k) ≡ true → CanTell s w x →
    named_facts s (thread k) n w x ≡ told_facts s n w x
named_told s t k n (Call f (Release v) y) x h e may =
    at_last (is_answer y) (v.0 == k) x (release_facts x) (answers (ends_by_release x) y may) (tested v t k true h e)
named_told s t k n (Call f (Alert v m) y) x h e may =
    at_last (is_answer y) (v.0 == k) x (alert_facts m x) (answers _ y may) (tested v t k true h e)
named_told s t k n (Call f (InsertApc a) Yes) x h e may =
    ap (λ (d : Bool). if d then insert_facts (new_pick s a n) x else x) (tested (owner_of s a) t k true h e)
named_told s t k n (Call f (RemoveApc a) Yes) x h e may =
    ap (λ (d : Bool). if d then (record x { apcs = without_apc a x.apcs }) else x) (tested (owner_of s a) t k true h e)
named_told s t k n (Expire (OfDelay v) from) x h e may =
    ap (λ (d : Bool). if d then expiry_facts from x else x) (tested v t k true h e)
named_told s t k n w x h e may = refl

-- an event that names a thread leaves the one that makes it
made_same : (s : Script) (t : ThreadNo) (n : ℕ) (st : Stand) (w : What) (x : ThreadFacts) → named_thread s w ≡ Some t → made_facts s n st w x ≡ x
made_same s t n st (Call f (Release v) y) x h = refl
made_same s t n st (Call f (Alert v m) y) x h = refl
made_same s t n st (Call f (InsertApc a) y) x h = refl
made_same s t n st (Call f (RemoveApc a) y) x h = refl
made_same s t n st (Expire (OfDelay v) from) x h = refl
made_same s t n st w x h = cc

-- a choice between a state and one that is equal to it is that state
either_way : (b : Bool) (x y : ThreadFacts) → y ≡ x → (if b then y else x) ≡ x
either_way true x y h = h
either_way false x y h = refl

-- ---- what the event leaves

-- the named thread changes
pub left_told : (x : ThreadLanes) (n : ℕ) (st : Stand) (e : Event) (t : ThreadNo) → length x.facts ≡ length x.script.threads → named_thread x.script e.what
    ≡ Some t → CanTell x.script e.what (facts_in x t) → left n st e x ≡ record x { facts = set x.facts t.0 (told_facts x.script n e.what (facts_in x t)) }
left_told x n st e t l named may =
    ap (λ (fs : List ThreadFacts). record x { facts = fs })
    (table_set x.facts (length x.script.threads) t.0 _ (λ i. facts_after x.script (thread i) n st e (facts_in x (thread i))) l same other)
  where
    made : (i : ℕ) → facts_after x.script (thread i) n st e (facts_in x (thread i)) ≡ named_facts x.script (thread i) n e.what (facts_in x (thread i))
    made i =
        ap (λ (y : ThreadFacts). named_facts x.script (thread i) n e.what y)
        (either_way (is_of_thread x.script (thread i) e) (facts_in x (thread i)) _ (made_same x.script t n st e.what (facts_in x (thread i)) named))

    same : (i : ℕ) → eqb t.0 i ≡ true → facts_after x.script (thread i) n st e (facts_in x (thread i)) ≡ told_facts x.script n e.what (facts_in x t)
    same i k =
        let at : t.0 ≡ i = eqb-true t.0 i k in
        let can : CanTell x.script e.what (facts_in x (thread i)) = subst (λ (j : ℕ). CanTell x.script e.what (get_or x.facts j start_facts)) at may in
        made i ∙ (named_told x.script t i n e.what (facts_in x (thread i)) named k can
        ∙ ap (λ (j : ℕ). told_facts x.script n e.what (get_or x.facts j start_facts)) (sym at))

    other : (i : ℕ) → eqb t.0 i ≡ false → facts_after x.script (thread i) n st e (facts_in x (thread i)) ≡ facts_in x (thread i)
    other i k = made i ∙ named_other x.script t i n e.what (facts_in x (thread i)) named k

-- the thread that makes it changes
pub left_made : (x : ThreadLanes) (n : ℕ) (st : Stand) (e : Event) (t : ThreadNo) → length x.facts ≡ length x.script.threads → named_thread x.script e.what
    ≡ None → e.thread ≡ Some t → cpu_of x.script t ≡ e.cpu → left n st e x
    ≡ record x { facts = set x.facts t.0 (made_facts x.script n st e.what (facts_in x t)) }
left_made x n st e t l named by own =
    ap (λ (fs : List ThreadFacts). record x { facts = fs })
    (table_set x.facts (length x.script.threads) t.0 _ (λ i. facts_after x.script (thread i) n st e (facts_in x (thread i))) l same other)
  where
    of_cpu : (e.cpu.0 == (cpu_of x.script t).0) ≡ true
    of_cpu = rw own (eq-eqb e.cpu.0 e.cpu.0 refl)

    made : (i : ℕ) → facts_after x.script (thread i) n st e (facts_in x (thread i))
        ≡ (if is_of_thread x.script (thread i) e then made_facts x.script n st e.what (facts_in x (thread i)) else facts_in x (thread i))
    made i = named_none x.script (thread i) n e.what _ named

    same : (i : ℕ) → eqb t.0 i ≡ true → facts_after x.script (thread i) n st e (facts_in x (thread i)) ≡ made_facts x.script n st e.what (facts_in x t)
    same i k =
        let at : t.0 ≡ i = eqb-true t.0 i k in
        let cpu : is_of e (cpu_of x.script (thread i)) ≡ true = subst (λ (j : ℕ). is_of e (cpu_of x.script (thread j)) ≡ true) at of_cpu in
        let mine : is_thread e.thread (thread i) ≡ true = rw by k in
        let of : is_of_thread x.script (thread i) e ≡ true = rw (cpu, mine) in
        made i ∙ (ap (λ (b : Bool). if b then made_facts x.script n st e.what (facts_in x (thread i)) else facts_in x (thread i)) of
        ∙ ap (λ (j : ℕ). made_facts x.script n st e.what (get_or x.facts j start_facts)) (sym at))

    other : (i : ℕ) → eqb t.0 i ≡ false → facts_after x.script (thread i) n st e (facts_in x (thread i)) ≡ facts_in x (thread i)
    other i k =
        let mine : is_thread e.thread (thread i) ≡ false = rw by k in
        let of : is_of_thread x.script (thread i) e ≡ false = rw mine (and_right (is_of e (cpu_of x.script (thread i))) false refl) in
        made i ∙ ap (λ (b : Bool). if b then made_facts x.script n st e.what (facts_in x (thread i)) else facts_in x (thread i)) of

-- no thread makes it, and it names none
pub left_none : (x : ThreadLanes) (n : ℕ) (st : Stand) (e : Event) → length x.facts ≡ length x.script.threads → named_thread x.script e.what ≡ None → e.thread
    ≡ None → left n st e x ≡ x
left_none x n st e l named by =
    ap (λ (fs : List ThreadFacts). record x { facts = fs })
    (table-self start_facts (length x.script.threads) x.facts (λ i. facts_after x.script (thread i) n st e (facts_in x (thread i))) l (λ i h. one i))
  where
    one : (i : ℕ) → facts_after x.script (thread i) n st e (facts_in x (thread i)) ≡ facts_in x (thread i)
    one i =
        let mine : is_thread e.thread (thread i) ≡ false = rw by in
        let of : is_of_thread x.script (thread i) e ≡ false = rw mine (and_right (is_of e (cpu_of x.script (thread i))) false refl) in
        named_none x.script (thread i) n e.what _ named ∙ ap
        (λ (b : Bool). if b then made_facts x.script n st e.what (facts_in x (thread i)) else facts_in x (thread i)) of

-- the same, by what the event does
pub left_told_by : (x : ThreadLanes) (n : ℕ) (st : Stand) (e : Event) (t : ThreadNo) (w : What) → e.what ≡ w → length x.facts ≡ length x.script.threads →
    named_thread x.script w ≡ Some t → CanTell x.script w (facts_in x t) → left n st e x
    ≡ record x { facts = set x.facts t.0 (told_facts x.script n w (facts_in x t)) }
left_told_by x n st e t w same l named may =
    let here : named_thread x.script e.what ≡ Some t = rw same named in
    let can : CanTell x.script e.what (facts_in x t) = subst (λ (v : What). CanTell x.script v (facts_in x t)) (sym same) may in
    left_told x n st e t l here can ∙ ap (λ (v : What). record x { facts = set x.facts t.0 (told_facts x.script n v (facts_in x t)) }) same
