-- What is watched for, in events that are alike but for numbers.
use Rattle.std.proofs.Common.{ap, inl, inr, subst, sym, ◌∙◌}
use Rattle.std.specs.List.{list_any}
use Rattle.std.specs.Prelude.{Bool, List, [], false, refl, true, ◌==◌, ◌∷◌, ◌≡◌, ◌||◌}
use Rattle.nt_event.specs.declared.commands.Command.{Command}
use Rattle.nt_event.specs.declared.commands.Reply.{Reply}
use Rattle.nt_event.specs.declared.commands.TimerKey.{TimerKey}
use Rattle.nt_event.specs.declared.events.Begun.{Begun}
use Rattle.nt_event.specs.declared.events.Event.{Event}
use Rattle.nt_event.specs.declared.events.What.{What}
use Rattle.nt_event.specs.declared.events.What.TheVariants as what
use Rattle.nt_event.specs.declared.numbers.ThreadNo.{ThreadNo}
use Rattle.nt_event.specs.Families.{in_begin, in_call, in_expiry, in_switch}
use Rattle.nt_runs.proofs.Robin.{or_yes}
use Rattle.nt_runs.proofs.SomeFrame.{or_only}
use Rattle.nt_alike.specs.Bare.{bare_event, bare_what}
use Rattle.nt_alike.specs.Lists.{Each}
use Rattle.nt_expect.specs.declared.expectations.Activity.TheVariants as act
use Rattle.nt_expect.specs.declared.expectations.Watched.{Watched}
use Rattle.nt_expect.specs.declared.expectations.Watched.TheVariants.{Begin, Call, Expire, Gone, Note, Refused}
use Rattle.nt_expect.specs.Meaning.{Came, Matches, takes_thread}
use Rattle.nt_verdict.specs.Closed.{CameAlike}

-- ---- a test of an event that asks no number

-- a test of a call that asks for no number holds alike without the numbers of the event
call_bare : (Q : Command → Reply → Type 0) (w : What) → in_call (λ f c y. Q c y) ⊥ w ≡ in_call (λ f c y. Q c y) ⊥ (bare_what w)
call_bare Q (what.Look r) = refl
call_bare Q w = refl

-- a test of a beginning that asks for no number holds alike without the numbers of the event
begin_bare : (Q : Begun → Type 0) (w : What) → in_begin (λ b from. Q b) ⊥ w ≡ in_begin (λ b from. Q b) ⊥ (bare_what w)
begin_bare Q (what.Look r) = refl
begin_bare Q w = refl

-- a test of an expiry that asks for no number holds alike without the numbers of the event
expiry_bare : (Q : TimerKey → Type 0) (w : What) → in_expiry (λ key from. Q key) ⊥ w ≡ in_expiry (λ key from. Q key) ⊥ (bare_what w)
expiry_bare Q (what.Look r) = refl
expiry_bare Q w = refl

-- so like events pass it alike
same_by : (P : What → Type 0) → ((w : What) → P w ≡ P (bare_what w)) → (w v : What) → bare_what w ≡ bare_what v → P w → P v
same_by P bare w v q m = subst (λ (X : Type 0). X) (bare w ∙ ap P q ∙ sym (bare v)) m

-- of two actions alike but for numbers, if one is the end of a thread, the other is too
gone_same : (t : ThreadNo) (w v : What) → bare_what w ≡ bare_what v → w ≡ what.Gone t → v ≡ what.Gone t
gone_same t w v q m = off v (sym q ∙ ap bare_what m)
  where
    off : (u : What) → bare_what u ≡ what.Gone t → u ≡ what.Gone t
    off (what.Gone x) h = h
    off (what.Look r) h = cc
    off u h = cc

-- an action is a switch to a thread exactly if it is one without its numbers
switch_bare : (t : ThreadNo) (w : What) → in_switch (λ u status. u.0 == t.0) false (bare_what w) ≡ in_switch (λ u status. u.0 == t.0) false w
switch_bare t (what.Look r) = refl
switch_bare t w = refl

-- ---- the first switch to a thread

-- of two events alike but for numbers, both take up a thread or none does
takes_same : (t : ThreadNo) (e f : Event) → bare_event e ≡ bare_event f → takes_thread t e ≡ takes_thread t f
takes_same t e f q =
    sym (switch_bare t e.what) ∙ ap (λ (z : Event). in_switch (λ u status. u.0 == t.0) false z.what) q ∙ switch_bare t f.what

-- if a thread was switched to in a history, its beginning came in it
took_came : (t : ThreadNo) (h : List Event) → list_any (takes_thread t) h ≡ true → Came (Begin (act.Thread t)) h
took_came t [] m = cc
took_came t (e ∷ h) m = go (list_any (takes_thread t) h) refl (took_came t h) m
  where
    go : (b : Bool) → list_any (takes_thread t) h ≡ b → (list_any (takes_thread t) h ≡ true → Came (Begin (act.Thread t)) h) →
        (takes_thread t e || list_any (takes_thread t) h) ≡ true → Came (Begin (act.Thread t)) (e ∷ h)
    go true q earlier m = inr (earlier q)
    go false q earlier m = inl (sym (or_only (takes_thread t e) (list_any (takes_thread t) h) q) ∙ m, q)

-- if the beginning of a thread came in a history, the thread was switched to
came_took : (t : ThreadNo) (h : List Event) → Came (Begin (act.Thread t)) h → list_any (takes_thread t) h ≡ true
came_took t [] m = absurd m
came_took t (e ∷ h) (inl m) = let q = m.0 in rw q refl
came_took t (e ∷ h) (inr m) = or_yes (takes_thread t e) (list_any (takes_thread t) h) (came_took t h m)

-- a thread not switched to in one history is not in another, if it began there only if in the first
not_before : (t : ThreadNo) (h k : List Event) → (Came (Begin (act.Thread t)) k → Came (Begin (act.Thread t)) h) →
    list_any (takes_thread t) h ≡ false → list_any (takes_thread t) k ≡ false
not_before t h k back none = go (list_any (takes_thread t) k) refl
  where
    clash : false ≡ true → ⊥
    clash q = cc

    go : (b : Bool) → list_any (takes_thread t) k ≡ b → b ≡ false
    go false q = refl
    go true q = absurd (clash (sym none ∙ came_took t h (back (took_came t k q))))

-- ---- what is watched for

-- like events match alike
pub matches_same : (x : Watched) (e f : Event) (h k : List Event) → bare_event e ≡ bare_event f → (Came x k → Came x h) → Matches x e h → Matches x f k
matches_same x e f h k q back m = go x back m
  where
    what_same : bare_what e.what ≡ bare_what f.what
    what_same = ap (λ (z : Event). z.what) q

    go : (x : Watched) → (Came x k → Came x h) → Matches x e h → Matches x f k
    go (Note n) back m = same_by _ (call_bare (λ c y. c ≡ _)) e.what f.what what_same m
    go Refused back m = same_by _ (call_bare (λ c y. _ ≡ true)) e.what f.what what_same m
    go (Begin (act.Int level)) back m = same_by _ (begin_bare _) e.what f.what what_same m
    go (Begin (act.Dpc d)) back m = same_by _ (begin_bare _) e.what f.what what_same m
    go (Begin (act.Apc a)) back m = same_by _ (begin_bare _) e.what f.what what_same m
    go (Begin (act.Thread t)) back m = (sym (takes_same t e f q) ∙ m.0, not_before t h k back m.1)
    go (Expire t) back m = same_by _ (expiry_bare _) e.what f.what what_same m
    go (Gone t) back m = gone_same t e.what f.what what_same m
    go (Call c y) back m = same_by _ (call_bare (λ d reply. _ × _)) e.what f.what what_same m

-- so of what is watched for the same came after them
pub came_same : (x : Watched) (e f : Event) (h k : List Event) → bare_event e ≡ bare_event f → CameAlike h k x → CameAlike (e ∷ h) (f ∷ k) x
came_same x e f h k q c = (one e f h k q c.1 c.0, one f e k h (sym q) c.0 c.1)
  where
    one : (e f : Event) (h k : List Event) → bare_event e ≡ bare_event f → (Came x k → Came x h) → (Came x h → Came x k) → Came x (e ∷ h) → Came x (f ∷ k)
    one e f h k q back on (inl m) = inl (matches_same x e f h k q back m)
    one e f h k q back on (inr m) = inr (on m)

-- where the same watched events came in two histories, they did so after one more event alike but for numbers
pub all_came_same : (xs : List Watched) (e f : Event) (h k : List Event) → bare_event e ≡ bare_event f → Each (CameAlike h k) xs →
    Each (CameAlike (e ∷ h) (f ∷ k)) xs
all_came_same [] e f h k q c = tt
all_came_same (x ∷ xs) e f h k q c = (came_same x e f h k q c.0, all_came_same xs e f h k q c.1)

-- histories in which the same watched events came as in a third one have the same among themselves
pub all_came_trans : (xs : List Watched) (g h k : List Event) → Each (CameAlike g h) xs → Each (CameAlike h k) xs → Each (CameAlike g k) xs
all_came_trans [] g h k a b = tt
all_came_trans (x ∷ xs) g h k a b =
    ((λ m. b.0.0 (a.0.0 m), λ m. a.0.1 (b.0.1 m)), all_came_trans xs g h k a.1 b.1)
