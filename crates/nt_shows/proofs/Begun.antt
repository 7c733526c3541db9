-- A thread's first switch begins it.
use Rattle.std.proofs.Common.{inl, inr, sym, ◌∙◌}
use Rattle.std.specs.List.{list_any}
use Rattle.std.specs.Prelude.{Bool, List, [], false, not, refl, true, ◌||◌, ◌∷◌, ◌≡◌}
use Rattle.nt_event.specs.declared.events.Event.{Event}
use Rattle.nt_event.specs.declared.numbers.ThreadNo.{ThreadNo}
use Rattle.nt_runs.proofs.Robin.{or_yes}
use Rattle.nt_runs.proofs.SomeFrame.{or_only}
use Rattle.nt_expect.specs.declared.expectations.Activity.TheVariants as act
use Rattle.nt_expect.specs.declared.expectations.Watched.TheVariants.{Begin}
use Rattle.nt_expect.specs.Meaning.{Begins, Came, takes_thread}
use Rattle.nt_shows.specs.Tells.{Tells}

-- some event took the thread exactly where one began it
took_came : (t : ThreadNo) (h : List Event) → list_any (takes_thread t) h ≡ true → Came (Begin (act.Thread t)) h
took_came t [] m = cc
took_came t (e ∷ h) m = go (list_any (takes_thread t) h) refl (took_came t h) m
  where
    go : (b : Bool) → list_any (takes_thread t) h ≡ b → (list_any (takes_thread t) h ≡ true → Came (Begin (act.Thread t)) h) →
        (takes_thread t e || list_any (takes_thread t) h) ≡ true → Came (Begin (act.Thread t)) (e ∷ h)
    go true q earlier m = inr (earlier q)
    go false q earlier m = inl (sym (or_only (takes_thread t e) (list_any (takes_thread t) h) q) ∙ m, q)

-- if some event of a history switched to a thread, the thread's beginning came in it
came_took : (t : ThreadNo) (h : List Event) → Came (Begin (act.Thread t)) h → list_any (takes_thread t) h ≡ true
came_took t [] m = absurd m
came_took t (e ∷ h) (inl m) = let q = m.0 in rw q refl
came_took t (e ∷ h) (inr m) = or_yes (takes_thread t e) (list_any (takes_thread t) h) (came_took t h m)

-- false is not true
clash : false ≡ true → ⊥
clash e = cc

-- so where one came, no later one begins it
pub begun_before : (t : ThreadNo) (e : Event) (past : List Event) (came : Bool) → came ≡ true → Tells came (Came (Begin (act.Thread t)) past) →
    Tells (not came) (Begins (act.Thread t) e past)
begun_before t e past false q m = absurd (clash q)
begun_before t e past true q m = λ begins. clash (sym begins.1 ∙ came_took t past m)

-- and else each that takes the thread does
pub begun_now : (t : ThreadNo) (e : Event) (past : List Event) (came b : Bool) → came ≡ false → Tells came (Came (Begin (act.Thread t)) past) →
    b ≡ takes_thread t e → Tells b (Begins (act.Thread t) e past)
begun_now t e past true b k none q = absurd (clash (sym k))
begun_now t e past false false k none q = λ begins. clash (q ∙ begins.0)
begun_now t e past false true k none q = (sym q, free (list_any (takes_thread t) past) refl)
  where
    free : (b : Bool) → list_any (takes_thread t) past ≡ b → b ≡ false
    free false k = refl
    free true k = absurd (none (took_came t past k))
