-- What a free run shows some run shows; and where each of a list goes on into the list, there are runs of every length.
use Rattle.std.proofs.Common.{ap, arith, inl, inr, subst}
use Rattle.std.specs.Prelude.{List, [], length, refl, suc, true, zero, ℕ, ◌+◌, ◌∷◌, ◌≡◌, ◌⊎◌}
use Rattle.nt_event.specs.declared.events.Event.{Event}
use Rattle.nt_event.specs.declared.scripts.Script.{Script}
use Rattle.nt_alike.specs.Alike.{Alike}
use Rattle.nt_alike.specs.Ends.{is_quiet}
use Rattle.nt_alike.specs.Free.{IsFreeRun, LooksAreShort, MayCome}
use Rattle.nt_alike.specs.Lists.{Among, Each}
use Rattle.nt_alike.proofs.Free.{run_free}
use Rattle.nt_alike.proofs.GoOn.{goes}
use Rattle.nt_alike.proofs.Lists.{among_map, found}
use Rattle.nt_alike.proofs.Relation.{alike_self, alike_sym, alike_trans}
use Rattle.nt_expect.specs.declared.expectations.Expectation.{Expectation}
use Rattle.nt_expect.specs.declared.expectations.Expectation.TheVariants.{AlwaysEnds}
use Rattle.nt_expect.specs.Meaning.{ShowsAt, ShowsAtEnd}
use Rattle.nt_verdict.specs.Closed.{FreeRunsTell, GoesOn, RoundsTell}
use Rattle.nt_verdict.specs.Fails.{Fails, IsShown}
use Rattle.nt_verdict.proofs.States.{is_quiet_at}

-- the looks of a free run are short
short : (s : Script) (h : List Event) → IsFreeRun s h → LooksAreShort h
short s [] r = tt
short s (e ∷ h) r = (r.0.1, short s h r.1)

-- ---- what a free run shows

-- an expectation fails if a free run shows it, by an event that may come or where all is quiet
pub shown_fails : FreeRunsTell
shown_fails s x k r m = go x m
  where
    shown : (x : Expectation) → ((f : Event) × MayCome s f k × ShowsAt s x f k) ⊎ ((is_quiet s k ≡ true) × ShowsAtEnd s x k) → IsShown s x
    shown x (inl m) =
        record {
          limit = length (m.0 ∷ k);
          history = m.0 ∷ k;
          number = length k;
          run = run_free s (length (m.0 ∷ k)) (m.0 ∷ k) (omega arith) (m.1, r);
          looks = short s (m.0 ∷ k) (m.1, r);
          shown = inl (m.0, k, record { newer = []; is = refl; number = refl }, m.2);
        }
    shown x (inr m) =
        record {
          limit = suc (length k);
          history = k;
          number = length k;
          run = run_free s (suc (length k)) k (omega arith) r;
          looks = short s k r;
          shown = inr (is_quiet_at s k m.0, m.1, refl);
        }

    go : (x : Expectation) → ((f : Event) × MayCome s f k × ShowsAt s x f k) ⊎ ((is_quiet s k ≡ true) × ShowsAtEnd s x k) → Fails s x
    go AlwaysEnds (inl m) = absurd m.2
    go AlwaysEnds (inr m) = absurd m.1
    go x m = shown x m

-- ---- rounds

module _ (s : Script) (all : List (List Event)) (on : Each (GoesOn s all) all) where
  -- a free run of this length that is like one of the list
  record Run (n : ℕ) : Type 0 where
    history : List Event
    free : IsFreeRun s history
    long : length history ≡ n
    like : Among (λ x. Alike s history x) all

  -- it goes on as that one does
  longer : (n : ℕ) → Run n → Run (suc n)
  longer n h =
      found (GoesOn s all) (λ x. Alike s h.history x) all (Run (suc n)) on h.like
      (λ x to l.
      let o = goes s x h.history to.0 h.free (alike_sym s h.history x l) to.1.0 to.1.1 in
      record {
        history = o.event ∷ h.history;
        free = (o.comes, h.free);
        long = ap suc h.long;
        like = among_map (λ y. Alike s (to.1.0 ∷ x) y) (λ y. Alike s (o.event ∷ h.history) y) all
            (λ y a. alike_trans s (o.event ∷ h.history) (to.1.0 ∷ x) y (alike_sym s (to.1.0 ∷ x) (o.event ∷ h.history) o.alike) a) to.1.2;
      })

  as_long : (m n : ℕ) → Run m → Run (m + n)
  as_long m zero h = subst Run (let e : m ≡ m + 0 = omega arith in e) h
  as_long m (suc n) h = subst Run (let e : suc (m + n) ≡ m + suc n = omega arith in e) (longer (m + n) (as_long m n h))

-- a free run is one without its newest events
front : (s : Script) (m n : ℕ) (h : List Event) → IsFreeRun s h → length h ≡ m + n → (k : List Event) × IsFreeRun s k × (length k ≡ n)
front s zero n h r l = (h, r, omega (arith, l))
front s (suc m) n [] r l = absurd (omega (arith, l))
front s (suc m) n (e ∷ h) r l = front s m n h r.1 (omega (arith, l))

-- if each history of a list may go on into the list, there are runs of every length
pub rounds_fail : RoundsTell
rounds_fail s k all on n =
    let start : Run s (k ∷ all) on (length k) = record { history = k; free = on.0.0; long = refl; like = inl (alike_self s k) } in
    let run = as_long s (k ∷ all) on (length k) n start in
    let part = front s (length k) n run.history run.free run.long in
    (n, part.0, run_free s n part.0 (let l = part.2 in omega (arith, l)) part.1, short s part.0 part.1, part.2)
