-- In a run, what a processor has served of a class is what it had seen just after it last served it.
use Rattle.std.proofs.Common.{ap, arith, inl, inr, subst, ◌∙◌}
use Rattle.std.proofs.lemmas.Bool.{eq-eqb, eqb-true, ltb-true}
use Rattle.std.specs.List.{list_all, list_any}
use Rattle.std.specs.Prelude.{Bool, List, [], false, if◌then◌else◌, length, nat_lt, refl, true, ℕ, ◌&&◌, ◌<◌, ◌==◌, ◌||◌, ◌∷◌, ◌≡◌, ◌≤◌}
use Rattle.nt_event.specs.declared.commands.Reply.{Reply}
use Rattle.nt_event.specs.declared.commands.Reply.TheVariants.{Spin}
use Rattle.nt_event.specs.declared.events.Begun.TheVariants.{Int}
use Rattle.nt_event.specs.declared.events.Event.{Event}
use Rattle.nt_event.specs.declared.events.What.{What}
use Rattle.nt_event.specs.declared.events.What.TheVariants.{Begin, Call, Clean}
use Rattle.nt_event.specs.declared.numbers.CpuNo.{CpuNo}
use Rattle.nt_event.specs.declared.scripts.Script.{Script}
use Rattle.nt_event.specs.Classes.{interrupt_classes, lock_class}
use Rattle.nt_event.specs.Lanes.{lanes_at}
use Rattle.nt_event.specs.Own.{own_of}
use Rattle.nt_event.specs.Replies.{is_spin}
use Rattle.nt_event.specs.Requests.{seen, served, serves}
use Rattle.nt_event.specs.Step.{IsLegal, IsRun}
use Rattle.nt_event.specs.Numbers.{is_of}
use Rattle.nt_runs.proofs.Known.{Known, KnownClean, legal_known}
use Rattle.nt_event.proofs.Options.{both}
use Rattle.nt_runs.proofs.Turns.{is_next}
use Rattle.nt_readings.specs.Positions.{EachAfter}
use Rattle.nt_readings.specs.Seen.{IsNoService, IsServed, IsServing}

-- nothing after the newest event
pub none_after : (P : Event → List Event → Type 0) (n : ℕ) (past : List Event) → length past ≤ n → EachAfter P n past
none_after P n [] h = tt
none_after P n (e ∷ past) h = (λ l. absurd (omega (arith, h, l)), none_after P n past (omega (arith, h)))

-- anything holds of each event after the last one, as there is none
pub none_yet : (P : Event → List Event → Type 0) (n : ℕ) (e : Event) (past : List Event) → length past ≤ n → EachAfter P n (e ∷ past)
none_yet P n e past l = (λ h. absurd (omega (arith, h, l)), none_after P n past l)

-- ---- which events serve a class

-- a class in a list whose classes are all above 2 is above 2
above_two : (c : ℕ) (ks : List ℕ) → list_all (λ k. nat_lt 2 k) ks ≡ true → list_any (λ k. k == c) ks ≡ true → 2 < c
above_two c [] h a = cc
above_two c (k ∷ ks) h a = go (k == c) refl a (λ b. above_two c ks (both (nat_lt 2 k) _ h).1 b)
  where
    go : (b : Bool) → (k == c) ≡ b → (b || list_any (λ k. k == c) ks) ≡ true → (list_any (λ k. k == c) ks ≡ true → 2 < c) → 2 < c
    go true e x ih =
        let l = ltb-true 2 k (both (nat_lt 2 k) _ h).0 in
        let n = eqb-true k c e in
        omega (arith, l, n)
    go false e x ih = ih x

-- the class of released locks is no interrupt
no_interrupt : (c : ℕ) → list_any (λ k. k == c) interrupt_classes ≡ true → c ≡ lock_class → ⊥
no_interrupt c a e =
    let no : list_any (λ k. k == lock_class) interrupt_classes ≡ true = subst (λ (n : ℕ). list_any (λ k. k == n) interrupt_classes ≡ true) e a in cc

-- a reply that passes the test for spin is Spin
spin_is : (y : Reply) → is_spin y ≡ true → y ≡ Spin
spin_is Spin h = refl
spin_is y h = cc

-- the class of a Clean of a run is below 3
clean_low : (s : Script) (limit : ℕ) (k : ℕ) (e : Event) (past : List Event) → IsLegal s limit e past → e.what ≡ Clean k → k < 3
clean_low s limit k e past g q = go known
  where
    known : KnownClean e.cpu (own_of s e.cpu past) (lanes_at s past) k
    known = subst (Known s e.cpu (own_of s e.cpu past) (lanes_at s past)) q (legal_known s limit e past g (ap is_next q))

    go : KnownClean e.cpu (own_of s e.cpu past) (lanes_at s past) k → k < 3
    go (inl h) = let n = h.0 in omega (arith, n)
    go (inr (inl h)) = let n = h.0 in omega (arith, n)
    go (inr (inr h)) = let n = h.0 in omega (arith, n)

-- an event of a run that passes the test for serving a class serves it
serving : (s : Script) (limit : ℕ) (c : ℕ) (e : Event) (past : List Event) (w : What) → IsLegal s limit e past → e.what ≡ w → serves c w ≡ true → IsServing c w
serving s limit c e past (Clean k) g q h =
    let n : k ≡ c = eqb-true k c h in
    let l = clean_low s limit k e past g q in
    (n, omega (arith, n, l))
serving s limit c e past (Begin (Int level) from) g q h =
    let n : level ≡ c = eqb-true level c h in
    let known : Known s e.cpu (own_of s e.cpu past) (lanes_at s past) (Begin (Int level) from) = subst
    (Known s e.cpu (own_of s e.cpu past) (lanes_at s past)) q (legal_known s limit e past g (ap is_next q)) in
    let l = above_two level interrupt_classes refl known.class in
    (n, omega (arith, n, l), no_interrupt c (subst (λ (k : ℕ). list_any (λ j. j == k) interrupt_classes ≡ true) n known.class))
serving s limit c e past (Call f command y) g q h =
    let k = both (c == lock_class) (is_spin y) h in (eqb-true c lock_class k.0, spin_is y k.1)
serving s limit c e past w g q h = cc

-- an event that serves a class passes the test for it
serves_so : (c : ℕ) (w : What) → IsServing c w → serves c w ≡ true
serves_so c (Clean k) h = eq-eqb k c h.0
serves_so c (Begin (Int level) from) h = eq-eqb level c h.0
serves_so c (Call f command y) h = ap (λ (b : Bool). b && is_spin y) (eq-eqb c lock_class h.0) ∙ ap is_spin h.1
serves_so c w h = absurd h

-- ---- the last service

-- an event that fails the test for serving a class is no service of it
no_service : (p : CpuNo) (c : ℕ) (e : Event) (before : List Event) → serves c e.what ≡ false → IsNoService p c e before
no_service p c e before h o k = let t = serves_so c e.what k in cc

-- an event of another processor is no service of a class on this one
other_cpu : (p : CpuNo) (c : ℕ) (e : Event) (before : List Event) → is_of e p ≡ false → IsNoService p c e before
other_cpu p c e before h o k = cc

-- an event that is no service leaves it
stays_served : (s : Script) (p : CpuNo) (c v : ℕ) (e : Event) (past : List Event) → IsNoService p c e past → IsServed s p c v past → IsServed s p c v (e ∷ past)
stays_served s p c v e past n (inl h) = inl (h.0, (n, h.1))
stays_served s p c v e past n (inr h) = inr (h.0, inr h.1, (λ l. n, h.2))

-- in a run, what a processor has served of a class is what it had seen just after it last served it, else 0
pub served_last : (s : Script) (limit : ℕ) (p : CpuNo) (c : ℕ) (past : List Event) → IsRun s limit past → IsServed s p c (served s p c past) past
served_last s limit p c [] r = inl (refl, tt)
served_last s limit p c (e ∷ past) r =
    go (is_of e p) (serves c e.what) refl refl (served_last s limit p c past r.1)
  where
    go : (b d : Bool) → is_of e p ≡ b → serves c e.what ≡ d → IsServed s p c (served s p c past) past →
        IsServed s p c (if b then (if d then seen s p c (e ∷ past) else served s p c past) else served s p c past) (e ∷ past)
    go true true o k ih =
        inr (
          length past,
          inl (refl, (o, serving s limit c e past e.what r.0 refl k, refl)),
          (λ l. absurd (omega (arith, l)), none_after (IsNoService p c) (length past) past (omega arith)),
        )
    go true false o k ih =
        stays_served s p c (served s p c past) e past (no_service p c e past k) ih
    go false d o k ih = stays_served s p c (served s p c past) e past (other_cpu p c e past o) ih
