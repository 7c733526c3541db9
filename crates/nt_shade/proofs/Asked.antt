-- The values by which a processor was asked, found from the marks of the events.
use Rattle.std.proofs.Common.{ap, append-nil, arith, sym, ◌∙◌}
use Rattle.std.proofs.Math.Bool.{or-false}
use Rattle.std.proofs.lemmas.Bool.{eq-eqb, lt-ltb, ltb-false, ltb-true, ne_eqb}
use Rattle.std.specs.Prelude.{Bool, List, [], false, length, nat_lt, refl, suc, true, zero, ℕ, ◌&&◌, ◌++◌, ◌+◌, ◌-◌, ◌==◌, ◌||◌}
use Rattle.std.specs.Prelude.{◌∷◌, ◌≡◌, ◌≤◌}
use Rattle.nt_event.specs.declared.events.Event.{Event}
use Rattle.nt_event.specs.declared.numbers.CpuNo.{CpuNo}
use Rattle.nt_event.specs.declared.scripts.Script.{Script}
use Rattle.nt_event.specs.Requests.{asked, asks}
use Rattle.nt_cpu.specs.Runs.{asks_at}
use Rattle.nt_shade_asks.specs.Values.{value_if, values_above}
use Rattle.nt_shade_asks.proofs.Values.{none_above}

module _ (s : Script) (p : CpuNo) (c : ℕ) where
  -- no event of a number past the history asks
  asks_none : (n : ℕ) (past : List Event) → length past ≤ n → asks_at s n p c past ≡ false
  asks_none n [] h = refl
  asks_none n (e ∷ past) h =
      let a = asks_none n past (omega (arith, h)) in
      let b : (n == length past) ≡ false = ne_eqb n (length past) (λ q. omega (arith, h, q)) in
      rw (a, b) refl

  -- the greatest value is one of an event
  asked_low : (past : List Event) → asked s p c past ≤ length past
  asked_low [] = omega arith
  asked_low (e ∷ past) = go (asks s p c e past) refl (asked_low past)
    where
      go : (b : Bool) → asks s p c e past ≡ b → asked s p c past ≤ length past → asked s p c (e ∷ past) ≤ suc (length past)
      go true q l = rw q (omega arith)
      go false q l = rw q (omega (arith, l))

  nothing : (b : Bool) → (false || (b && false)) ≡ false
  nothing true = refl
  nothing false = refl

  -- no event of a number from the greatest value on asks
  asks_quiet : (n : ℕ) (past : List Event) → asked s p c past ≤ n → asks_at s n p c past ≡ false
  asks_quiet n [] h = refl
  asks_quiet n (e ∷ past) h = go (asks s p c e past) refl (asks_quiet n past)
    where
      go : (b : Bool) → asks s p c e past ≡ b → (asked s p c past ≤ n → asks_at s n p c past ≡ false) → asks_at s n p c (e ∷ past) ≡ false
      go true q ih = let k = rw q at h in asks_none n (e ∷ past) (omega (arith, k))
      go false q ih = let k = rw q at h in let a = ih k in rw (a, q) (nothing (n == length past))

  -- of so many numbers from this one on, those of events that asked, each with one added
  abbrev pub asked_from : ℕ → ℕ → List Event → List ℕ
  asked_from low zero past = []
  asked_from low (suc n) past = asked_from low n past ++ value_if (asks_at s (low + n) p c past) (low + n + 1)

  -- one event more asks by its own number alone
  from_older : (low n : ℕ) (e : Event) (past : List Event) → low + n ≤ length past → asked_from low n (e ∷ past) ≡ asked_from low n past
  from_older low zero e past h = refl
  from_older low (suc n) e past h =
      let a = from_older low n e past (omega (arith, h)) in
      let b : (low + n == length past) ≡ false = ne_eqb (low + n) (length past) (λ q. omega (arith, h, q)) in
      let d : asks_at s (low + n) p c (e ∷ past) ≡ asks_at s (low + n) p c past = rw b (or-false (asks_at s (low + n) p c past)) in
      rw (a, d) refl

  -- the newest event has the last number
  newest : (e : Event) (past : List Event) → asks_at s (length past) p c (e ∷ past) ≡ asks s p c e past
  newest e past =
      let a = asks_none (length past) past (omega arith) in
      let b : (length past == length past) ≡ true = eq-eqb (length past) (length past) refl in
      rw (a, b) refl

  and-true : (b : Bool) → b ≡ (b && true)
  and-true true = refl
  and-true false = refl

  -- up to the length of the history these are all values above
  from_all : (v : ℕ) (past : List Event) → asked_from v (length past - v) past ≡ values_above s p c v past
  from_all v [] = ap (λ (n : ℕ). asked_from v n []) (nothing v)
    where
      nothing : (v : ℕ) → 0 - v ≡ 0
      nothing v = omega arith
  from_all v (e ∷ past) = go (nat_lt (length past) v) refl (from_all v past)
    where
      go : (b : Bool) → nat_lt (length past) v ≡ b → asked_from v (length past - v) past ≡ values_above s p c v past →
          asked_from v (suc (length past) - v) (e ∷ past) ≡ values_above s p c v (e ∷ past)
      go true q ih =
          let l = ltb-true (length past) v q in
          let k : suc (length past) - v ≡ 0 = omega (arith, l) in
          ap (λ (m : ℕ). asked_from v m (e ∷ past)) k ∙ sym (none_above s p c v (e ∷ past) (omega (arith, l)))
      go false q ih =
          let l = ltb-false (length past) v q in
          let k : suc (length past) - v ≡ suc (length past - v) = omega (arith, l) in
          let at : v + (length past - v) ≡ length past = omega (arith, l) in
          let older = from_older v (length past - v) e past (omega (arith, l)) ∙ ih in
          let above : nat_lt v (length past + 1) ≡ true = lt-ltb v (length past + 1) (omega (arith, l)) in
          ap (λ (m : ℕ). asked_from v m (e ∷ past)) k
          ∙ ap (λ (xs : List ℕ). xs ++ value_if (asks_at s (v + (length past - v)) p c (e ∷ past)) (v + (length past - v) + 1)) older
          ∙ ap (λ (m : ℕ). values_above s p c v past ++ value_if (asks_at s m p c (e ∷ past)) (m + 1)) at
          ∙ ap (λ (b : Bool). values_above s p c v past ++ value_if b (length past + 1)) (newest e past ∙ and-true (asks s p c e past)
          ∙ ap (λ (b : Bool). asks s p c e past && b) (sym above))

  -- numbers from the greatest value on add none
  from_more : (v m j : ℕ) (past : List Event) → asked s p c past ≤ v + m → asked_from v (m + j) past ≡ asked_from v m past
  from_more v m zero past h = let k : m + 0 ≡ m = omega arith in ap (λ (n : ℕ). asked_from v n past) k
  from_more v m (suc j) past h =
      let k : m + suc j ≡ suc (m + j) = omega arith in
      let a = asks_quiet (v + (m + j)) past (omega (arith, h)) in
      ap (λ (n : ℕ). asked_from v n past) k
      ∙ ap (λ (b : Bool). asked_from v (m + j) past ++ value_if b (v + (m + j) + 1)) a
      ∙ append-nil (asked_from v (m + j) past)
      ∙ from_more v m j past h

  -- so up to the greatest value these are all values above
  pub from_asked : (v : ℕ) (past : List Event) → asked_from v (asked s p c past - v) past ≡ values_above s p c v past
  from_asked v past =
      let m = asked s p c past - v in
      let j = length past - v - m in
      let low = asked_low past in
      let k : length past - v ≡ m + j = omega (arith, low) in
      sym (from_more v m j past (omega arith)) ∙ ap (λ (n : ℕ). asked_from v n past) (sym k) ∙ from_all v past
