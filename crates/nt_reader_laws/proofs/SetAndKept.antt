-- A question that an event sets, clears or leaves is true exactly where an event set it and no later one cleared it.
use Rattle.nt_event.specs.declared.events.Event.{Event}
use Rattle.nt_readings.proofs.Served.{none_after}
use Rattle.nt_readings.specs.Positions.{At, EachAfter}
use Rattle.nt_reader_laws.specs.Flags.{IsSetAndKept}
use Rattle.std.proofs.Common.{ap, arith, inl, inr, refl, sym, ◌∙◌}
use Rattle.std.specs.Prelude.{Bool, List, [], false, length, true, ℕ, ◌<◌, ◌↔◌, ◌∷◌, ◌≡◌}

-- what an event leaves that sets it, or else clears it
abbrev pub flag_after : Bool → Bool → Bool → Bool
flag_after true clears old = true
flag_after false true old = false
flag_after false false old = old

-- a position at which something holds lies before the end of the history
pub at_below : (P : Event → List Event → Type 0) (n : ℕ) (past : List Event) → At P n past → n < length past
at_below P n [] h = absurd h
at_below P n (e ∷ past) (inl h) = let q = h.0 in omega (arith, q)
at_below P n (e ∷ past) (inr h) = let l = at_below P n past h in omega (arith, l)

module _ (q : List Event → Bool) (sets clears : Event → List Event → Bool) (start : q [] ≡ false)
    (step : (e : Event) (past : List Event) → q (e ∷ past) ≡ flag_after (sets e past) (clears e past) (q past)) where
  kept_forth : (past : List Event) → q past ≡ true → IsSetAndKept sets clears past
  kept_forth [] h = let z = start in cc
  kept_forth (e ∷ past) h =
      go (sets e past) (clears e past) refl refl (λ k. kept_forth past k) (let z = step e past in cc)
    where
      go : (a b : Bool) → sets e past ≡ a → clears e past ≡ b → (q past ≡ true → IsSetAndKept sets clears past) →
          flag_after (sets e past) (clears e past) (q past) ≡ true → IsSetAndKept sets clears (e ∷ past)
      go true b x y ih k =
          (length past, inl (refl, x), ((λ l. absurd (omega (arith, l))), none_after (λ e before. clears e before ≡ false) (length past) past (omega arith)))
      go false true x y ih k =
          let z : false ≡ true = sym (ap (λ (a : Bool). flag_after a (clears e past) (q past)) x ∙ ap (λ (b : Bool). flag_after false b (q past)) y) ∙ k in cc
      go false false x y ih k =
          let old : q past ≡ true = sym (ap (λ (a : Bool). flag_after a (clears e past) (q past)) x ∙ ap (λ (b : Bool). flag_after false b (q past)) y) ∙ k in
          let h = ih old in
          (h.0, inr h.1, ((λ l. y), h.2))

  kept_back : (past : List Event) (n : ℕ) → At (λ e before. sets e before ≡ true) n past → EachAfter (λ e before. clears e before ≡ false) n past →
      q past ≡ true
  kept_back [] n h k = absurd h
  kept_back (e ∷ past) n (inl h) k =
      step e past ∙ ap (λ (a : Bool). flag_after a (clears e past) (q past)) h.1
  kept_back (e ∷ past) n (inr h) k =
      let old : q past ≡ true = kept_back past n h k.1 in
      let clear : clears e past ≡ false = k.0 (at_below (λ e before. sets e before ≡ true) n past h) in
      step e past ∙ go (sets e past) (clears e past) (q past) clear old
    where
      go : (a b c : Bool) → b ≡ false → c ≡ true → flag_after a b c ≡ true
      go true b c x y = refl
      go false true c x y = cc
      go false false c x y = y

  -- a question that starts false is true exactly where it was set and not cleared since, if each event obeys this
  pub set_and_kept : (past : List Event) → (q past ≡ true) ↔ IsSetAndKept sets clears past
  set_and_kept past = ((λ h. kept_forth past h), (λ h. kept_back past h.0 h.1 h.2))
