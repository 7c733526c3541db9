-- Values by which a processor was asked: a value that a look may find is one of those ahead.
use Rattle.std.proofs.Common.{ap, arith, inl, inr, subst, sym, ◌∙◌}
use Rattle.std.proofs.lemmas.Bool.{eqb-true}
use Rattle.std.proofs.lemmas.List.Elements.{Contains-append_left, Contains-append_right}
use Rattle.std.specs.Prelude.{Bool, Contains, List, [], false, get_or, length, nat_lt, refl, suc, true, zero, ℕ}
use Rattle.std.specs.Prelude.{◌&&◌, ◌++◌, ◌+◌, ◌<◌, ◌==◌, ◌||◌, ◌∷◌, ◌≡◌, ◌⊎◌}
use Rattle.nt_event.specs.declared.events.Event.{Event}
use Rattle.nt_event.specs.declared.numbers.CpuNo.{CpuNo}
use Rattle.nt_event.specs.declared.scripts.Script.{Script}
use Rattle.nt_event.specs.Lists.{value_at}
use Rattle.nt_event.specs.Own.{Own, own_of}
use Rattle.nt_event.specs.Requests.{asks, seen}
use Rattle.nt_event.specs.Step.{good_rises, was_asked}
use Rattle.nt_event.proofs.Elements.{contains_here}
use Rattle.nt_event.proofs.Options.{both}
use Rattle.nt_event.proofs.Tables.{get_or-table}
use Rattle.nt_ahead.specs.Finds.{MayFind}
use Rattle.nt_shade_asks.specs.Values.{value_if, values_above}

-- a value above another one by which the processor was asked is one of those above it
pub asked_above : (s : Script) (p : CpuNo) (c u v : ℕ) (past : List Event) → nat_lt u v ≡ true → was_asked s p c v past ≡ true →
    Contains (values_above s p c u past) v
asked_above s p c u v [] l h = cc
asked_above s p c u v (e ∷ past) l h =
    go (v == length past + 1) refl (asks s p c e past) refl (was_asked s p c v past) refl h (asked_above s p c u v past l)
  where
    Then : Bool → Type 0
    Then a = Contains (values_above s p c u past ++ value_if (a && nat_lt u (length past + 1)) (length past + 1)) v

    here : v ≡ length past + 1 → Then true
    here q =
        let m : nat_lt u (length past + 1) ≡ true = ap (nat_lt u) (sym q) ∙ l in
        Contains-append_right (values_above s p c u past) (value_if (nat_lt u (length past + 1)) (length past + 1)) v
        (rw m (subst (λ (w : ℕ). Contains (w ∷ []) v) q (contains_here v [])))

    go : (b : Bool) → (v == length past + 1) ≡ b → (a : Bool) → asks s p c e past ≡ a → (o : Bool) → was_asked s p c v past ≡ o →
        ((b && a) || o) ≡ true → (was_asked s p c v past ≡ true → Contains (values_above s p c u past) v) → Then (asks s p c e past)
    go b x a y true z h later = Contains-append_left (values_above s p c u past) _ v (later z)
    go true x true y false z h later = subst Then (sym y) (here (eqb-true v (length past + 1) x))
    go true x false y false z h later = cc
    go false x a y false z h later = cc

-- each value of a look that may be made is 0, or above what was seen, and was asked
good_value : (s : Script) (p : CpuNo) (c : ℕ) (vs : List ℕ) (x : Own) (past : List Event) → good_rises s p c vs x past ≡ true → (i : ℕ) →
    (get_or vs i 0 ≡ 0) ⊎ ((nat_lt (value_at x.seen (c + i)) (get_or vs i 0) ≡ true) × (was_asked s p (c + i) (get_or vs i 0) past ≡ true))
good_value s p c [] x past g i = inl refl
good_value s p c (v ∷ vs) x past g i =
    let parts = both ((v == 0) || (nat_lt (value_at x.seen c) v && was_asked s p c v past)) (good_rises s p (suc c) vs x past) g in
    at i (first (v == 0) refl parts.0) (λ k. good_value s p (suc c) vs x past parts.1 k)
  where
    Good : ℕ → ℕ → Type 0
    Good k w = (w ≡ 0) ⊎ ((nat_lt (value_at x.seen k) w ≡ true) × (was_asked s p k w past ≡ true))

    first : (b : Bool) → (v == 0) ≡ b → (b || (nat_lt (value_at x.seen c) v && was_asked s p c v past)) ≡ true → Good c v
    first true e h = inl (eqb-true v 0 e)
    first false e h = inr (both _ _ h)

    at : (i : ℕ) → Good c v → ((k : ℕ) → Good (suc c + k) (get_or vs k 0)) → Good (c + i) (get_or (v ∷ vs) i 0)
    at zero here later = let z : c + 0 ≡ c = omega arith in subst (λ (k : ℕ). Good k v) (sym z) here
    at (suc i) here later = let z : suc c + i ≡ c + suc i = omega arith in subst (λ (k : ℕ). Good k (get_or vs i 0)) z (later i)

-- so it may find each of its values
pub good_finds : (s : Script) (p : CpuNo) (vs : List ℕ) (past : List Event) → good_rises s p 0 vs (own_of s p past) past ≡ true → (c : ℕ) → c < 16 →
    MayFind s past p c (value_at vs c)
good_finds s p vs past g c l = go (good_value s p 0 vs (own_of s p past) past g c)
  where
    here : value_at (own_of s p past).seen (0 + c) ≡ seen s p c past
    here = let z : 0 + c ≡ c = omega arith in ap (value_at (own_of s p past).seen) z ∙ get_or-table 16 c (λ k. seen s p k past) 0 l

    go : (get_or vs c 0 ≡ 0)
        ⊎ ((nat_lt (value_at (own_of s p past).seen (0 + c)) (get_or vs c 0) ≡ true) × (was_asked s p (0 + c) (get_or vs c 0) past ≡ true)) →
        MayFind s past p c (value_at vs c)
    go (inl e) = inl e
    go (inr k) =
        let z : 0 + c ≡ c = omega arith in
        inr (asked_above s p c (seen s p c past) (get_or vs c 0) past (ap (λ (n : ℕ). nat_lt n (get_or vs c 0)) (sym here) ∙ k.0)
        (subst (λ (d : ℕ). was_asked s p d (get_or vs c 0) past ≡ true) z k.1))
