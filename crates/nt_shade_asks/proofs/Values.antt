-- The values by which a processor was asked: which of them stand above a value, and how many.
use Rattle.std.proofs.Common.{ap, arith, sym, ◌∙◌}
use Rattle.std.proofs.lemmas.Bool.{le-ltb, lt-ltb, ltb-false, ltb-true}
use Rattle.std.proofs.lemmas.List.{length-append}
use Rattle.std.proofs.lemmas.List.Elements.{filter-append}
use Rattle.std.proofs.lemmas.List.Sums.{length-filter}
use Rattle.std.specs.List.{count_by}
use Rattle.std.specs.Prelude.{Bool, List, [], false, filter, length, max, nat_lt, refl, true, ℕ, ◌&&◌, ◌++◌, ◌+◌, ◌∷◌, ◌≡◌, ◌≤◌}
use Rattle.nt_event.specs.declared.events.Event.{Event}
use Rattle.nt_event.specs.declared.numbers.CpuNo.{CpuNo}
use Rattle.nt_event.specs.declared.scripts.Script.{Script}
use Rattle.nt_event.specs.Requests.{asks}
use Rattle.nt_alike.specs.Alike.{count_if, newer}
use Rattle.nt_shade_asks.specs.Values.{value_if, values_above}

-- of two bounds on a value the greater one decides
both_below : (u t m : ℕ) → (nat_lt u m && nat_lt t m) ≡ nat_lt (max u t) m
both_below u t m = go (nat_lt u m) refl (nat_lt t m) refl
  where
    go : (a : Bool) → nat_lt u m ≡ a → (b : Bool) → nat_lt t m ≡ b → (a && b) ≡ nat_lt (max u t) m
    go true h true k =
        let x = ltb-true u m h in
        let y = ltb-true t m k in
        sym (lt-ltb (max u t) m (omega (arith, x, y)))
    go true h false k = let y = ltb-false t m k in sym (le-ltb (max u t) m (omega (arith, y)))
    go false h b k = let x = ltb-false u m h in sym (le-ltb (max u t) m (omega (arith, x)))

-- a value that may be left out stays where it is above the bound too
filter_one : (a b : Bool) (t m : ℕ) → filter (nat_lt t) (value_if (a && b) m) ≡ value_if (a && (b && nat_lt t m)) m
filter_one false b t m = refl
filter_one true false t m = refl
filter_one true true t m = go (nat_lt t m) refl
  where
    go : (b : Bool) → nat_lt t m ≡ b → filter (nat_lt t) (m ∷ []) ≡ value_if (nat_lt t m) m
    go true h = rw h refl
    go false h = rw h refl

module _ (s : Script) (p : CpuNo) (c : ℕ) where
  -- of the values above one those above another stand above both
  pub filter_above : (u t : ℕ) (past : List Event) → filter (nat_lt t) (values_above s p c u past) ≡ values_above s p c (max u t) past
  filter_above u t [] = refl
  filter_above u t (e ∷ past) =
      let m = length past + 1 in
      let a = asks s p c e past in
      filter-append (nat_lt t) (values_above s p c u past) (value_if (a && nat_lt u m) m)
      ∙ ap (λ (xs : List ℕ). xs ++ filter (nat_lt t) (value_if (a && nat_lt u m) m)) (filter_above u t past)
      ∙ ap (λ (xs : List ℕ). values_above s p c (max u t) past ++ xs)
      (filter_one a (nat_lt u m) t m ∙ ap (λ (b : Bool). value_if (a && b) m) (both_below u t m))

  -- none is above the length of the history
  pub none_above : (v : ℕ) (past : List Event) → length past ≤ v → values_above s p c v past ≡ []
  none_above v [] h = refl
  none_above v (e ∷ past) h =
      let a = none_above v past (omega (arith, h)) in
      let l : nat_lt v (length past + 1) ≡ false = le-ltb v (length past + 1) (omega (arith, h)) in
      rw (l, a) (no_value (asks s p c e past))
    where
      no_value : (b : Bool) → [] ++ value_if (b && false) (length past + 1) ≡ []
      no_value true = refl
      no_value false = refl

  length_one : (b : Bool) (m : ℕ) → length (value_if b m) ≡ count_if b
  length_one true m = refl
  length_one false m = refl

  -- there are as many as events asked by a value above it
  pub length_above : (v : ℕ) (past : List Event) → length (values_above s p c v past) ≡ newer s p c v past
  length_above v [] = refl
  length_above v (e ∷ past) =
      let b = asks s p c e past && nat_lt v (length past + 1) in
      let x = length-append (values_above s p c v past) (value_if b (length past + 1)) in
      let y = length_one b (length past + 1) in
      let z = length_above v past in
      let w : length (values_above s p c v past) + length (value_if b (length past + 1)) ≡ count_if b + newer s p c v past = omega (arith, y, z) in
      x ∙ w

  -- so it is of those that a lane leaves
  pub count_above : (u t : ℕ) (past : List Event) → count_by (nat_lt t) (values_above s p c u past) ≡ newer s p c (max u t) past
  count_above u t past =
      sym (length-filter (nat_lt t) (values_above s p c u past))
      ∙ ap length (filter_above u t past)
      ∙ length_above (max u t) past

  one_at_most : (b : Bool) (m : ℕ) → length (value_if b m) ≤ 1
  one_at_most true m = omega arith
  one_at_most false m = omega arith

  -- there are no more than events
  pub few_above : (v : ℕ) (past : List Event) → length (values_above s p c v past) ≤ length past
  few_above v [] = omega arith
  few_above v (e ∷ past) =
      let b = asks s p c e past && nat_lt v (length past + 1) in
      let x = length-append (values_above s p c v past) (value_if b (length past + 1)) in
      let y = one_at_most b (length past + 1) in
      let z = few_above v past in
      omega (arith, x, y, z)
