-- Looks that were put together class by class: which of them are there.
use Rattle.std.proofs.Common.{ap, arith, inl, inr, subst, sym, ◌∙◌}
use Rattle.std.proofs.lemmas.Bool.{eqb-false, eqb-true, le-ltb, lt-ltb, ltb-false, ltb-true}
use Rattle.std.proofs.lemmas.List.{get_or-set_other, get_or-set_same, length-set}
use Rattle.std.proofs.lemmas.List.Elements.{Contains-append_left, Contains-append_right}
use Rattle.std.specs.List.{flat_map}
use Rattle.std.specs.Prelude.{Bool, Contains, List, [], false, get_or, if◌then◌else◌, length, map, nat_lt, refl, replicate, set, true, ℕ}
use Rattle.std.specs.Prelude.{◌+◌, ◌<◌, ◌==◌, ◌∷◌, ◌≡◌, ◌⊎◌}
use Rattle.nt_event.specs.declared.events.Event.{Event}
use Rattle.nt_event.specs.declared.events.Rises.{Rises}
use Rattle.nt_event.specs.declared.numbers.CpuNo.{CpuNo}
use Rattle.nt_event.specs.declared.scripts.Script.{Script}
use Rattle.nt_event.specs.Lists.{table, table_from, value_at}
use Rattle.nt_event.proofs.Elements.{contains_cases, contains_here, contains_mapped, contains_none, contains_there}
use Rattle.nt_event.proofs.Tables.{get_or-table, is_table, length-table_from, table-same, table-self}
use Rattle.nt_ahead.specs.Choices.{with_value, with_values}
use Rattle.nt_ahead.specs.Finds.{HasAllFinds, MayFind, values_ahead}

-- ---- elements of the lists that are joined

-- what the list of one of them has the joined list has
pub among_joined : {X Y : Type 0} (f : X → List Y) (xs : List X) (x : X) (y : Y) → Contains xs x → Contains (f x) y → Contains (flat_map f xs) y
among_joined f [] x y h k = contains_none x h
among_joined {X} f (z ∷ xs) x y h k =
    elim (contains_cases z xs x h) [
      | inl same ↦ Contains-append_left (f z) (flat_map f xs) y (subst (λ (w : X). Contains (f w) y) (sym same) k)
      | inr there ↦ Contains-append_right (f z) (flat_map f xs) y (among_joined f xs x y there k)
    ]

-- ---- choices for the classes below one

-- these values of the classes below this one, and 0 of the others
abbrev pub below : ℕ → (ℕ → ℕ) → ℕ → ℕ
below k f c = if nat_lt c k then f c else 0

abbrev pub chosen : ℕ → (ℕ → ℕ) → Rises
chosen k f = record { value = table 16 (below k f) }

-- of no class anything
pub chosen_none : (f : ℕ → ℕ) → chosen 0 f ≡ record { value = replicate 16 0 }
unfolding table_from
chosen_none f = refl

-- of all classes
chosen_all : (f : ℕ → ℕ) → chosen 16 f ≡ record { value = table 16 f }
unfolding table_from
chosen_all f = refl

module _ (k : ℕ) (f : ℕ → ℕ) where
  below_here : nat_lt k (k + 1) ≡ true
  below_here = lt-ltb k (k + 1) (omega arith)

  -- another class is below this one and the next, or below neither
  below_other : (i : ℕ) → (k == i) ≡ false → below (k + 1) f i ≡ below k f i
  below_other i e = go (nat_lt i k) refl
    where
      go : (b : Bool) → nat_lt i k ≡ b → below (k + 1) f i ≡ below k f i
      go true h =
          let l = ltb-true i k h in
          let m : nat_lt i (k + 1) ≡ true = lt-ltb i (k + 1) (omega (arith, l)) in rw (h, m) refl
      go false h =
          let l = ltb-false i k h in
          let m : nat_lt i (k + 1) ≡ false = le-ltb i (k + 1) (let n = eqb-false k i e in omega (arith, l, n)) in rw (h, m) refl

  below_this : (i : ℕ) → (k == i) ≡ true → below (k + 1) f i ≡ f k
  below_this i e =
      let q = eqb-true k i e in
      let m = below_here in rw (← q, m) refl

  -- where nothing is found of the class, the choice is as before
  chosen_zero : f k ≡ 0 → chosen (k + 1) f ≡ chosen k f
  chosen_zero z = let same = table-same 16 (below (k + 1) f) (below k f) (λ i l. go i (k == i) refl) in rw same refl
    where
      not_below : nat_lt k k ≡ false
      not_below = le-ltb k k (omega arith)

      go : (i : ℕ) (b : Bool) → (k == i) ≡ b → below (k + 1) f i ≡ below k f i
      go i true e =
          let q = eqb-true k i e in
          let n = not_below in
          let here : below k f i ≡ 0 = rw (← q, n) refl in
          below_this i e ∙ z ∙ sym here
      go i false e = below_other i e

  -- else it is the one before with the value of the class
  chosen_value : k < 16 → chosen (k + 1) f ≡ with_value k (chosen k f) (f k)
  chosen_value l =
      let xs = table 16 (below k f) in
      let long : length xs ≡ 16 = length-table_from 0 16 (below k f) in
      let same = is_table (set xs k (f k)) 16 (below (k + 1) f) (length-set xs k (f k) ∙ long) (λ i m. go i m (k == i) refl) in
      rw same refl
    where
      go : (i : ℕ) → i < 16 → (b : Bool) → (k == i) ≡ b → get_or (set (table 16 (below k f)) k (f k)) i 0 ≡ below (k + 1) f i
      go i m true e =
          let q = eqb-true k i e in
          let long : length (table 16 (below k f)) ≡ 16 = length-table_from 0 16 (below k f) in
          let s = get_or-set_same (table 16 (below k f)) k (f k) 0 (omega (arith, long, l)) in
          subst (λ (j : ℕ). get_or (set (table 16 (below k f)) k (f k)) j 0 ≡ f k) q s ∙ sym (below_this i e)
      go i m false e =
          get_or-set_other (table 16 (below k f)) k i (f k) 0 (λ q. eqb-false k i e (sym q)) ∙ get_or-table 16 i (below k f) 0 m
          ∙ sym (below_other i e)

  -- so the choice is there once each look before has been taken with each value of the class
  pub chosen_on : (values : List ℕ) (looks : List Rises) → k < 16 → Contains looks (chosen k f) → (f k ≡ 0) ⊎ Contains values (f k) →
      Contains (flat_map (with_values k values) looks) (chosen (k + 1) f)
  chosen_on values looks l h (inl z) =
      let here = contains_here (chosen k f) (map (with_value k (chosen k f)) values) in
      subst (Contains (flat_map (with_values k values) looks)) (sym (chosen_zero z))
      (among_joined (with_values k values) looks (chosen k f) (chosen k f) h here)
  chosen_on values looks l h (inr v) =
      let mapped = contains_mapped (with_value k (chosen k f)) values (f k) v in
      let there = contains_there (chosen k f) (map (with_value k (chosen k f)) values) (with_value k (chosen k f) (f k)) mapped in
      subst (Contains (flat_map (with_values k values) looks)) (sym (chosen_value l))
      (among_joined (with_values k values) looks (chosen k f) (with_value k (chosen k f) (f k)) h there)

-- ---- what may be found after a history

-- each choice of what may be found is there, as far as the classes below this one go
abbrev pub HasChosen : Script → List Event → CpuNo → ℕ → List Rises → Type 0
HasChosen s past p k looks = (f : ℕ → ℕ) → ((c : ℕ) → c < 16 → MayFind s past p c (f c)) → Contains looks (chosen k f)

module _ (s : Script) (past : List Event) (p : CpuNo) where
  -- the look that finds nothing is a choice for no class
  pub chosen_first : (looks : List Rises) → Contains looks (record { value = replicate 16 0 }) → HasChosen s past p 0 looks
  chosen_first looks h f may = subst (Contains looks) (sym (chosen_none f)) h

  -- a class more
  pub chosen_more : (k : ℕ) (values : List ℕ) (looks more : List Rises) → k < 16 → values ≡ values_ahead s past p k →
      more ≡ flat_map (with_values k values) looks → HasChosen s past p k looks → HasChosen s past p (k + 1) more
  chosen_more k values looks more l v m h f may =
      subst (λ (all : List Rises). Contains all (chosen (k + 1) f)) (sym m) (chosen_on k f values looks l (h f may) (at (may k l)))
    where
      at : MayFind s past p k (f k) → (f k ≡ 0) ⊎ Contains values (f k)
      at (inl z) = inl z
      at (inr there) = inr (subst (λ (all : List ℕ). Contains all (f k)) (sym v) there)

  -- once all classes were chosen, each choice of what may be found is there
  pub chosen_whole : (looks : List Rises) → HasChosen s past p 16 looks → HasAllFinds s past p looks
  chosen_whole looks h r long may =
      let f = value_at r.value in
      let same : table 16 f ≡ r.value = table-self 0 16 r.value f long (λ i l. refl) in
      subst (Contains looks) (chosen_all f ∙ ap (λ (values : List ℕ). record { value = values }) same) (h f may)
