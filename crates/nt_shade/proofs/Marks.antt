-- Lists of marked numbers, one number more.
use Rattle.std.proofs.Common.{ap, append-nil, arith, sym, ◌∙◌}
use Rattle.std.specs.Prelude.{Bool, List, [], false, suc, true, ℕ, ◌++◌, ◌+◌, ◌-◌, ◌∷◌, ◌≡◌, ◌≤◌}
use Rattle.nt_event.specs.declared.numbers.CpuNo.{CpuNo}
use Rattle.nt_plain.specs.States.{PlainState, view_of}
use Rattle.nt_shade_asks.specs.Values.{value_if}
use Rattle.nt_shade.specs.Asks.{marked_from}

module _ (f : PlainState) (p : CpuNo) (c low n : ℕ) (old : List ℕ) (from : low ≤ n) (are : old ≡ marked_from f p c low (n - low)) where
  one_more : (b : Bool) → (view_of f).marked n p c ≡ b → old ++ value_if b (n + 1) ≡ marked_from f p c low (n + 1 - low)
  one_more b m =
      let count : n + 1 - low ≡ suc (n - low) = omega (arith, from) in
      let at : low + (n - low) ≡ n = omega (arith, from) in
      ap (λ (xs : List ℕ). xs ++ value_if b (n + 1)) are
      ∙ ap (λ (x : Bool). marked_from f p c low (n - low) ++ value_if x (n + 1)) (sym m)
      ∙ ap (λ (k : ℕ). marked_from f p c low (n - low) ++ value_if ((view_of f).marked k p c) (k + 1)) (sym at)
      ∙ ap (marked_from f p c low) (sym count)

  -- a number that is marked
  pub marked_one : (new : List ℕ) → (view_of f).marked n p c ≡ true → new ≡ old ++ (n + 1) ∷ [] → new ≡ marked_from f p c low (n + 1 - low)
  marked_one new m e = e ∙ one_more true m

  -- one that is not
  pub unmarked_one : (new : List ℕ) → (view_of f).marked n p c ≡ false → new ≡ old → new ≡ marked_from f p c low (n + 1 - low)
  unmarked_one new m e = e ∙ sym (append-nil old) ∙ one_more false m
