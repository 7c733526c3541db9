-- The greatest number below another that passes a test.
use Rattle.std.proofs.Common.{ap, arith, sym, ◌∙◌}
use Rattle.std.proofs.lemmas.Bool.Decides.{nat_tests}
use Rattle.std.proofs.lemmas.Bool.{eqb-true}
use Rattle.std.proofs.Math.ListN.{get_or-eq_default}
use Rattle.std.specs.Prelude.{Bool, List, None, Some, false, get_or, if◌then◌else◌, length, refl, suc, true, zero, ℕ, ◌<◌, ◌==◌, ◌≡◌, ◌≢◌}
use Rattle.nt_shrink.specs.Searches.{IsMissed}
use Rattle.nt_shrink.specs.Spare.{greatest_below}

-- where none passes, each fails
pub none_passes : (test : ℕ → Bool) (n : ℕ) → greatest_below test n ≡ None → (at : ℕ) → at < n → test at ≡ false
none_passes test zero h at l = absurd (omega (arith, l))
none_passes test (suc n) h at l = go (test n) refl h (λ k m. none_passes test n k at m)
  where
    go : (b : Bool) → test n ≡ b → (if b then Some n else greatest_below test n) ≡ None → (greatest_below test n ≡ None → at < n → test at ≡ false) →
        test at ≡ false
    go true e h ih = absurd cc
    go false e h ih = here (at == n) refl
      where
        here : (c : Bool) → (at == n) ≡ c → test at ≡ false
        here true k = ap test (eqb-true at n k) ∙ e
        here false k = ih h (let j : at ≢ n = grind (arith, nat_tests) in omega (arith, l, j))

-- the one that passes
pub one_passes : (test : ℕ → Bool) (n at : ℕ) → greatest_below test n ≡ Some at → (at < n) × (test at ≡ true)
one_passes test zero at h = absurd cc
one_passes test (suc n) at h = go (test n) refl h (λ k. one_passes test n at k)
  where
    go : (b : Bool) → test n ≡ b → (if b then Some n else greatest_below test n) ≡ Some at → (greatest_below test n ≡ Some at → (at < n) × (test at ≡ true)) →
        (at < suc n) × (test at ≡ true)
    go true e h ih =
        let i : n ≡ at = cc in
        (omega (arith, i), ap test (sym i) ∙ e)
    go false e h ih = let r = ih h in let l = r.0 in (omega (arith, l), r.1)

-- a number that fails is passed over
pub fails_over : (test : ℕ → Bool) (n m : ℕ) → n ≡ suc m → test m ≡ false → greatest_below test n ≡ greatest_below test m
fails_over test n m h f =
    ap (greatest_below test) h ∙ ap (λ (b : Bool). if b then Some m else greatest_below test m) f

-- if the number just below passes the test, it is the greatest that passes
pub passes_here : (test : ℕ → Bool) (n m : ℕ) → n ≡ suc m → test m ≡ true → greatest_below test n ≡ Some m
passes_here test n m h f =
    ap (greatest_below test) h ∙ ap (λ (b : Bool). if b then Some m else greatest_below test m) f

-- ---- a scan from the back that passes over twins

-- at the start of a search from the back no number has been passed over yet
pub missed_first : (test : ℕ → Bool) (n : ℕ) (twins : List Bool) → length twins ≡ n → IsMissed test n twins n
missed_first test n twins h = record {
  left = refl;
  missed = λ k. (let e : get_or twins n false ≡ false = get_or-eq_default twins false (omega (arith, h)) in absurd cc);
}

-- a number that fails the test is passed over by the search from the back
pub missed_next : (test : ℕ → Bool) (n : ℕ) (twins : List Bool) (count at : ℕ) → IsMissed test n twins count → count ≡ suc at → test at ≡ false →
    IsMissed test n twins at
missed_next test n twins count at h e f = record {
  left = h.left ∙ fails_over test count at e f;
  missed = λ k. f;
}
