-- What a test tells that answers the same as another one, or compares values.
use Rattle.std.proofs.Common.{subst, sym, ◌∙◌}
use Rattle.std.specs.Prelude.{Bool, false, true, ◌≡◌}
use Rattle.nt_history.proofs.Same.{Same}
use Rattle.nt_shows.specs.Tells.{Tells}

-- that false is true is absurd
clash : false ≡ true → ⊥
clash e = cc

-- a test that answers the same as another one tells whether that one is true
pub tells_equal : (a b : Bool) → a ≡ b → Tells a (b ≡ true)
tells_equal true b e = sym e
tells_equal false b e = λ h. clash (e ∙ h)

-- a comparison that finds a value equal to itself, and no others
pub tells_same : {A : Type 0} (f : A → A → Bool) → Same f → ((x : A) → f x x ≡ true) → (x y : A) (b : Bool) → b ≡ f x y → Tells b (x ≡ y)
tells_same f same self x y true e = same x y (sym e)
tells_same {A} f same self x y false e = λ k. clash (e ∙ subst (λ (z : A). f x z ≡ true) k (self x))
