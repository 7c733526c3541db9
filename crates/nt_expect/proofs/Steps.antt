-- Steps of a reading, backwards and forwards.
use Rattle.std.proofs.Common.{◌≡◌, Bool, true, false, cond, Option, Some, None, Result, Ok, Err, refl, ap, subst}
use Rattle.nt_text.specs.declared.kind.ScriptKind.{ScriptKind}
use Rattle.nt_line.specs.Results.{◌>>=◌}

abbrev pub ok : {A : Type 0} → A → Result A ScriptKind
ok x = Ok x

-- a property of what is read, where it holds however the first step went
pub through : {A B : Type 0} (P : B → Type 0) (r : Result A ScriptKind) (f : A → Result B ScriptKind) (y : B) → (r >>= f) ≡ Ok y →
    ((x : A) → r ≡ Ok x → f x ≡ Ok y → P y) → P y
through P (Ok x) f y e k = k x refl e
through P (Err d) f y e k = absurd cc

-- what holds of a value holds of the result that gives it
pub made : {B : Type 0} (P : B → Type 0) (x y : B) → ok x ≡ Ok y → P x → P y
made P x y e h = let same : x ≡ y = cc in subst P same h

-- a step that went well
pub bind_is : {A B : Type 0} (r : Result A ScriptKind) (f : A → Result B ScriptKind) (x : A) → r ≡ Ok x → (r >>= f) ≡ f x
bind_is r f x e = ap (λ r. r >>= f) e

-- a test that guards a value
pub kept : {A : Type 0} (b : Bool) (o : Option A) (y : A) → cond b o None ≡ Some y → (b ≡ true) × (o ≡ Some y)
kept true o y e = (refl, e)
kept false o y e = absurd cc

-- a value that is given unless a test holds is there only if the test fails
pub missed : {A : Type 0} (b : Bool) (o : Option A) (y : A) → cond b None o ≡ Some y → (b ≡ false) × (o ≡ Some y)
missed false o y e = (refl, e)
missed true o y e = absurd cc
