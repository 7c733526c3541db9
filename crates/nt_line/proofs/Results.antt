-- Steps that may fail, backwards.
use Rattle.std.proofs.Common.{◌≡◌, Bool, true, false, Option, Some, None, Result, Ok, Err, refl}
use Rattle.nt_text.specs.declared.kind.ScriptKind.{ScriptKind}
use Rattle.nt_line.specs.Results.{◌>>=◌, or_error, ok_if}

-- the value of a step that did not fail
pub record Bound {A B : Type 0} (r : Result A ScriptKind) (f : A → Result B ScriptKind) (y : B) : Type 0 where
  pub value : A
  pub is : r ≡ Ok value
  pub then : f value ≡ Ok y

-- two steps that give a value together: the first gives a value, and the second gives the result from it
pub bind_ok : {A B : Type 0} (r : Result A ScriptKind) (f : A → Result B ScriptKind) (y : B) → (r >>= f) ≡ Ok y → Bound r f y
bind_ok (Ok x) f y e = record { value = x; is = refl; then = e }
bind_ok (Err d) f y e = absurd cc

-- if a value or else an error gives a value, that value was there
pub or_error_ok : {A : Type 0} (k : ScriptKind) (o : Option A) (y : A) → or_error k o ≡ Ok y → o ≡ Some y
or_error_ok k (Some x) y e = cc
or_error_ok k None y e = absurd cc

-- a value under a condition that is given is that value, and the condition holds
pub ok_if_ok : {A : Type 0} (b : Bool) (x : A) (k : ScriptKind) (y : A) → ok_if b x k ≡ Ok y → (b ≡ true) × (x ≡ y)
ok_if_ok true x k y e = (refl, cc)
ok_if_ok false x k y e = absurd cc
