-- Steps of a reading, backwards.
use Rattle.std.proofs.Common.{◌≡◌, ◌<◌, ℕ, Bool, true, false, cond, List, [], ◌∷◌, length, Option, Some, None, Result, Ok, Err, refl, subst, arith}
use Rattle.nt_text.specs.declared.kind.ScriptKind.{ScriptKind}
use Rattle.nt_text.specs.declared.kind.ScriptKind.TheVariants.{ExtraField}
use Rattle.nt_text.specs.Lines.{Row}
use Rattle.nt_line.specs.Results.{◌>>=◌}
use Rattle.nt_line.proofs.FieldTexts.{Takes}
use Rattle.nt_report.specs.Fields.{at_end, one_field}

abbrev pub ok : {A : Type 0} → A → Result A ScriptKind
ok x = Ok x

-- a property of what is read, where it holds however the first step went
pub through : {A B : Type 0} (P : B → Type 0) (r : Result A ScriptKind) (f : A → Result B ScriptKind) (y : B) → (r >>= f) ≡ Ok y →
    ((x : A) → r ≡ Ok x → f x ≡ Ok y → P y) → P y
through P (Ok x) f y e k = k x refl e
through P (Err d) f y e k = absurd cc

-- if two readings of a line have equal results, what holds of the one value holds of the other
pub made : {B : Type 0} (P : B → Type 0) (x y : B) → ok x ≡ Ok y → P x → P y
made P x y e h = let same : x ≡ y = cc in subst P same h

-- one field
pub one_ok : {A : Type 0} (read : List ℕ → Result A ScriptKind) (row : Row) (y : A × Row) → one_field read row ≡ Ok y → (f : List ℕ) × (read f ≡ Ok y.0)
one_ok read [] y e = absurd cc
one_ok {A = A} read (f ∷ fs) y e =
    through (λ (y : A × Row). (f : List ℕ) × (read f ≡ Ok y.0)) (read f) (λ x. Ok (x, fs)) y e
    (λ x is then. made (λ (y : A × Row). (f : List ℕ) × (read f ≡ Ok y.0)) (x, fs) y then (f, is))

-- what a reader of a field gives
pub one_fits : {A : Type 0} {read : List ℕ → Result A ScriptKind} {show : A → List ℕ} {Fits : A → Type 0} → Takes read show Fits → (row : Row) (y : A × Row) →
    one_field read row ≡ Ok y → Fits y.0
one_fits {read = read} t row y e = let o = one_ok read row y e in t.fits o.0 y.0 o.1

-- if a row is at its end as it has to be, the value that is read is the one given
pub end_ok : {A : Type 0} (x y : A) (row : Row) → at_end x row ≡ Ok y → x ≡ y
end_ok x y [] e = cc
end_ok x y (f ∷ fs) e = absurd cc

-- a field that is left is one too many
pub extra : {A : Type 0} (x : A) (row : Row) → 0 < length row → at_end x row ≡ Err ExtraField
extra x [] more = absurd (omega (arith, more))
extra x (f ∷ fs) more = refl

-- a test that guards a value
pub kept : {A : Type 0} (b : Bool) (o : Option A) (y : A) → cond b o None ≡ Some y → (b ≡ true) × (o ≡ Some y)
kept true o y e = (refl, e)
kept false o y e = absurd cc

-- if a choice between nothing and an option gives a value, the option has that value
pub missed : {A : Type 0} (b : Bool) (o : Option A) (y : A) → cond b None o ≡ Some y → o ≡ Some y
missed false o y e = e
missed true o y e = absurd cc

-- readings of whole texts
pub not_ok : {A E X : Type 0} (d : E) (y : A) → ◌≡◌ {A = Result A E} (Err d) (Ok y) → X
not_ok d y e = absurd cc

-- if two results of any kind are equal, what holds of the one value holds of the other
pub ok_is : {A E : Type 0} (P : A → Type 0) (x y : A) → ◌≡◌ {A = Result A E} (Ok x) (Ok y) → P x → P y
ok_is P x y e h = let same : x ≡ y = cc in subst P same h
