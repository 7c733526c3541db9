-- What a derived comparison of enums answers: values that it finds equal are the same.
use Rattle.std.proofs.Common.{ap, inl, inr}
use Rattle.std.proofs.lemmas.Bool.{eqb-true}
use Rattle.std.specs.Option.{option_eq}
use Rattle.std.specs.Prelude.{Bool, List, None, Some, [], false, refl, true, ℕ, ◌&&◌, ◌==◌, ◌∷◌, ◌≡◌}
use Rattle.nt_event.proofs.Options.{both}
use denote.Enum.Compared.{Each, by}
use denote.Enum.Declared.{Record, values_one}
use denote.Struct.Field.{Field}

-- values that the test finds equal are the same
abbrev pub Same : {A : Type 0} → (A → A → Bool) → Type 0
Same {A} f = (x y : A) → f x y ≡ true → x ≡ y

-- so for each variant
abbrev pub Sames : (Fss : List (List Field)) → Each Bool Fss → Type 0
Sames [] each = Unit {0}
Sames (Fs ∷ Fss) each = Same each.0 × Sames Fss each.1

-- values of one of several variants that are found equal are the same, if this is so for each variant
by_same : (Fss : List (List Field)) (each : Each Bool Fss) → Sames Fss each → Same (by false false Fss each)
by_same [] each s c d h = absurd c
by_same (Fs ∷ Fss) each s (inl x) (inl y) h = ap inl (s.0 x y h)
by_same (Fs ∷ Fss) each s (inl x) (inr y) h = absurd cc
by_same (Fs ∷ Fss) each s (inr x) (inl y) h = absurd cc
by_same (Fs ∷ Fss) each s (inr x) (inr y) h = ap inr (by_same Fss each.1 s.1 x y h)

-- enum values found equal are the same, if this is so for the fields of each variant
pub enum_same : (N : Record) (each : Each Bool N.parts) → Sames N.parts each → Same (λ a b. by false false N.parts each (N.as_values a) (N.as_values b))
enum_same N each s a b h = values_one N a b (by_same N.parts each s (N.as_values a) (N.as_values b) h)

-- ---- fields

-- two values of a variant without fields are the same
pub none_same : Same (λ (x y : Unit {0}). true)
none_same x y h = refl

-- values of a variant with one field that are found equal are the same, if this is so for the field
pub one_same : {A : Type 0} {f : A → A → Bool} → Same f → Same (λ (x y : A × Unit {0}). f x.0 y.0)
one_same a x y h = ap (λ z. (z, tt)) (a x.0 y.0 h)

-- values of a variant with two fields that are found equal are the same, if this is so for both fields
pub two_same : {A B : Type 0} {f : A → A → Bool} {g : B → B → Bool} → Same f → Same g →
    Same (λ (x y : A × (B × Unit {0})). f x.0 y.0 && g x.1.0 y.1.0)
two_same {A} {B} {f} {g} a b x y h =
    let t = both (f x.0 y.0) (g x.1.0 y.1.0) h in
    let p = a x.0 y.0 t.0 in
    let q = b x.1.0 y.1.0 t.1 in
    λ i. (p i, (q i, tt))

-- values of a variant with three fields that are found equal are the same, if this is so for each field
pub three_same : {A B C : Type 0} {f : A → A → Bool} {g : B → B → Bool} {k : C → C → Bool} → Same f → Same g → Same k →
    Same (λ (x y : A × (B × (C × Unit {0}))). f x.0 y.0 && (g x.1.0 y.1.0 && k x.1.1.0 y.1.1.0))
three_same {A} {B} {C} {f} {g} {k} a b c x y h =
    let t = both (f x.0 y.0) (g x.1.0 y.1.0 && k x.1.1.0 y.1.1.0) h in
    let u = both (g x.1.0 y.1.0) (k x.1.1.0 y.1.1.0) t.1 in
    let p = a x.0 y.0 t.0 in
    let q = b x.1.0 y.1.0 u.0 in
    let r = c x.1.1.0 y.1.1.0 u.1 in
    λ i. (p i, (q i, (r i, tt)))

-- natural numbers that are found equal are the same
pub nat_same : Same (λ (x y : ℕ). x == y)
nat_same x y h = eqb-true x y h

-- options that are found equal are the same, if this is so for their values
pub option_same : {A : Type 0} {f : A → A → Bool} → Same f → Same (option_eq f)
option_same a None None h = refl
option_same a None (Some y) h = absurd cc
option_same a (Some x) None h = absurd cc
option_same a (Some x) (Some y) h = ap (λ z. Some z) (a x y h)

-- a test of two truth values that fails where they differ finds only the same ones equal
pub bool_same : (f : Bool → Bool → Bool) → f true false ≡ false → f false true ≡ false → Same f
bool_same f a b true true h = refl
bool_same f a b true false h = absurd (let k = a in cc)
bool_same f a b false true h = absurd (let k = b in cc)
bool_same f a b false false h = refl
