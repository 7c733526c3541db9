-- Numbers beside events, and events of briefs.
use Rattle.std.proofs.Common.{ap, arith, refl}
use Rattle.std.proofs.lemmas.Slice.Zip.{get_or-zip, length-zip}
use Rattle.std.specs.List.{slice_get, zip}
use Rattle.nt_event.specs.declared.events.Rises.{Rises}
use Rattle.nt_history.specs.Briefs.{no_rises, what_of}
use Rattle.nt_history.specs.declared.brief.Did.{Did}
use Rattle.nt_history.specs.declared.brief.Did.TheVariants as did
use Rattle.nt_history.specs.declared.brief.Noticed.{Noticed}
use Rattle.std.specs.Prelude.{Err, List, Ok, OnOk, Result, Some, [], get_or, length, map, suc, zero, ℕ, ◌++◌, ◌<◌, ◌∷◌, ◌≡◌}

-- a list beside one as long is as long
pub zip_long : {A B : Type 0} (xs : List A) (ys : List B) → length ys ≡ length xs → length (zip xs ys) ≡ length xs
zip_long xs ys e = let z = length-zip xs ys in omega (arith, z, e)

-- one more behind each of two lists is one more pair behind their pairs
pub zip_more : {A B : Type 0} (xs : List A) (ys : List B) (x : A) (y : B) → length ys ≡ length xs →
    zip (xs ++ x ∷ []) (ys ++ y ∷ []) ≡ zip xs ys ++ (x, y) ∷ []
zip_more [] [] x y e = refl
zip_more [] (b ∷ ys) x y e = absurd (omega (arith, e))
zip_more (a ∷ xs) [] x y e = absurd (omega (arith, e))
zip_more {A} {B} (a ∷ xs) (b ∷ ys) x y e = ap (λ (zs : List (A × B)). (a, b) ∷ zs) (zip_more xs ys x y (omega (arith, e)))

-- what stands at a place of two lists
pub zip_at : {A B : Type 0} (xs : List A) (ys : List B) (i : ℕ) (d : A × B) → length ys ≡ length xs → i < length (zip xs ys) →
    get_or (zip xs ys) i d ≡ (get_or xs i d.0, get_or ys i d.1)
zip_at xs ys i d e l =
    let z = zip_long xs ys e in
    get_or-zip xs ys i d (omega (arith, z, l)) (omega (arith, z, l, e))

-- what a list gives at a place is what stands there
pub got : {A : Type 0} (xs : List A) (i : ℕ) (d x : A) → slice_get xs i ≡ Some x → get_or xs i d ≡ x
got [] i d x e = cc
got (y ∷ xs) zero d x e = cc
got (y ∷ xs) (suc i) d x e = got xs i d x e

-- what stands at a place of a list that was mapped
pub map_at : {A B : Type 0} (f : A → B) (xs : List A) (i : ℕ) (d : A) (e : B) → i < length xs → get_or (map f xs) i e ≡ f (get_or xs i d)
map_at f [] i d e l = absurd (omega (arith, l))
map_at f (x ∷ xs) zero d e l = refl
map_at f (x ∷ xs) (suc i) d e l = map_at f xs i d e (omega (arith, l))

-- what is no look is the same whatever the values of a look
pub no_look : (r : Rises) (d : Did) → ((k : Noticed) → d ≡ did.Look k → ⊥) → what_of r d ≡ what_of no_rises d
no_look r (did.Look k) h = absurd (h k refl)
no_look r (did.Call c y f) h = refl
no_look r (did.Begin b from) h = refl
no_look r (did.Normal f) h = refl
no_look r (did.End f) h = refl
no_look r (did.Expire key from) h = refl
no_look r (did.Fire d y) h = refl
no_look r (did.Clean class) h = refl
no_look r (did.Switch t status) h = refl
no_look r (did.Rewait f y) h = refl
no_look r (did.Flush a from) h = refl
no_look r (did.Gone t) h = refl
no_look r (did.Free f l) h = refl
no_look r did.Rest h = refl

-- what holds once it went well follows from what held
pub from_ok : {T E : Type 0} (r : Result T E) (A B : Type 0) → OnOk r A → (A → B) → OnOk r B
from_ok (Ok x) A B h f = f h
from_ok (Err e) A B h f = _
