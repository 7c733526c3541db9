-- Where a set key is put in among the keys of a shade.
use Rattle.std.proofs.Common.{ap, cond}
use Rattle.std.specs.List.{insert}
use Rattle.std.specs.Prelude.{Bool, List, [], false, nat_lt, refl, suc, true, zero, ◌∷◌, ◌≡◌}
use Rattle.nt_shade_dpcs.specs.declared.timers.ShadeKey.{ShadeKey}
use Rattle.nt_shade_dpcs.specs.Keys.{place_for, placed}

-- inserting a key before a list with one element in front, from inserting it into the rest
insert_step : (v x : ShadeKey) (xs : List ShadeKey) → insert xs (place_for v.due xs) v ≡ placed (λ x. x.due) v xs → (b : Bool) →
    insert (x ∷ xs) (cond b zero (suc (place_for v.due xs))) v ≡ cond b (v ∷ x ∷ xs) (x ∷ placed (λ x. x.due) v xs)
insert_step v x xs rest true = refl
insert_step v x xs rest false = ap (λ (ys : List ShadeKey). x ∷ ys) rest

-- inserting a key at its place by due time gives the list that has it after all that are not due later
pub insert_is : (v : ShadeKey) (xs : List ShadeKey) → insert xs (place_for v.due xs) v ≡ placed (λ x. x.due) v xs
insert_is v [] = refl
insert_is v (x ∷ xs) = insert_step v x xs (insert_is v xs) (nat_lt v.due x.due)
