-- Lists of which something holds of one, or of each.
use Rattle.std.proofs.Common.{inl, inr}
use Rattle.std.specs.Prelude.{List, [], ◌∷◌}
use Rattle.nt_alike.specs.Lists.{Among, Each}

-- what follows from whichever one it holds of
pub at_one : {S : Type 0} (P : S → Type 0) (all : List S) (X : Type 0) → Among P all → ((x : S) → P x → X) → X
at_one P [] X k then = absurd k
at_one P (x ∷ xs) X (inl k) then = then x k
at_one P (x ∷ xs) X (inr k) then = at_one P xs X k then

-- the same, where something else holds of each
pub found : {S : Type 0} (P Q : S → Type 0) (all : List S) (X : Type 0) → Each P all → Among Q all → ((x : S) → P x → Q x → X) → X
found P Q [] X h k then = absurd k
found P Q (x ∷ xs) X h (inl k) then = then x h.0 k
found P Q (x ∷ xs) X h (inr k) then = found P Q xs X h.1 k then

-- if a property holds of one of a list and implies another, the other holds of one of the list
pub among_map : {S : Type 0} (P Q : S → Type 0) (all : List S) → ((x : S) → P x → Q x) → Among P all → Among Q all
among_map P Q [] f k = k
among_map P Q (x ∷ xs) f (inl k) = inl (f x k)
among_map P Q (x ∷ xs) f (inr k) = inr (among_map P Q xs f k)

-- if a property holds of each of a list and implies another, the other holds of each of the list
pub each_map : {S : Type 0} (P Q : S → Type 0) (all : List S) → ((x : S) → P x → Q x) → Each P all → Each Q all
each_map P Q [] f h = tt
each_map P Q (x ∷ xs) f h = (f x h.0, each_map P Q xs f h.1)

-- if two properties each hold of all of a list, both together hold of each of the list
pub each_both : {S : Type 0} (P Q : S → Type 0) (all : List S) → Each P all → Each Q all → Each (λ x. P x × Q x) all
each_both P Q [] h k = tt
each_both P Q (x ∷ xs) h k = ((h.0, k.0), each_both P Q xs h.1 k.1)
