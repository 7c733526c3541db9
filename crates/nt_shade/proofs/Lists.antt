-- Lists of data that say the same as other lists, element by element.
use Rattle.std.proofs.Common.{ap, sym, ◌∙◌}
use Rattle.std.proofs.lemmas.List.{map-append, map-id, reverse-append, take_more}
use Rattle.std.specs.Cmp.Lexicographic.{pointwise}
use Rattle.std.specs.Prelude.{Bool, List, [], get_or, length, map, refl, reverse, take, true, ℕ, ◌++◌, ◌+◌, ◌<◌, ◌∷◌, ◌≡◌}
use Rattle.nt_event.proofs.Options.{both}
use Rattle.nt_history.proofs.Same.{Same}

-- a map of a list that is turned round
pub map_reversed : {A B : Type 0} (f : A → B) (xs : List A) → map f (reverse xs) ≡ reverse (map f xs)
map_reversed f [] = refl
map_reversed f (x ∷ xs) =
    ap (map f) (reverse-append (x ∷ []) xs) ∙ map-append f (reverse xs) (x ∷ [])
    ∙ ap (λ l. l ++ f x ∷ []) (map_reversed f xs) ∙ sym (reverse-append (f x ∷ []) (map f xs))

-- lists that say the same say it also when they are turned round
pub said_reversed : {A B C : Type 0} (said : A → C) (bare : B → C) (xs : List A) (ys zs : List B) → map said xs ≡ map bare ys → reverse ys ≡ zs →
    map said (reverse xs) ≡ map bare zs
said_reversed said bare xs ys zs e r =
    map_reversed said xs ∙ ap reverse e ∙ sym (map_reversed bare ys) ∙ ap (map bare) r

-- what was copied of a list up to a place, and then what stands at that place
pub one_more : {A : Type 0} (xs old new : List A) (i : ℕ) (v : A) → new ≡ old ++ v ∷ [] → old ≡ take i xs → i < length xs → v ≡ get_or xs i v →
    new ≡ take (i + 1) xs
one_more xs old new i v grown copied low read =
    grown ∙ ap (λ l. l ++ v ∷ []) copied ∙ ap (λ x. take i xs ++ x ∷ []) read ∙ sym (take_more xs i v low)

-- what the test finds equal says the same
abbrev pub Says : {A B : Type 0} → (A → A → Bool) → (A → B) → Type 0
Says {A} f said = (x y : A) → f x y ≡ true → said x ≡ said y

-- so do lists of it, in their order and turned round
pub lists_say : {A B : Type 0} {f : A → A → Bool} {said : A → B} → Says f said → Says (pointwise f) (map said)
lists_say say [] [] h = refl
lists_say say [] (y ∷ ys) h = absurd cc
lists_say say (x ∷ xs) [] h = absurd cc
lists_say {A} {B} {f} {said} say (x ∷ xs) (y ∷ ys) h =
    let t = both (f x y) (pointwise f xs ys) h in
    let first = say x y t.0 in
    let rest = lists_say say xs ys t.1 in
    λ i. first i ∷ rest i

-- lists that a test finds equal element by element say the same when turned round too
pub turned_lists_say : {A B : Type 0} {f : A → A → Bool} {said : A → B} → Says f said → Says (pointwise f) (λ xs. map said (reverse xs))
turned_lists_say {A} {B} {f} {said} say xs ys h =
    map_reversed said xs ∙ ap reverse (lists_say say xs ys h) ∙ sym (map_reversed said ys)

-- lists of what is the same where the test finds it equal
pub lists_same : {A : Type 0} {f : A → A → Bool} → Same f → Same (pointwise f)
lists_same {A} {f} same xs ys h = sym (map-id xs) ∙ lists_say {said = λ (x : A). x} same xs ys h ∙ map-id ys
