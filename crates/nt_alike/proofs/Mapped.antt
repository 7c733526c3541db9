-- Questions about a mapped list, where a test says the same of an element and of what it is mapped to.
use Rattle.std.proofs.Common.{ap, sym, ◌∙◌}
use Rattle.std.proofs.lemmas.List.{length-map}
use Rattle.std.proofs.lemmas.List.Sums.{length-filter}
use Rattle.std.specs.List.{list_any}
use Rattle.std.specs.Option.{option_or}
use Rattle.std.specs.Prelude.{Bool, List, None, Option, Some, [], cond, count_by, false, filter, find, length, map, option_map, refl, reverse, true, ◌∷◌, ◌≡◌}
use Rattle.nt_runs.proofs.Pending.{find_reverse}

-- the first present of two mapped optional values is the mapped first present one
pub map_or : {A B : Type 0} (f : A → B) (a b : Option A) → option_or (option_map f a) (option_map f b) ≡ option_map f (option_or a b)
map_or f None b = refl
map_or f (Some x) b = refl

module _ {A B : Type 0} (f : A → B) (p : A → Bool) (q : B → Bool) (same : (x : A) → q (f x) ≡ p x) where
  -- filtering a mapped list is mapping the filtered list
  pub filter_map : (xs : List A) → filter q (map f xs) ≡ map f (filter p xs)
  filter_map [] = refl
  filter_map (x ∷ xs) = rw (same x) (go (p x) (filter_map xs))
    where
      go : (b : Bool) → filter q (map f xs) ≡ map f (filter p xs) →
          cond b (f x ∷ filter q (map f xs)) (filter q (map f xs)) ≡ map f (cond b (x ∷ filter p xs) (filter p xs))
      go true h = ap (λ (ys : List B). f x ∷ ys) h
      go false h = h

  one : (x : A) (b : Bool) → cond b (Some (f x)) None ≡ option_map f (cond b (Some x) None)
  one x true = refl
  one x false = refl

  -- the first element found in a mapped list is the mapped first element found in the list
  pub find_map : (xs : List A) → find q (map f xs) ≡ option_map f (find p xs)
  find_map [] = refl
  find_map (x ∷ xs) = rw (same x) (go (p x) (find_map xs))
    where
      go : (b : Bool) → find q (map f xs) ≡ option_map f (find p xs) →
          cond b (Some (f x)) (find q (map f xs)) ≡ option_map f (cond b (Some x) (find p xs))
      go true h = refl
      go false h = h

  -- the test finds any element of a mapped list just where it finds one in the list
  pub any_map : (xs : List A) → list_any q (map f xs) ≡ list_any p xs
  any_map [] = refl
  any_map (x ∷ xs) = rw (same x, any_map xs) refl

  -- as many elements are counted in a mapped list as in the list
  pub count_map : (xs : List A) → count_by q (map f xs) ≡ count_by p xs
  count_map xs =
      sym (length-filter q (map f xs)) ∙ ap length (filter_map xs) ∙ length-map (filter p xs) f ∙ length-filter p xs

  -- the last element found in a mapped list is the mapped last element found in the list
  pub find_reverse_map : (xs : List A) → find q (reverse (map f xs)) ≡ option_map f (find p (reverse xs))
  find_reverse_map [] = refl
  find_reverse_map (x ∷ xs) =
      find_reverse q (f x) (map f xs)
      ∙ rw (find_reverse_map xs, same x, one x (p x)) (map_or f (find p (reverse xs)) (cond (p x) (Some x) None))
      ∙ sym (ap (option_map f) (find_reverse p x xs))
