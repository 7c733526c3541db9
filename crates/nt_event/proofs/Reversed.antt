-- Tests and filters of the reversed list, and whether a search finds anything.
use Rattle.std.proofs.Common.{◌≡◌, ◌||◌, Bool, true, false, cond, List, [], ◌∷◌, ◌++◌, Option, Some, reverse, length, refl, sym, ◌∙◌, ap, append-nil}
use Rattle.std.specs.List.{count_by, filter, find, list_any}
use Rattle.std.specs.Option.{is_some}
use Rattle.std.proofs.lemmas.List.{reverse-append, length-reverse}
use Rattle.std.proofs.lemmas.List.Elements.{filter-append}
use Rattle.std.proofs.lemmas.List.Sorted.{IsPermutation-reverse, list_any-IsPermutation}
use Rattle.std.proofs.lemmas.List.Sums.{length-filter}

-- case: the test's answer for the head is given; filtering the reversed list is reversing the filtered one
filter-one : {X : Type 0} (p : X → Bool) (x : X) (b : Bool) (xs : List X) → p x ≡ b →
    reverse (filter p xs) ++ filter p (x ∷ []) ≡ reverse (cond b (x ∷ filter p xs) (filter p xs))
filter-one p x true xs e = rw e (sym (reverse-append (x ∷ []) (filter p xs)))
filter-one p x false xs e = rw e (append-nil (reverse (filter p xs)))

-- filtering the reversed list gives the filtered list reversed
pub filter-reverse : {X : Type 0} (p : X → Bool) (xs : List X) → filter p (reverse xs) ≡ reverse (filter p xs)
filter-reverse p [] = refl
filter-reverse {X} p (x ∷ xs) =
    rw (reverse-append (x ∷ []) xs)
    (filter-append p (reverse xs) (x ∷ []) ∙ ap (λ (ys : List X). ys ++ filter p (x ∷ [])) (filter-reverse p xs) ∙ filter-one p x (p x) xs refl)

-- as many elements pass a test in the reversed list as in the list
pub count_by-reverse : {X : Type 0} (p : X → Bool) (xs : List X) → count_by p (reverse xs) ≡ count_by p xs
count_by-reverse p xs =
    sym (length-filter p (reverse xs)) ∙ ap length (filter-reverse p xs) ∙ length-reverse (filter p xs) ∙ length-filter p xs

-- some element of the reversed list passes a test exactly if some element of the list does
pub list_any-reverse : {X : Type 0} (p : X → Bool) (xs : List X) → list_any p (reverse xs) ≡ list_any p xs
list_any-reverse p xs = sym (list_any-IsPermutation p xs (reverse xs) (IsPermutation-reverse xs))

-- a search finds something exactly if some element passes the test
pub is_some-find : {X : Type 0} (p : X → Bool) (xs : List X) → is_some (find p xs) ≡ list_any p xs
is_some-find p [] = refl
is_some-find p (x ∷ xs) = found (p x) x (find p xs) (list_any p xs) (is_some-find p xs)
  where
    found : {X : Type 0} (b : Bool) (x : X) (rest : Option X) (any : Bool) → is_some rest ≡ any → is_some (cond b (Some x) rest) ≡ (b || any)
    found true x rest any h = refl
    found false x rest any h = h
