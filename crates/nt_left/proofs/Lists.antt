-- Lists that are put one behind the other.
use Rattle.std.proofs.Common.{add-one, ap, append_assoc, append-nil, arith, sym, ◌∙◌}
use Rattle.std.specs.Prelude.{List, [], get_or, length, map, refl, suc, take, zero, ℕ, ◌++◌, ◌+◌, ◌<◌, ◌∷◌, ◌≡◌}
use Rattle.std.proofs.lemmas.List.{map-append, take_more}
use Rattle.nt_left.specs.Lists.{along, joined}

-- one more list is put behind the others
pub joined_more : {A : Type 0} (n : ℕ) (f : ℕ → List A) → joined (n + 1) f ≡ joined n f ++ f n
joined_more n f = ap (λ (k : ℕ). joined k f) (add-one n)

-- what a list is after the next one was put behind it
pub joined_on : {A : Type 0} (n : ℕ) (f : ℕ → List A) (start old new x : List A) → old ≡ start ++ joined n f → new ≡ old ++ x → x ≡ f n →
    new ≡ start ++ joined (n + 1) f
joined_on {A} n f start old new x a b c =
    b
    ∙ (ap (λ (xs : List A). xs ++ x) a
    ∙ (append_assoc start (joined n f) x
    ∙ ap (λ (xs : List A). start ++ xs) (ap (λ (ys : List A). joined n f ++ ys) c ∙ sym (joined_more n f))))

-- joined lists are the same where their parts are
pub joined_same : {A : Type 0} (n : ℕ) (f g : ℕ → List A) → ((i : ℕ) → i < n → f i ≡ g i) → joined n f ≡ joined n g
joined_same zero f g h = refl
joined_same {A} (suc n) f g h =
    let rest : joined n f ≡ joined n g = joined_same n f g (λ i l. h i (omega (arith, l))) in
    let last : f n ≡ g n = h n (omega arith) in
    cc

-- of two lists, one behind the other
pub along_append : {A B : Type 0} (f : A → List B) (xs ys : List A) → along f (xs ++ ys) ≡ along f xs ++ along f ys
along_append f [] ys = refl
along_append {A} {B} f (x ∷ xs) ys = ap (λ (zs : List B). f x ++ zs) (along_append f xs ys) ∙ sym (append_assoc (f x) (along f xs) (along f ys))

-- the next element's list is put behind the others
pub along_on : {A B : Type 0} (f : A → List B) (xs : List A) (n : ℕ) (x : A) (start old new : List B) → n < length xs → x ≡ get_or xs n x →
    old ≡ start ++ along f (take n xs) → new ≡ old ++ f x → new ≡ start ++ along f (take (n + 1) xs)
along_on {A} {B} f xs n x start old new low is a b =
    b
    ∙ (ap (λ (ys : List B). ys ++ f x) a
    ∙ (append_assoc start (along f (take n xs)) (f x)
    ∙ ap (λ (ys : List B). start ++ ys)
    (ap (λ (ys : List B). along f (take n xs) ++ ys) (sym (append-nil (f x)))
    ∙ (sym (along_append f (take n xs) (x ∷ []))
    ∙ ap (along f) (ap (λ (y : A). take n xs ++ y ∷ []) is ∙ sym (take_more xs n x low))))))

-- the next element's image is put behind the others
pub map_on : {A B : Type 0} (f : A → B) (xs : List A) (n : ℕ) (x : A) (start old new : List B) → n < length xs → x ≡ get_or xs n x →
    old ≡ start ++ map f (take n xs) → new ≡ old ++ f x ∷ [] → new ≡ start ++ map f (take (n + 1) xs)
map_on {A} {B} f xs n x start old new low is a b =
    b
    ∙ (ap (λ (ys : List B). ys ++ f x ∷ []) a
    ∙ (append_assoc start (map f (take n xs)) (f x ∷ [])
    ∙ ap (λ (ys : List B). start ++ ys)
    (sym (map-append f (take n xs) (x ∷ []))
    ∙ ap (map f) (ap (λ (y : A). take n xs ++ y ∷ []) is ∙ sym (take_more xs n x low)))))

-- the lists are all of them, where there are so many
pub joined_end : {A : Type 0} (n m : ℕ) (f : ℕ → List A) (start old : List A) → n ≡ m → old ≡ start ++ joined n f → old ≡ start ++ joined m f
joined_end {A} n m f start old e h = h ∙ ap (λ (k : ℕ). start ++ joined k f) e
