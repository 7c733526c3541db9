-- Lists that grow by one element, and lists with one element that fails a test.
use Rattle.std.proofs.Common.{add-one, ap, arith, inl, inr, subst, sym, ◌∙◌}
use Rattle.std.proofs.Math.Seq.{take-suc}
use Rattle.std.proofs.lemmas.Grind.{flat_map-append}
use Rattle.std.proofs.lemmas.List.{append_assoc, map_push}
use Rattle.std.proofs.lemmas.List.Elements.{Contains-get_or, filter_map-append}
use Rattle.std.proofs.lemmas.List.Folds.{list_all-append}
use Rattle.std.specs.List.{Contains, cons_option, filter_map, flat_map, list_all}
use Rattle.std.specs.Prelude.{Bool, List, Option, [], false, get_or, length, map, refl, suc, take, true, zero, ℕ, ◌&&◌, ◌+◌, ◌++◌, ◌<◌, ◌∷◌, ◌≡◌}
use Rattle.std.specs.Prelude.{◌≤◌}
use Rattle.nt_event.proofs.Elements.{contains_cases, contains_none}
use Rattle.nt_event.proofs.Tables.{get_or-table, length-table_from, table_more, table_none}
use Rattle.nt_event.specs.Lists.{table}

-- appending the empty list changes nothing
pub append_nil : {A : Type 0} (xs : List A) → xs ++ [] ≡ xs
append_nil [] = refl
append_nil (x ∷ xs) = ap (λ ys. x ∷ ys) (append_nil xs)

-- ---- elements

-- a table contains the value of its function at each number below its length
pub table_contains : {A : Type 0} (n i : ℕ) (f : ℕ → A) → i < n → Contains (table n f) (f i)
table_contains {A} n i f h =
    let long : length (table n f) ≡ n = length-table_from 0 n f in
    subst (λ (x : A). Contains (table n f) x) (get_or-table n i f (f i) h) (Contains-get_or (table n f) i (f i) (omega (arith, long, h)))

-- not all of a list pass a test if one element in it fails
pub fails_in : {A : Type 0} (p : A → Bool) (xs : List A) (x : A) → Contains xs x → p x ≡ false → list_all p xs ≡ false
fails_in p [] x c h = contains_none x c
fails_in {A} p (y ∷ xs) x c h =
    elim (contains_cases y xs x c) [
      | inl e ↦ ap (λ (b : Bool). b && list_all p xs) (subst (λ (z : A). p z ≡ false) (sym e) h)
      | inr d ↦ second (p y) (list_all p xs) (fails_in p xs x d h)
    ]
  where
    second : (a b : Bool) → b ≡ false → (a && b) ≡ false
    second true b h = h
    second false b h = refl

-- not all of a table pass a test if the value at one number below its length fails
pub table_fails : {A : Type 0} (p : A → Bool) (n i : ℕ) (f : ℕ → A) → i < n → p (f i) ≡ false → list_all p (table n f) ≡ false
table_fails p n i f l h = fails_in p (table n f) (f i) (table_contains n i f l) h

-- ---- one more

-- if two truth values are true, so is their conjunction
both_hold : (a b : Bool) → a ≡ true → b ≡ true → (a && b) ≡ true
both_hold true b h k = k
both_hold false b h k = h

-- all of a list and one more element at its end pass a test if the list and the element do
pub all_more : {A : Type 0} (p : A → Bool) (xs : List A) (x : A) → list_all p xs ≡ true → p x ≡ true → list_all p (xs ++ x ∷ []) ≡ true
all_more p xs x h k =
    list_all-append p xs (x ∷ []) ∙ both_hold (list_all p xs) (list_all p (x ∷ [])) h (both_hold (p x) true k refl)

-- a table with one more value passes a test throughout if the table and that value do
pub table_passes : {A : Type 0} (p : A → Bool) (n : ℕ) (f : ℕ → A) → list_all p (table n f) ≡ true → p (f n) ≡ true → list_all p (table (n + 1) f) ≡ true
table_passes {A} p n f h k = ap (λ (xs : List A). list_all p xs) (table_more n f) ∙ all_more p (table n f) (f n) h k

-- all of an empty table pass any test
pub none_passes : {A : Type 0} (p : A → Bool) (f : ℕ → A) → list_all p (table 0 f) ≡ true
none_passes {A} p f = ap (λ (xs : List A). list_all p xs) (table_none f)

-- a list that grew by the next element of a table, behind others
pub behind_none : {A : Type 0} (old : List A) (f : ℕ → A) → old ≡ old ++ table 0 f
behind_none {A} old f = sym (ap (λ (xs : List A). old ++ xs) (table_none f) ∙ append_nil old)

-- a list that is an old one and then a table is so with one more value if that value is added
pub behind_grown : {A : Type 0} (n : ℕ) (f : ℕ → A) (old xs ys : List A) (x : A) → ys ≡ xs ++ x ∷ [] → xs ≡ old ++ table n f → x ≡ f n →
    ys ≡ old ++ table (n + 1) f
behind_grown {A} n f old xs ys x a b c =
    a
    ∙ (ap (λ (zs : List A). zs ++ x ∷ []) b
    ∙ (append_assoc old (table n f) (x ∷ [])
    ∙ ap (λ (zs : List A). old ++ zs) (ap (λ (z : A). table n f ++ z ∷ []) c ∙ sym (table_more n f))))

-- the pieces of a table's elements, and one piece more
pub pieces_more : {A B : Type 0} (f : A → List B) (n : ℕ) (g : ℕ → A) → flat_map f (table (n + 1) g) ≡ flat_map f (table n g) ++ f (g n)
pieces_more {A} {B} f n g =
    ap (λ (xs : List A). flat_map f xs) (table_more n g)
    ∙ (flat_map-append f (table n g) (g n ∷ []) ∙ ap (λ (ys : List B). flat_map f (table n g) ++ ys) (append_nil (f (g n))))

-- the pieces of an empty table are none
pub pieces_none : {A B : Type 0} (f : A → List B) (g : ℕ → A) → flat_map f (table 0 g) ≡ []
pieces_none {A} f g = ap (λ (xs : List A). flat_map f xs) (table_none g)

-- what is picked of a table's elements, and of one more
pub picked_more : {A B : Type 0} (f : A → Option B) (n : ℕ) (g : ℕ → A) →
    filter_map f (table (n + 1) g) ≡ filter_map f (table n g) ++ cons_option (f (g n)) []
picked_more {A} f n g = ap (λ (xs : List A). filter_map f xs) (table_more n g) ∙ filter_map-append f (table n g) (g n ∷ [])

-- nothing is picked from an empty table
pub picked_none : {A B : Type 0} (f : A → Option B) (g : ℕ → A) → filter_map f (table 0 g) ≡ []
picked_none {A} f g = ap (λ (xs : List A). filter_map f xs) (table_none g)

-- taking at least as many elements as a list has gives the whole list
pub take_all : {A : Type 0} (n : ℕ) (xs : List A) → length xs ≤ n → take n xs ≡ xs
take_all zero [] h = refl
take_all zero (x ∷ xs) h = absurd (omega arith)
take_all (suc n) [] h = refl
take_all (suc n) (x ∷ xs) h = ap (λ ys. x ∷ ys) (take_all n xs (omega arith))

-- a list of maps that grew by the next element
pub mapped_more : {A B : Type 0} (f : A → B) (xs : List A) (i : ℕ) (x : A) → i < length xs → x ≡ get_or xs i x →
    map f (take (i + 1) xs) ≡ map f (take i xs) ++ f x ∷ []
mapped_more {A} {B} f xs i x h e =
    ap (λ (n : ℕ). map f (take n xs)) (add-one i)
    ∙ (ap (λ (ys : List A). map f ys) (take-suc xs i x h)
    ∙ (map_push f (take i xs) (get_or xs i x) ∙ ap (λ (y : A). map f (take i xs) ++ f y ∷ []) (sym e)))

-- the pieces of the first elements with one more are theirs and then the pieces of that one
pub flat_more : {A B : Type 0} (f : A → List B) (xs : List A) (i : ℕ) (x : A) → i < length xs → x ≡ get_or xs i x →
    flat_map f (take (i + 1) xs) ≡ flat_map f (take i xs) ++ f x
flat_more {A} {B} f xs i x h e =
    ap (λ (n : ℕ). flat_map f (take n xs)) (add-one i)
    ∙ (ap (λ (ys : List A). flat_map f ys) (take-suc xs i x h)
    ∙ (flat_map-append f (take i xs) (get_or xs i x ∷ []) ∙ (ap (λ (ys : List B). flat_map f (take i xs) ++ ys) (append_nil (f (get_or xs i x)))
    ∙ ap (λ (y : A). flat_map f (take i xs) ++ f y) (sym e))))

-- the element read at a place below the length of a list is in the list
pub there : {A : Type 0} (xs : List A) (i : ℕ) (x : A) → i < length xs → x ≡ get_or xs i x → Contains xs x
there {A} xs i x h e = subst (λ (y : A). Contains xs y) (sym e) (Contains-get_or xs i x h)

-- not all of the pieces of a list pass a test if the piece of one element has one that fails
pub flat_fails : {A B : Type 0} (p : B → Bool) (f : A → List B) (xs : List A) (x : A) → Contains xs x → list_all p (f x) ≡ false →
    list_all p (flat_map f xs) ≡ false
flat_fails p f [] x c h = contains_none x c
flat_fails {A} {B} p f (y ∷ xs) x c h =
    list_all-append p (f y) (flat_map f xs) ∙ elim (contains_cases y xs x c) [
      | inl e ↦ ap (λ (b : Bool). b && list_all p (flat_map f xs)) (subst (λ (z : A). list_all p (f z) ≡ false) (sym e) h)
      | inr d ↦ second (list_all p (f y)) (list_all p (flat_map f xs)) (flat_fails p f xs x d h)
    ]
  where
    second : (a b : Bool) → b ≡ false → (a && b) ≡ false
    second true b h = h
    second false b h = refl

-- the pieces of a table with one more value pass a test if those of the table and of that value do
pub flat_passes : {A B : Type 0} (p : B → Bool) (f : A → List B) (n : ℕ) (g : ℕ → A) → list_all p (flat_map f (table n g)) ≡ true →
    list_all p (f (g n)) ≡ true → list_all p (flat_map f (table (n + 1) g)) ≡ true
flat_passes {A} {B} p f n g h k =
    ap (λ (ys : List B). list_all p ys) (pieces_more f n g)
    ∙ (list_all-append p (flat_map f (table n g)) (f (g n)) ∙ both_hold (list_all p (flat_map f (table n g))) (list_all p (f (g n))) h k)

-- a list that ends in the mapped first elements does so with one more if the next one's image is added
pub mapped_grown : {A B : Type 0} (f : A → B) (xs : List A) (i : ℕ) (x : A) (old ys zs : List B) → zs ≡ ys ++ f x ∷ [] → ys ≡ old ++ map f (take i xs) →
    i < length xs → x ≡ get_or xs i x → zs ≡ old ++ map f (take (i + 1) xs)
mapped_grown {A} {B} f xs i x old ys zs a b h e =
    a
    ∙ (ap (λ (v : List B). v ++ f x ∷ []) b
    ∙ (append_assoc old (map f (take i xs)) (f x ∷ []) ∙ ap (λ (v : List B). old ++ v) (sym (mapped_more f xs i x h e))))

-- a list that ends in the pieces of a table does so with one more value if the next piece is added
pub pieces_grown : {A B : Type 0} (f : A → List B) (n : ℕ) (g : ℕ → A) (old ys zs : List B) → zs ≡ ys ++ f (g n) → ys ≡ old ++ flat_map f (table n g) →
    zs ≡ old ++ flat_map f (table (n + 1) g)
pieces_grown {A} {B} f n g old ys zs a b =
    a
    ∙ (ap (λ (v : List B). v ++ f (g n)) b
    ∙ (append_assoc old (flat_map f (table n g)) (f (g n)) ∙ ap (λ (v : List B). old ++ v) (sym (pieces_more f n g))))

-- an old list is itself and then the pieces of an empty table
pub pieces_begun : {A B : Type 0} (f : A → List B) (g : ℕ → A) (old : List B) → old ≡ old ++ flat_map f (table 0 g)
pieces_begun {A} {B} f g old = sym (ap (λ (v : List B). old ++ v) (pieces_none f g) ∙ append_nil old)

-- all of an element, and then two lists, pass a test exactly if the element and both lists do
pub two_pieces : {A : Type 0} (p : A → Bool) (x : A) (ys zs : List A) → list_all p ((x ∷ [] ++ ys) ++ zs) ≡ (p x && (list_all p ys && list_all p zs))
two_pieces p x ys zs = ap (λ (b : Bool). p x && b) (list_all-append p ys zs)

-- a list that ends in the pieces of the first elements does so with one more if its piece is added
pub flat_grown : {A B : Type 0} (f : A → List B) (xs : List A) (i : ℕ) (x : A) (old ys zs : List B) → zs ≡ ys ++ f x → ys ≡ old ++ flat_map f (take i xs) →
    i < length xs → x ≡ get_or xs i x → zs ≡ old ++ flat_map f (take (i + 1) xs)
flat_grown {A} {B} f xs i x old ys zs a b h e =
    a
    ∙ (ap (λ (v : List B). v ++ f x) b
    ∙ (append_assoc old (flat_map f (take i xs)) (f x) ∙ ap (λ (v : List B). old ++ v) (sym (flat_more f xs i x h e))))
