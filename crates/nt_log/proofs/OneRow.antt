-- A text has one list of rows, and a field one meaning.
use Rattle.std.proofs.Common.{◌≡◌, ◌∙◌, ℕ, ◌^◌, ◌<◌, ◌≤◌, Bool, true, false, cond, List, [], ◌∷◌, ◌++◌, length, map, Result, Ok, refl, sym, ap, arith, inl, inr}
use Rattle.std.proofs.Common.{◌+◌, ◌/◌, ◌%◌}
use Rattle.std.specs.Prelude.{decimal, ◌&&◌, nat_le, nat_lt}
use Rattle.std.specs.Char.{digit_value}
use Rattle.std.specs.Fmt.{digits}
use Rattle.std.specs.List.{AllByRecursion, list_all}
use Rattle.std.specs.Str.Parse.{AllDigits, digits_value}
use Rattle.std.proofs.lemmas.Bool.{and_from, and_parts, le-leb, leb-true, le-ltb}
use Rattle.std.proofs.lemmas.Fmt.{decimal_is_IsNumeral, digits_is_IsNumeral}
use Rattle.nt_text.specs.Lines.{AllRows, IsRow, is_field, line_of, lines, row_of, rows_text}
use Rattle.nt_text.proofs.NumberLines.{short}
use Rattle.nt_text.proofs.Rows.{lines_again, row_again}
use Rattle.nt_text.specs.Lines.{Row}

-- ---- numbers

-- numbers below 2^64 with the same decimal digits are equal
pub decimal_one : (m n : ℕ) → m < 2 ^ 64 → n < 2 ^ 64 → decimal m ≡ decimal n → m ≡ n
decimal_one m n lm ln e = sym (decimal_is_IsNumeral m lm).1 ∙ ap (digits_value 10) e ∙ (decimal_is_IsNumeral n ln).1

-- the digits of a number of two
pub two_digits : (n : ℕ) → 10 ≤ n → n < 100 → decimal n ≡ (48 + n / 10) ∷ (48 + n % 10) ∷ []
two_digits n least h = elim (short n h) [
  | inl one ↦ let few = one.0 in absurd (omega (arith, least, few))
  | inr two ↦ two.1
]

-- the hexadecimal digits of a number of 32 bits are digits, and their value is the number
hexadecimal_number : (n : ℕ) → n ≤ 4294967295 → (AllDigits 16 (digits 16 false n)) × (digits_value 16 (digits 16 false n) ≡ n)
hexadecimal_number n l = let r = digits_is_IsNumeral 16 false (omega arith) (omega arith) n (omega (arith, l)) in (r.0.1, r.1)

-- numbers of 32 bits with the same hexadecimal digits are equal
pub hexadecimal_one : (m n : ℕ) → m ≤ 4294967295 → n ≤ 4294967295 → digits 16 false m ≡ digits 16 false n → m ≡ n
hexadecimal_one m n lm ln e = sym (hexadecimal_number m lm).1 ∙ ap (digits_value 16) e ∙ (hexadecimal_number n ln).1

-- a byte whose value as a digit is below 16 is not below the digit zero
digit_at_least : (c : ℕ) (b : Bool) (x : ℕ) → nat_lt c 48 ≡ b → cond b 36 x < 16 → 48 ≤ c
digit_at_least c true x e h = absurd (omega (arith, h))
digit_at_least c false x e h = below c e
  where
    below : (c : ℕ) → nat_lt c 48 ≡ false → 48 ≤ c
    below c e = grind (arith, le-ltb)

-- a byte whose value as a digit is below 16 is at most the last printable one
digit_at_most : (c : ℕ) → digit_value c < 16 → c ≤ 126
digit_at_most c h = go (nat_le c 126) refl
  where
    go : (b : Bool) → nat_le c 126 ≡ b → c ≤ 126
    go true e = leb-true c 126 e
    go false e =
        let above : 126 < c = grind (arith, le-leb) in
        let no : digit_value c ≡ 36 = rw (
          le-ltb c 48 (omega arith),
          le-ltb c 58 (omega arith),
          le-ltb c 65 (omega arith),
          le-ltb c 91 (omega arith),
          le-ltb c 97 (omega arith),
          le-ltb c 123 (omega arith),
        ) refl in
        absurd (omega (arith, no, h))

-- hexadecimal digits are bytes that a field may have
digits_field : (ds : List ℕ) → AllDigits 16 ds → is_field ds ≡ true
digits_field [] h = refl
digits_field (c ∷ cs) h =
    let low = digit_at_least c (nat_lt c 48) _ refl h.0 in
    let high = digit_at_most c h.0 in
    and_from (nat_le 33 c && nat_le c 126) (is_field cs) (and_from (nat_le 33 c) (nat_le c 126) (le-leb 33 c (omega (arith, low))) (le-leb c 126 high))
    (digits_field cs h.1)

-- the hexadecimal digits of a number of 32 bits make a field
pub hexadecimal_field : (n : ℕ) → n ≤ 4294967295 → is_field (digits 16 false n) ≡ true
hexadecimal_field n l = digits_field (digits 16 false n) (hexadecimal_number n l).0

-- ---- what is read as the same thing is the same

-- two equal fields that are both read are read as the same value
pub read_one : {A C : Type 0} (read : List ℕ → Result A C) (f g : List ℕ) (x y : A) → read f ≡ Ok x → read g ≡ Ok y → f ≡ g → x ≡ y
read_one read f g x y h k e = let both : Ok x ≡ Ok y = sym h ∙ ap read e ∙ k in cc

-- ---- rows of a text

-- rows of fields that give the same lines are the same rows
unline : (a b : List Row) → AllRows a → AllRows b → map line_of a ≡ map line_of b → a ≡ b
unline [] [] h k e = refl
unline [] (s ∷ b) h k e = absurd cc
unline (r ∷ a) [] h k e = absurd cc
unline (r ∷ a) (s ∷ b) h k e =
    let head : line_of r ≡ line_of s = cc in
    let more : map line_of a ≡ map line_of b = cc in
    let same : r ≡ s = one (sym (row_again r h.0) ∙ ap row_of head ∙ row_again s k.0) in
    let others : a ≡ b = unline a b h.1 k.1 more in
    cc
  where
    one : {E : Type 0} {r s : Row} → ◌≡◌ {A = Result Row E} (Ok r) (Ok s) → r ≡ s
    one e = cc

-- the rows of a text
pub rows_one : (a b : List Row) → AllRows a → AllRows b → rows_text a ≡ rows_text b → a ≡ b
rows_one a b h k e = unline a b h k (sym (lines_again a h) ∙ ap lines e ∙ lines_again b k)

-- fields that make a row
pub row_from : (f : List ℕ) (fs : Row) → is_field f ≡ true → list_all is_field fs ≡ true → IsRow (f ∷ fs)
row_from f [] h k = (h, tt)
row_from f (g ∷ fs) h k = let p = and_parts (is_field g) (list_all is_field fs) k in (h, row_from g fs p.0 p.1)

-- each part of a row of fields passes the test of a field
pub row_to : (row : Row) → IsRow row → list_all is_field row ≡ true
row_to [] h = absurd h
row_to (f ∷ []) h = and_from (is_field f) true h.0 refl
row_to (f ∷ g ∷ fs) h = and_from (is_field f) (list_all is_field (g ∷ fs)) h.0 (row_to (g ∷ fs) h.1)

-- if each value with a property has a row of fields, so have all of a list of such values
pub map_rows : {X : Type 0} (P : X → Type 0) (row : X → Row) → ((x : X) → P x → IsRow (row x)) → (xs : List X) → AllByRecursion P xs → AllRows (map row xs)
map_rows P row f [] h = tt
map_rows P row f (x ∷ xs) h = (f x h.0, map_rows P row f xs h.1)

-- ---- parts of lists

-- equal lists in two parts, where the first parts are as long
pub parts_one : {X : Type 0} (a b c d : List X) → length a ≡ length b → a ++ c ≡ b ++ d → (a ≡ b) × (c ≡ d)
parts_one [] [] c d l e = (refl, e)
parts_one [] (y ∷ b) c d l e = absurd (omega (arith, l))
parts_one (x ∷ a) [] c d l e = absurd (omega (arith, l))
parts_one (x ∷ a) (y ∷ b) c d l e =
    let head : x ≡ y = cc in
    let more : a ++ c ≡ b ++ d = cc in
    let r = parts_one a b c d (omega (arith, l)) more in
    let first : a ≡ b = r.0 in
    (cc, r.1)

-- equal lists in two parts, where a test finds the first element of the second parts and none of the first parts
pub split_one : {X : Type 0} (p : X → Bool) (a b : List X) (x y : X) (c d : List X) → AllByRecursion (λ z. p z ≡ false) a →
    AllByRecursion (λ z. p z ≡ false) b → p x ≡ true → p y ≡ true → a ++ x ∷ c ≡ b ++ y ∷ d → (a ≡ b) × (x ∷ c ≡ y ∷ d)
split_one p [] [] x y c d h k px py e = (refl, e)
split_one p [] (z ∷ b) x y c d h k px py e = let same : x ≡ z = cc in let no : true ≡ false = sym px ∙ ap p same ∙ k.0 in absurd cc
split_one p (z ∷ a) [] x y c d h k px py e = let same : z ≡ y = cc in let no : true ≡ false = sym py ∙ ap p (sym same) ∙ h.0 in absurd cc
split_one p (z ∷ a) (w ∷ b) x y c d h k px py e =
    let head : z ≡ w = cc in
    let more : a ++ x ∷ c ≡ b ++ y ∷ d = cc in
    let r = split_one p a b x y c d h.1 k.1 px py more in
    let first : a ≡ b = r.0 in
    (cc, r.1)

-- lists whose images are equal
pub map_one : {X Y : Type 0} (P : X → Type 0) (f : X → Y) → ((x y : X) → P x → P y → f x ≡ f y → x ≡ y) → (xs ys : List X) → AllByRecursion P xs →
    AllByRecursion P ys → map f xs ≡ map f ys → xs ≡ ys
map_one P f one [] [] h k e = refl
map_one P f one [] (y ∷ ys) h k e = absurd cc
map_one P f one (x ∷ xs) [] h k e = absurd cc
map_one P f one (x ∷ xs) (y ∷ ys) h k e =
    let image : f x ≡ f y = cc in
    let more : map f xs ≡ map f ys = cc in
    let head : x ≡ y = one x y h.0 k.0 image in
    let others : xs ≡ ys = map_one P f one xs ys h.1 k.1 more in
    cc

-- if a function takes values with one property to those with another, so it does for all of a list
pub all_map : {X Y : Type 0} (P : X → Type 0) (Q : Y → Type 0) (f : X → Y) → ((x : X) → P x → Q (f x)) → (xs : List X) → AllByRecursion P xs →
    AllByRecursion Q (map f xs)
all_map P Q f go [] h = tt
all_map P Q f go (x ∷ xs) h = (go x h.0, all_map P Q f go xs h.1)
