-- What is written of a text holds nothing that begins or ends a tag or a value.
use Rattle.std.proofs.Common.{◌≡◌, ◌==◌, ◌&&◌, ◌||◌, ◌++◌, ◌∷◌, [], Bool, List, false, nat_le, refl, true, ℕ}
use Rattle.std.specs.List.{list_all}
use Rattle.std.specs.Prelude.{codes, if◌then◌else◌}
use Rattle.nt_draw.specs.Escapes.{is_plain_byte}
use Rattle.nt_draw.specs.Tags.{escaped, escaped_byte}

-- what holds of all items of two lists holds of those of both
both_all : (test : ℕ → Bool) (xs ys : List ℕ) → list_all test xs ≡ true → list_all test ys ≡ true → list_all test (xs ++ ys) ≡ true
both_all test [] ys e f = f
both_all test (x ∷ xs) ys e f = go (test x) e (λ h. both_all test xs ys h f)
  where
    go : (b : Bool) → (b && list_all test xs) ≡ true → (list_all test xs ≡ true → list_all test (xs ++ ys) ≡ true) →
        (b && list_all test (xs ++ ys)) ≡ true
    go true h rest = rest h
    go false h rest = h

-- so of what is written of a byte
byte_plain : (b : ℕ) → list_all is_plain_byte (escaped_byte b) ≡ true
byte_plain b = go (b == 38) (b == 60) refl (b == 62) refl (b == 34) refl (b == 39) refl ((b == 10) || (nat_le 32 b && nat_le b 126))
  where
    go : (a l : Bool) → (b == 60) ≡ l → (g : Bool) → (b == 62) ≡ g → (q : Bool) → (b == 34) ≡ q → (p : Bool) → (b == 39) ≡ p → (k : Bool) →
        list_all is_plain_byte
        (if a then codes "&amp;" else if l then codes "&lt;" else if g then codes "&gt;" else if q then codes "&quot;" else if p then codes "&apos;"
        else if k then b ∷ [] else codes "?") ≡ true
    go true l el g eg q eq p ep k = refl
    go false true el g eg q eq p ep k = refl
    go false false el true eg q eq p ep k = refl
    go false false el false eg true eq p ep k = refl
    go false false el false eg false eq true ep k = refl
    go false false el false eg false eq false ep true = rw (el, eg, eq, ep) refl
    go false false el false eg false eq false ep false = refl

-- and of a text
pub text_plain : (t : List ℕ) → list_all is_plain_byte (escaped t) ≡ true
text_plain [] = refl
text_plain (b ∷ t) = both_all is_plain_byte (escaped_byte b) (escaped t) (byte_plain b) (text_plain t)
