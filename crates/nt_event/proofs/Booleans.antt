-- What tests that passed say: of two at once, of lists and answers, and of numbers.
use Rattle.std.proofs.Common.{◌≡◌, ℕ, ◌<◌, Bool, true, false, ◌&&◌, ◌==◌, nat_lt, List, [], ◌∷◌, Option, None, Some, cond, eq-eqb, is_none, refl, arith}
use Rattle.std.proofs.lemmas.Bool.{ltb-true}
use Rattle.std.proofs.lemmas.Bool.Decides.{nat_tests}
use Rattle.nt_event.specs.Lists.{is_null}

-- if both of two tests pass, the first passes
pub and_left : (a b : Bool) → (a && b) ≡ true → a ≡ true
and_left true b h = refl
and_left false b h = h

-- if both of two tests pass, the second passes
pub and_right : (a b : Bool) → (a && b) ≡ true → b ≡ true
and_right true b h = h
and_right false b h = cc

-- if each of two tests passes, both together pass
pub and_both : (a b : Bool) → a ≡ true → b ≡ true → (a && b) ≡ true
and_both true b h k = k
and_both false b h k = h

-- a list that tests as empty is the empty list
pub null_is : {A : Type 0} (xs : List A) → is_null xs ≡ true → xs ≡ []
null_is [] h = refl
null_is (x ∷ xs) h = cc

-- an option that tests as none is none
pub none_is : {A : Type 0} (o : Option A) → is_none o ≡ true → o ≡ None
none_is None h = refl
none_is (Some x) h = cc

-- a number that tests as less than another is less than it
pub lt_is : (a b : ℕ) → nat_lt a b ≡ true → a < b
lt_is a b h = ltb-true a b h

-- a number that tests as zero is zero
pub zero_is : (a : ℕ) → (a == 0) ≡ true → a ≡ 0
zero_is a h = grind (arith, nat_tests)

-- a test that decides nothing
pub either_way : {A : Type 0} (b : Bool) (x : A) → cond b x x ≡ x
either_way true x = refl
either_way false x = refl

-- the equality test of a number with itself passes
pub same : (n : ℕ) → (n == n) ≡ true
same n = eq-eqb n n refl
