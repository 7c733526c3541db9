-- What holds of an answer, where there is one; and what a test that passed or an answer that came tells.
use Rattle.std.proofs.Common.{subst}
use Rattle.std.specs.Option.{option_or}
use Rattle.std.specs.Prelude.{Bool, List, None, Option, Some, [], cond, false, find, not, option_and_then, option_map, refl, true, unwrap_or, ◌&&◌, ◌∷◌, ◌≡◌}
use Rattle.nt_event.specs.Lists.{when}

abbrev pub Holds : {A : Type 0} → (A → Type 0) → Option A → Type 0
Holds P None = Unit {0}
Holds P (Some x) = P x

-- a property holds of the first of two options that has a value, if it holds of either where that one is taken
pub holds_or : {A : Type 0} (P : A → Type 0) (a b : Option A) → Holds P a → (a ≡ None → Holds P b) → Holds P (option_or a b)
holds_or P None b h k = k refl
holds_or P (Some x) b h k = h

-- a property holds of an option under a test, if it holds of the option where the test passes
pub holds_when : {A : Type 0} (P : A → Type 0) (t : Bool) (a : Option A) → (t ≡ true → Holds P a) → Holds P (when t a)
holds_when P true a h = h refl
holds_when P false a h = tt

-- a property holds of a mapped option, if it holds of the image of the option's value
pub holds_map : {A B : Type 0} (P : B → Type 0) (f : A → B) (a : Option A) → ((x : A) → a ≡ Some x → P (f x)) → Holds P (option_map f a)
holds_map P f None h = tt
holds_map P f (Some x) h = h x refl

-- a property holds of a chained option, if it holds of what the next step gives for the option's value
pub holds_then : {A B : Type 0} (P : B → Type 0) (f : A → Option B) (a : Option A) → ((x : A) → a ≡ Some x → Holds P (f x)) → Holds P (option_and_then f a)
holds_then P f None h = tt
holds_then P f (Some x) h = h x refl

-- a property holds of an option's value or the default, if it holds of the value, and of the default where none
pub holds_else : {A : Type 0} (P : A → Type 0) (a : Option A) (d : A) → Holds P a → (a ≡ None → P d) → P (unwrap_or a d)
holds_else P None d h k = k refl
holds_else P (Some x) d h k = h

-- a property holds of a value put before an option under a test, if it holds of each where that is taken
holds_if : {A : Type 0} (P : A → Type 0) (b : Bool) (x : A) (o : Option A) → (b ≡ true → P x) → Holds P o → Holds P (cond b (Some x) o)
holds_if P true x o h k = h refl
holds_if P false x o h k = k

-- a property holds of what a search finds, if it holds of all that passes the test
pub holds_find : {A : Type 0} (P : A → Type 0) (test : A → Bool) (xs : List A) → ((x : A) → test x ≡ true → P x) → Holds P (find test xs)
holds_find P test [] h = tt
holds_find P test (x ∷ xs) h =
    holds_if P (test x) x (find test xs) (h x) (holds_find P test xs h)

-- a property that holds of an option holds of its value
pub holds_at : {A : Type 0} (P : A → Type 0) (o : Option A) (x : A) → Holds P o → o ≡ Some x → P x
holds_at P None x h e = cc
holds_at P (Some y) x h e = let k : y ≡ x = cc in subst P k h

-- a property that holds of an option may be replaced by one that follows from it for the option's value
pub holds_more : {A : Type 0} (P Q : A → Type 0) (o : Option A) → Holds P o → ((x : A) → o ≡ Some x → P x → Q x) → Holds Q o
holds_more P Q None h k = tt
holds_more P Q (Some x) h k = k x refl h

-- if an option under a test has a value, the test passed and the option has this value
pub when_gives : {A : Type 0} (t : Bool) (o : Option A) (x : A) → when t o ≡ Some x → (t ≡ true) × (o ≡ Some x)
when_gives true o x h = (refl, h)
when_gives false o x h = cc

-- if two tests pass together, each of them passes
pub both : (a b : Bool) → (a && b) ≡ true → (a ≡ true) × (b ≡ true)
both true true h = (refl, refl)
both true false h = cc
both false b h = cc

-- if the negation of a test is true, the test is false
pub not_true : (b : Bool) → not b ≡ true → b ≡ false
not_true true h = cc
not_true false h = refl

-- if the negation of a test is false, the test is true
pub not_false : (b : Bool) → not b ≡ false → b ≡ true
not_false true h = refl
not_false false h = cc
