-- The keys of a set as a list of names.
use Rattle.std.proofs.Common.{Global, ◌≡◌, ℕ, ◌||◌, ◌+◌, Bool, true, false, cond, List, [], ◌∷◌, ◌++◌, map, Option, Some, refl, ◌∙◌, ap}
use Rattle.std.specs.Prelude.{String, string_bytes, string_eq, is_some}
use Rattle.std.specs.Str.{bytes_eq}
use Rattle.std.specs.List.{position, position_from, list_any}
use Rattle.std.proofs.lemmas.List.{map-append}
use Rattle.std.proofs.lemmas.Iterator.Adapters.{position_from-zero}
use Rattle.indexmap.specs.IndexSet.{insert_key}
use Rattle.nt_line.specs.Places.{place, placed}

-- a text's place among the keys of a set is its place among the bytes of the keys
from_map : (x : List ℕ) (ks : List (String Global)) (i : ℕ) → position_from (λ k. bytes_eq x (string_bytes k)) i ks
    ≡ position_from (bytes_eq x) i (map string_bytes ks)
from_map x [] i = refl
from_map x (k ∷ ks) i = ap (λ (o : Option ℕ). cond (bytes_eq x (string_bytes k)) (Some i) o) (from_map x ks (i + 1))

-- the position of a name among the keys of a set is its place in the list of names
pub place_of_keys : (x : List ℕ) (ks : List (String Global)) → position (λ k. bytes_eq x (string_bytes k)) ks ≡ place x (map string_bytes ks)
place_of_keys x ks = position_from-zero (λ k. bytes_eq x (string_bytes k)) ks ∙ from_map x ks 0

-- a test or a later find holds exactly if the find that makes this test first is there
one_more : (b : Bool) (o : Option ℕ) (i : ℕ) → (b || is_some o) ≡ is_some (cond b (Some i) o)
one_more true o i = refl
one_more false o i = refl

-- a string is among the keys exactly if its bytes have a place among the bytes of the keys
any_from : (s : String Global) (ks : List (String Global)) (i : ℕ) → list_any (string_eq s) ks
    ≡ is_some (position_from (bytes_eq (string_bytes s)) i (map string_bytes ks))
any_from s [] i = refl
any_from s (k ∷ ks) i = rw (any_from s ks (i + 1)) (one_more (bytes_eq (string_bytes s) (string_bytes k))
    (position_from (bytes_eq (string_bytes s)) (i + 1) (map string_bytes ks)) i)

-- what an insert makes of the keys
keys_placed_by : (s : String Global) (ks : List (String Global)) → map string_bytes (insert_key string_eq ks s) ≡ placed (string_bytes s) (map string_bytes ks)
keys_placed_by s ks = rw (any_from s ks 0) (choose (is_some (place (string_bytes s) (map string_bytes ks))))
  where
    choose : (b : Bool) → map string_bytes (cond b ks (ks ++ s ∷ [])) ≡ cond b (map string_bytes ks) (map string_bytes ks ++ string_bytes s ∷ [])
    choose true = refl
    choose false = map-append string_bytes ks (s ∷ [])

-- inserting a key into the set puts its name at the end of the list of names, unless it is there
pub keys_placed : (x : List ℕ) (s : String Global) (ks : List (String Global)) → string_bytes s ≡ x → map string_bytes (insert_key string_eq ks s)
    ≡ placed x (map string_bytes ks)
keys_placed x s ks e = rw (← e) (keys_placed_by s ks)
