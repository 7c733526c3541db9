-- The due keys, in the order in which they expire.
use Rattle.std.specs.Prelude.{Bool, List, [], if◌then◌else◌, nat_lt, suc, zero, ℕ, ◌&&◌, ◌<◌, ◌==◌, ◌||◌, ◌∷◌, ◌≡◌, ◌⊎◌}
use Rattle.nt_timer.specs.declared.due.DueKey.{DueKey}

abbrev pub is_before : DueKey → DueKey → Bool
is_before a b =
    nat_lt a.due b.due
    || ((a.due == b.due) && (nat_lt a.number b.number || ((a.number == b.number) && nat_lt a.key b.key)))

abbrev pub is_of_key : ℕ → DueKey → Bool
is_of_key k x = x.key == k

-- how many keys from the first on expire before this one
abbrev pub place_in : DueKey → List DueKey → ℕ
place_in x [] = zero
place_in x (y ∷ ys) = if is_before y x then suc (place_in x ys) else zero

-- the place of the first key of this number, or how many keys there are
abbrev pub place_of : ℕ → List DueKey → ℕ
place_of k [] = zero
place_of k (y ∷ ys) = if is_of_key k y then zero else suc (place_of k ys)

-- the keys with one more, before the first that doesn't expire before it
abbrev pub placed : DueKey → List DueKey → List DueKey
placed x [] = x ∷ []
placed x (y ∷ ys) = if is_before y x then y ∷ placed x ys else x ∷ y ∷ ys

-- the keys without the first of this number
abbrev pub without : ℕ → List DueKey → List DueKey
without k [] = []
without k (y ∷ ys) = if is_of_key k y then ys else y ∷ without k ys

-- the first expires before the second: by due time, then by the number of the event that set it, then by its own number
abbrev pub IsBefore : DueKey → DueKey → Type 0
IsBefore a b =
    (a.due < b.due) ⊎ ((a.due ≡ b.due) × ((a.number < b.number) ⊎ ((a.number ≡ b.number) × (a.key < b.key))))

abbrev pub IsIn : DueKey → List DueKey → Type 0
IsIn x [] = ⊥
IsIn x (y ∷ ys) = (x ≡ y) ⊎ IsIn x ys

-- each key expires before those that follow
abbrev pub AreSorted : List DueKey → Type 0
AreSorted [] = Unit {0}
AreSorted (y ∷ ys) = ((x : DueKey) → IsIn x ys → IsBefore y x) × AreSorted ys

-- no two have one number
abbrev pub EachOnce : List DueKey → Type 0
EachOnce [] = Unit {0}
EachOnce (y ∷ ys) = ((x : DueKey) → IsIn x ys → x.key ≡ y.key → ⊥) × EachOnce ys
