-- What a processor has seen of requests: a value for each class.
use Rattle.std.specs.List.{list_any}
use Rattle.std.specs.Prelude.{Bool, List, ℕ, false, if◌then◌else◌, nat_lt, ◌<◌, ◌==◌, ◌≡◌}
use Rattle.nt_event.specs.Classes.{class_count, dispatch_class, lock_class}
use Rattle.nt_event.specs.Lists.{table, value_at}

-- the class is one of interrupts: above dispatch, and not that of released locks
abbrev pub IsInterrupt : ℕ → Type 0
IsInterrupt c = (dispatch_class < c) × ((c == lock_class) ≡ false)

-- the values of the classes of interrupts are the same
abbrev pub SameInterrupts : List ℕ → List ℕ → Type 0
SameInterrupts xs ys = (c : ℕ) → IsInterrupt c → c < class_count → value_at ys c ≡ value_at xs c

-- of these values those that are above what was seen of their class; 0 for the other classes
abbrev pub unseen : List ℕ → (ℕ → ℕ) → List ℕ
unseen seen values = table 16 (λ c. if nat_lt (value_at seen c) (values c) then values c else 0)

-- one of these values is
abbrev pub has_unseen : List ℕ → (ℕ → ℕ) → Bool
has_unseen seen values = list_any (λ v. nat_lt 0 v) (unseen seen values)
