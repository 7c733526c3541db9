-- The locks that a frame holds, in the two arrays that keep them.
use Rattle.std.proofs.Common.{◌≡◌, ℕ, zero, suc, ◌+◌, ◌-◌, ◌<◌, ◌≤◌, ◌==◌, Bool, true, false, ◌||◌, List, [], ◌∷◌, get_or, length, reverse, set}
use Rattle.std.proofs.Common.{take, ◌≢◌}
use Rattle.std.proofs.Common.{add-one, ap, arith, refl, ◌∙◌, All}
use Rattle.std.proofs.Math.Seq.{take-suc}
use Rattle.std.proofs.lemmas.Bool.Decides.{nat_tests}
use Rattle.std.proofs.lemmas.Bool.{eqb-true}
use Rattle.std.proofs.lemmas.List.{get_or-reverse, get_or-set_other, get_or-set_same, length-set, reverse-append}
use Rattle.std.proofs.lemmas.List.Elements.{All-cons, All-nil, recursion_from_All}
use Rattle.std.proofs.lemmas.Map.Keys.{IsDistinct-cons}
use Rattle.std.proofs.lemmas.Map.Steps.{length-le_from_distinct_below}
use Rattle.std.specs.List.{IsDistinct, list_any}
use Rattle.nt_event.specs.declared.frames.Held.{Held}
use Rattle.nt_event.specs.declared.numbers.LockNo.{LockNo}
use Rattle.nt_event.specs.Lists.{is_null, tail_of}
use Rattle.nt_event.specs.Numbers.{lock}
use Rattle.nt_frame.specs.HeldLocks.{AreArrays, AreLocks, held_in}

-- ---- the arrays

-- there are as many held locks as places used of the two arrays
pub length-held : (n : ℕ) (ls ks : List ℕ) → length (held_in n ls ks) ≡ n
length-held zero ls ks = refl
length-held (suc n) ls ks = ap suc (length-held n ls ks)

-- a write at or after the end changes no lock that is held
held_same : (n m : ℕ) (ls ks : List ℕ) (a b : ℕ) → n ≤ m → held_in n (set ls m a) (set ks m b) ≡ held_in n ls ks
held_same zero m ls ks a b h = refl
held_same (suc n) m ls ks a b h =
    rw (get_or-set_other ls m n a 0 (λ e. absurd (omega arith)), get_or-set_other ks m n b 0 (λ e. absurd (omega arith)), held_same n m ls ks a b (omega arith))
    refl

-- a lock and a level written at the next free place of the arrays are the newest held lock
pub held_more : (n : ℕ) (ls ks : List ℕ) (a b : ℕ) → n < length ls → n < length ks →
    held_in (n + 1) (set ls n a) (set ks n b) ≡ record { lock = lock a; kept = b } ∷ held_in n ls ks
held_more n ls ks a b h k =
    rw (add-one, get_or-set_same ls n a 0 h, get_or-set_same ks n b 0 k, held_same n n ls ks a b (omega arith)) refl

-- where there is one, the last one and the others
pub held_last : (n : ℕ) (ls ks : List ℕ) → 0 < n →
    held_in n ls ks ≡ record { lock = lock (get_or ls (n - 1) 0); kept = get_or ks (n - 1) 0 } ∷ held_in (n - 1) ls ks
held_last zero ls ks h = absurd (omega arith)
held_last (suc n) ls ks h = let e : suc n - 1 ≡ n = omega arith in rw e refl

-- no lock is held exactly if no place of the arrays is used
pub held_null : (n : ℕ) (ls ks : List ℕ) → is_null (held_in n ls ks) ≡ (n == 0)
held_null zero ls ks = refl
held_null (suc n) ls ks = grind (arith, nat_tests)

-- each of them by its place in the arrays
held_at : (n i : ℕ) (ls ks : List ℕ) (other : Held) → i < n →
    get_or (held_in n ls ks) (n - 1 - i) other ≡ record { lock = lock (get_or ls i 0); kept = get_or ks i 0 }
held_at zero i ls ks other h = absurd (omega (arith, h))
held_at (suc n) i ls ks other h = here (i == n) refl (held_at n i ls ks other)
  where
    here : (b : Bool) → (i == n) ≡ b →
        (i < n → get_or (held_in n ls ks) (n - 1 - i) other ≡ record { lock = lock (get_or ls i 0); kept = get_or ks i 0 }) →
        get_or (held_in (suc n) ls ks) (suc n - 1 - i) other ≡ record { lock = lock (get_or ls i 0); kept = get_or ks i 0 }
    here true k before =
        let e : i ≡ n = eqb-true i n k in
        let z : suc n - 1 - i ≡ 0 = omega (arith, e) in
        rw (z, e) refl
    here false k before =
        let j : i ≢ n = grind (arith, nat_tests) in
        let l : i < n = omega (arith, h, j) in
        let z : suc n - 1 - i ≡ suc (n - 1 - i) = omega (arith, l) in
        rw z (before l)

-- the one at this place, in the order in which they were acquired
pub held_place : (n i : ℕ) (ls ks : List ℕ) (other : Held) → i < n →
    get_or (reverse (held_in n ls ks)) i other ≡ record { lock = lock (get_or ls i 0); kept = get_or ks i 0 }
held_place n i ls ks other h =
    let l = length-held n ls ks in
    get_or-reverse (held_in n ls ks) i other (omega (arith, h, l))
    ∙ (ap (λ (m : ℕ). get_or (held_in n ls ks) (m - 1 - i) other) l ∙ held_at n i ls ks other h)

-- the lock is among them
pub held_has : (k n : ℕ) (ls ks : List ℕ) → n ≤ length ls → list_any (λ l. l == k) (reverse (take n ls)) ≡ list_any (λ h. h.lock.0 == k) (held_in n ls ks)
held_has k zero ls ks h = refl
held_has k (suc n) ls ks h =
    rw (take-suc ls n 0 (omega arith), reverse-append) (ap (λ (b : Bool). (get_or ls n 0 == k) || b) (held_has k n ls ks (omega arith)))

-- ---- there is room for one more

abbrev numbers : List Held → List ℕ
numbers [] = []
numbers (h ∷ hs) = h.lock.0 ∷ numbers hs

-- a list of held locks has as many lock numbers as locks
length-numbers : (hs : List Held) → length (numbers hs) ≡ length hs
length-numbers [] = refl
length-numbers (h ∷ hs) = ap suc (length-numbers hs)

-- if no held lock has a number, it differs from each of their lock numbers
none_is : (k : ℕ) (hs : List Held) → list_any (λ h. h.lock.0 == k) hs ≡ false → All (λ y. (k == y) ≡ false) (numbers hs)
none_is k [] f = All-nil (λ y. (k == y) ≡ false)
none_is k (h ∷ hs) f = go (h.lock.0 == k) refl f (none_is k hs)
  where
    go : (b : Bool) → (h.lock.0 == k) ≡ b → (b || list_any (λ g. g.lock.0 == k) hs) ≡ false →
        (list_any (λ g. g.lock.0 == k) hs ≡ false → All (λ y. (k == y) ≡ false) (numbers hs)) → All (λ y. (k == y) ≡ false) (h.lock.0 ∷ numbers hs)
    go true e q later = absurd (cc)
    go false e q later = All-cons (λ y. (k == y) ≡ false) h.lock.0 (numbers hs) (grind (arith, nat_tests)) (later q)

-- the lock numbers of held locks that are each held once are distinct
distinct : (hs : List Held) → AreLocks hs → IsDistinct (λ a b. a == b) (numbers hs)
unfolding IsDistinct
distinct [] a = tt
distinct (h ∷ hs) a =
    IsDistinct-cons (λ a b. a == b) h.lock.0 (numbers hs) (recursion_from_All (λ y. (h.lock.0 == y) ≡ false) (numbers hs) (none_is h.lock.0 hs a.1))
    (distinct hs a.2)

-- each lock number of held locks is below 64
below : (hs : List Held) → AreLocks hs → (q : ℕ) → list_any (λ y. q == y) (numbers hs) ≡ true → q < 64
below [] a q m = cc
below (h ∷ hs) a q m = go (q == h.lock.0) refl m (below hs a.2 q)
  where
    go : (b : Bool) → (q == h.lock.0) ≡ b → (b || list_any (λ y. q == y) (numbers hs)) ≡ true → (list_any (λ y. q == y) (numbers hs) ≡ true → q < 64) → q < 64
    go true e n later = let i : q ≡ h.lock.0 = grind (arith, nat_tests) in omega (arith, a.0)
    go false e n later = later n

-- a frame that doesn't hold one of the 64 locks holds fewer than 64
pub held_room : (k : LockNo) (hs : List Held) → AreLocks hs → k.0 < 64 → list_any (λ h. h.lock.0 == k.0) hs ≡ false → length hs < 64
held_room k hs a b f =
    let all : AreLocks (record { lock = k; kept = 0 } ∷ hs) = (b, f, a) in
    let n : length (numbers (record { lock = k; kept = 0 } ∷ hs)) ≤ 64 = length-le_from_distinct_below (numbers (record { lock = k; kept = 0 } ∷ hs)) 64
    (distinct (record { lock = k; kept = 0 } ∷ hs) all) (below (record { lock = k; kept = 0 } ∷ hs) all) in
    let m : suc (length (numbers hs)) ≤ 64 = n in
    omega (arith, length-numbers hs)

-- held locks that are all different stay so without the newest one
pub tail_locks : (hs : List Held) → AreLocks hs → AreLocks (tail_of hs)
tail_locks [] a = tt
tail_locks (h ∷ hs) a = a.2

-- the arrays stay well formed where a lock that isn't held is written at the next free place
pub arrays_more : (n : ℕ) (ls ks : List ℕ) (k : LockNo) (level : ℕ) → AreArrays n ls ks → k.0 < 64 →
    list_any (λ h. h.lock.0 == k.0) (held_in n ls ks) ≡ false → AreArrays (n + 1) (set ls n k.0) (set ks n level)
arrays_more n ls ks k level a b f =
    let room : n < 64 = omega (arith, held_room k (held_in n ls ks) a.held b f, length-held n ls ks) in
    record {
      count = omega arith;
      locks = length-set ls n k.0 ∙ a.locks;
      levels = length-set ks n level ∙ a.levels;
      held = rw (held_more n ls ks k.0 level (omega (arith, a.locks)) (omega (arith, a.levels))) (b, f, a.held);
    }

-- where a lock isn't held, the arrays have a free place
pub arrays_room : (n : ℕ) (ls ks : List ℕ) (k : LockNo) → AreArrays n ls ks → k.0 < 64 → list_any (λ h. h.lock.0 == k.0) (held_in n ls ks) ≡ false → n < 64
arrays_room n ls ks k a b f = omega (arith, held_room k (held_in n ls ks) a.held b f, length-held n ls ks)

-- the arrays stay well formed where the newest held lock is given up
pub arrays_less : (n : ℕ) (ls ks : List ℕ) → AreArrays n ls ks → 0 < n → AreArrays (n - 1) ls ks
arrays_less zero ls ks a h = absurd (omega arith)
arrays_less (suc n) ls ks a h =
    let e : suc n - 1 ≡ n = omega arith in
    rw e (record { count = omega (arith, a.count); locks = a.locks; levels = a.levels; held = a.held.2 })
