-- The class that is due, by the greatest one that is not served.
use Rattle.std.proofs.Common.{ap, arith, subst, sym, ◌∙◌}
use Rattle.std.proofs.lemmas.Bool.{not-true}
use Rattle.std.proofs.lemmas.Bool.Decides.{nat_tests}
use Rattle.std.specs.Prelude.{Bool, IfSome, List, None, Option, Some, [], false, find, if◌then◌else◌, nat_le, nat_lt, not, refl, true, ℕ, ◌&&◌, ◌<◌, ◌==◌, ◌∷◌}
use Rattle.std.specs.Prelude.{◌≡◌, ◌≤◌}
use Rattle.nt_event.specs.Classes.{class_count, dispatch_class, interrupt_classes, lock_class}
use Rattle.nt_event.specs.Lists.{value_at}
use Rattle.nt_floor.specs.Seen.{IsInterrupt, SameInterrupts}
use Rattle.nt_cpu.specs.Due.{above_level, greatest_due, is_unserved}

-- each class is at most the one before, the first at most m
abbrev falls : ℕ → List ℕ → Bool
falls m [] = true
falls m (x ∷ xs) = nat_le x m && falls x xs

-- the first part of a conjunction that holds does hold
first_of : (a b : Bool) → (a && b) ≡ true → a ≡ true
first_of true b h = refl
first_of false b h = absurd cc

-- the last part of a conjunction that holds does hold
last_of : (a b : Bool) → (a && b) ≡ true → b ≡ true
last_of true b h = h
last_of false b h = absurd cc

-- where m isn't above the level, none of them is
none_above : (level m : ℕ) (P : ℕ → Bool) (xs : List ℕ) → falls m xs ≡ true → nat_lt level m ≡ false → find (λ c. nat_lt level c && P c) xs ≡ None
none_above level m P [] h l = refl
none_above level m P (x ∷ xs) h l =
    let b : nat_le x m ≡ true = first_of (nat_le x m) (falls x xs) h in
    let u : nat_lt level x ≡ false = grind (arith, nat_tests) in
    ap (λ (z : Bool). if z && P x then Some x else find (λ c. nat_lt level c && P c) xs) u
    ∙ none_above level x P xs (last_of (nat_le x m) (falls x xs) h) u

-- the first of them that is above the level is the first one, if that is above it
first_above : (level m : ℕ) (P : ℕ → Bool) (xs : List ℕ) → falls m xs ≡ true → find (λ c. nat_lt level c && P c) xs ≡ above_level level (find P xs)
first_above level m P [] h = refl
first_above level m P (x ∷ xs) h =
    let tail = last_of (nat_le x m) (falls x xs) h in
    go (first_above level x P xs tail) (none_above level x P xs tail) (nat_lt level x) (P x) refl refl
  where
    more : Option ℕ
    more = find (λ c. nat_lt level c && P c) xs

    left : (a b : Bool) → nat_lt level x ≡ a → P x ≡ b → (if nat_lt level x && P x then Some x else more) ≡ (if a && b then Some x else more)
    left a b e k =
        ap (λ (z : Bool). if z && P x then Some x else more) e ∙ ap (λ (z : Bool). if a && z then Some x else more) k

    right : (a b : Bool) → nat_lt level x ≡ a → P x ≡ b → above_level level (if P x then Some x else find P xs)
        ≡ (if b then (if a then Some x else None) else above_level level (find P xs))
    right a true e k =
        ap (λ (z : Bool). above_level level (if z then Some x else find P xs)) k ∙ ap (λ (z : Bool). if z then Some x else None) e
    right a false e k = ap (λ (z : Bool). above_level level (if z then Some x else find P xs)) k

    go : more ≡ above_level level (find P xs) → (nat_lt level x ≡ false → more ≡ None) → (a b : Bool) → nat_lt level x ≡ a → P x ≡ b →
        (if nat_lt level x && P x then Some x else more) ≡ above_level level (if P x then Some x else find P xs)
    go later none true true e k = left true true e k ∙ sym (right true true e k)
    go later none true false e k = left true false e k ∙ (later ∙ sym (right true false e k))
    go later none false true e k = left false true e k ∙ (none e ∙ sym (right false true e k))
    go later none false false e k = left false false e k ∙ (later ∙ sym (right false false e k))

-- the first due class above the level
pub due_found : (level : ℕ) (seen served : List ℕ) → find (λ c. nat_lt level c && is_unserved seen served c) interrupt_classes
    ≡ above_level level (greatest_due seen served)
due_found level seen served = first_above level 14 (is_unserved seen served) interrupt_classes refl

-- a class that is found is at most m, and has what was looked for
found : (m : ℕ) (P : ℕ → Bool) (xs : List ℕ) → falls m xs ≡ true → IfSome (find P xs) (λ c. (c ≤ m) × (P c ≡ true))
found m P [] h = tt
found m P (x ∷ xs) h = go (found x P xs (last_of (nat_le x m) (falls x xs) h)) (P x) refl
  where
    least : x ≤ m
    least = (let b : nat_le x m ≡ true = first_of (nat_le x m) (falls x xs) h in grind (arith, nat_tests))

    weaker : (o : Option ℕ) → IfSome o (λ c. (c ≤ x) × (P c ≡ true)) → IfSome o (λ c. (c ≤ m) × (P c ≡ true))
    weaker None k = tt
    weaker (Some c) k = ((let l = k.0 in let n = least in omega (arith, l, n)), k.1)

    go : IfSome (find P xs) (λ c. (c ≤ x) × (P c ≡ true)) → (b : Bool) → P x ≡ b → IfSome (if b then Some x else find P xs) (λ c. (c ≤ m) × (P c ≡ true))
    go later true e = (least, e)
    go later false e = weaker (find P xs) later

-- what holds of an optional class holds of it after the classes at or below a level are dropped
above_found : (level : ℕ) (P : ℕ → Type 0) (o : Option ℕ) → IfSome o P → IfSome (above_level level o) P
above_found level P None h = tt
above_found level P (Some c) h = go (nat_lt level c)
  where
    go : (b : Bool) → IfSome (if b then Some c else None) P
    go true = h
    go false = tt

-- what has two properties if it is there has each of them
halves : (P Q : ℕ → Type 0) (o : Option ℕ) → IfSome o (λ c. P c × Q c) → IfSome o P × IfSome o Q
halves P Q None h = (tt, tt)
halves P Q (Some c) h = h

-- it is a class, and was asked for
pub due_class : (level : ℕ) (seen served : List ℕ) → IfSome (above_level level (greatest_due seen served)) (λ c. c < 16)
    × IfSome (above_level level (greatest_due seen served)) (λ c. 0 < value_at seen c)
due_class level seen served =
    halves (λ c. c < 16) (λ c. 0 < value_at seen c) (above_level level (greatest_due seen served))
    (above_found level (λ c. (c < 16) × (0 < value_at seen c)) (greatest_due seen served)
    (stronger (greatest_due seen served) (found 14 (is_unserved seen served) interrupt_classes refl)))
  where
    stronger : (o : Option ℕ) → IfSome o (λ c. (c ≤ 14) × (is_unserved seen served c ≡ true)) → IfSome o (λ c. (c < 16) × (0 < value_at seen c))
    stronger None k = tt
    stronger (Some c) k =
        let l = k.0 in
        let u : nat_lt (value_at served c) (value_at seen c) ≡ true = k.1 in
        ((omega (arith, l)), grind (arith, nat_tests))

-- ---- before the first event

-- no class is due if what was served is what was seen
same_none : (xs cs : List ℕ) → find (is_unserved xs xs) cs ≡ None
same_none xs [] = refl
same_none xs (c ∷ cs) =
    let u : nat_lt (value_at xs c) (value_at xs c) ≡ false = grind (arith, nat_tests) in
    ap (λ (z : Bool). if z then Some c else find (is_unserved xs xs) cs) u ∙ same_none xs cs

-- where all that was noticed is served, no class is due
pub none_due : (seen served : List ℕ) → seen ≡ served → None ≡ greatest_due seen served
none_due seen served e = subst (λ (xs : List ℕ). None ≡ greatest_due seen xs) e (sym (same_none seen interrupt_classes))

-- ---- where interrupts are as before

abbrev is_interrupt : ℕ → Bool
is_interrupt x = (nat_lt dispatch_class x && not (x == lock_class)) && nat_lt x class_count

abbrev are_interrupts : List ℕ → Bool
are_interrupts [] = true
are_interrupts (x ∷ xs) = is_interrupt x && are_interrupts xs

-- two tests that agree on the interrupt classes find the same class
find_same : (P Q : ℕ → Bool) (xs : List ℕ) → are_interrupts xs ≡ true → ((c : ℕ) → IsInterrupt c → c < class_count → P c ≡ Q c) → find P xs ≡ find Q xs
find_same P Q [] a h = refl
find_same P Q (x ∷ xs) a h =
    let here : is_interrupt x ≡ true = first_of (is_interrupt x) (are_interrupts xs) a in
    let kind = first_of (nat_lt dispatch_class x && not (x == lock_class)) (nat_lt x class_count) here in
    let low : nat_lt dispatch_class x ≡ true = first_of (nat_lt dispatch_class x) (not (x == lock_class)) kind in
    let other : not (x == lock_class) ≡ true = last_of (nat_lt dispatch_class x) (not (x == lock_class)) kind in
    let high : nat_lt x class_count ≡ true = last_of (nat_lt dispatch_class x && not (x == lock_class)) (nat_lt x class_count) here in
    ap (λ (b : Bool). if b then Some x else find P xs) (h x (grind (arith, nat_tests), not-true (x == lock_class) other) (grind (arith, nat_tests)))
    ∙ ap (λ (o : Option ℕ). if Q x then Some x else o)
    (find_same P Q xs (last_of (is_interrupt x) (are_interrupts xs) a) h)

-- the same interrupt is due
pub due_same : (seen served seen_then served_then : List ℕ) → SameInterrupts seen seen_then → SameInterrupts served served_then →
    greatest_due seen served ≡ greatest_due seen_then served_then
due_same seen served seen_then served_then h k =
    find_same (is_unserved seen served) (is_unserved seen_then served_then) interrupt_classes refl
    (λ c a b. ap (λ (v : ℕ). nat_lt v (value_at seen c)) (sym (k c a b)) ∙ ap (nat_lt (value_at served_then c)) (sym (h c a b)))
