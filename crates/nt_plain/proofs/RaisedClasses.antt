-- What was seen is raised class by class, in the classes that lanes tell of.
use Rattle.std.proofs.Common.{ap, arith, ◌∙◌}
use Rattle.std.proofs.lemmas.Bool.Decides.{nat_tests}
use Rattle.std.specs.Prelude.{Bool, List, false, get_or, if◌then◌else◌, length, max, refl, true, ℕ, ◌<◌, ◌==◌, ◌||◌, ◌≡◌}
use Rattle.nt_event.specs.Classes.{apc_class, clock_class, dispatch_class, lock_class, threaded_class}
use Rattle.nt_event.specs.Lists.{table, value_at}
use Rattle.nt_event.proofs.Tables.{is_table, length-table_from}
use Rattle.nt_floor.specs.Seen.{SameInterrupts}
use Rattle.nt_floor.proofs.Values.{raised_other, raised_value}
use Rattle.nt_plain.specs.Classes.{is_work_class, raised_class}

-- a value is raised to another one, where the test holds
abbrev raised_if : Bool → ℕ → ℕ → ℕ
raised_if b to old = if b then max old to else old

-- raising the values of one class raises that class's value to the told one and leaves the others
read : (c : ℕ) (told old new : List ℕ) (k : ℕ) → k < 16 → new ≡ raised_class c told old → value_at new k
    ≡ raised_if (c == k) (get_or told k 0) (value_at old k)
read c told old new k h e = raised_value old new c (get_or told c 0) k e h ∙ here (c == k) refl
  where
    here : (b : Bool) → (c == k) ≡ b → max (value_at old k) (if b then get_or told c 0 else 0) ≡ raised_if b (get_or told k 0) (value_at old k)
    here true f = let i : c ≡ k = grind (arith, nat_tests) in ap (λ (j : ℕ). max (value_at old k) (get_or told j 0)) i
    here false f = omega arith

-- raising a value twice to the same number is raising it once, if either test holds
twice : (a b : Bool) (to old : ℕ) → raised_if b to (raised_if a to old) ≡ raised_if (a || b) to old
twice true true to old = omega arith
twice true false to old = refl
twice false b to old = refl

-- raising a value by a told one that is zero where the test fails takes the greater of the two
whole : (b : Bool) (to old : ℕ) → (b ≡ false → to ≡ 0) → raised_if b to old ≡ max old to
whole true to old h = refl
whole false to old h = omega (arith, h refl)

-- raising the threaded, APC, dispatch and clock classes raises every class, if the others are told 0
pub raised_row : (told v0 v1 v2 v3 v4 : List ℕ) → v1 ≡ raised_class threaded_class told v0 → v2 ≡ raised_class apc_class told v1 → v3
    ≡ raised_class dispatch_class told v2 → v4 ≡ raised_class clock_class told v3 → ((c : ℕ) → c < 16 → is_work_class c ≡ false → get_or told c 0 ≡ 0) → v4
    ≡ table 16 (λ c. max (value_at v0 c) (get_or told c 0))
raised_row told v0 v1 v2 v3 v4 e1 e2 e3 e4 others =
    is_table v4 16 (λ c. max (value_at v0 c) (get_or told c 0)) (ap (λ (v : List ℕ). length v) e4 ∙ length-table_from 0 16 _) each
  where
    each : (k : ℕ) → k < 16 → value_at v4 k ≡ max (value_at v0 k) (get_or told k 0)
    each k h =
        let to : ℕ = get_or told k 0 in
        let a = read threaded_class told v0 v1 k h e1 in
        let b = read apc_class told v1 v2 k h e2 in
        let c = read dispatch_class told v2 v3 k h e3 in
        let d = read clock_class told v3 v4 k h e4 in
        d ∙ (ap (raised_if (clock_class == k) to) (c ∙ (ap (raised_if (dispatch_class == k) to) (b ∙ (ap (raised_if (apc_class == k) to) a
        ∙ twice (threaded_class == k) (apc_class == k) to (value_at v0 k)))
        ∙ twice (threaded_class == k || apc_class == k) (dispatch_class == k) to (value_at v0 k)))
        ∙ (twice ((threaded_class == k || apc_class == k) || dispatch_class == k) (clock_class == k) to (value_at v0 k)
        ∙ whole (is_work_class k) to (value_at v0 k) (others k h)))

-- by a lock, in the class that it tells of
pub raised_lock_row : (told old new : List ℕ) → new ≡ raised_class lock_class told old →
    ((c : ℕ) → c < 16 → (lock_class == c) ≡ false → get_or told c 0 ≡ 0) → new ≡ table 16 (λ c. max (value_at old c) (get_or told c 0))
raised_lock_row told old new e others =
    is_table new 16 (λ c. max (value_at old c) (get_or told c 0)) (ap (λ (v : List ℕ). length v) e ∙ length-table_from 0 16 _)
    (λ k h. read lock_class told old new k h e ∙ whole (lock_class == k) (get_or told k 0) (value_at old k) (others k h))

-- where the clock's value stays, those of interrupts do
pub row_interrupts : (told v0 v1 v2 v3 v4 : List ℕ) → v1 ≡ raised_class threaded_class told v0 → v2 ≡ raised_class apc_class told v1 → v3
    ≡ raised_class dispatch_class told v2 → SameInterrupts v3 v4 → SameInterrupts v0 v4
row_interrupts told v0 v1 v2 v3 v4 e1 e2 e3 same c a b =
    same c a b
    ∙ (raised_other v2 v3 dispatch_class (get_or told dispatch_class 0) c e3 b (λ e. omega (arith, a.0, e))
    ∙ (raised_other v1 v2 apc_class (get_or told apc_class 0) c e2 b (λ e. omega (arith, a.0, e))
    ∙ raised_other v0 v1 threaded_class (get_or told threaded_class 0) c e1 b (λ e. omega (arith, a.0, e))))
