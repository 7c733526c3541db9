-- What an event leaves of the values served.
use Rattle.std.proofs.Common.{arith, ap, lit<, sym, ◌∙◌}
use Rattle.std.proofs.lemmas.Bool.Decides.{nat_tests}
use Rattle.std.specs.Prelude.{Bool, List, false, if◌then◌else◌, length, refl, set, true, ℕ, ◌&&◌, ◌<◌, ◌==◌, ◌≡◌, ◌≤◌}
use Rattle.nt_event.specs.declared.commands.Command.{Command}
use Rattle.nt_event.specs.declared.commands.Reply.{Reply}
use Rattle.nt_event.specs.declared.events.What.{What}
use Rattle.nt_event.specs.declared.events.What.TheVariants.{Call}
use Rattle.nt_event.specs.Replies.{is_spin}
use Rattle.nt_event.specs.Classes.{dispatch_class}
use Rattle.nt_event.specs.Requests.{served_after, serves}
use Rattle.nt_event.specs.Lists.{table, value_at}
use Rattle.nt_event.proofs.Tables.{get_or-table, table-same}
use Rattle.nt_floor.specs.Seen.{SameInterrupts}
use Rattle.nt_floor.proofs.Values.{set_table, values_table}

-- an event that serves no class leaves the values
pub serves_none : (w : What) (seen xs : List ℕ) → length xs ≡ 16 → ((c : ℕ) → serves c w ≡ false) → xs
    ≡ table 16 (λ c. served_after w c (value_at seen c) (value_at xs c))
serves_none w seen xs l h =
    values_table xs l ∙ table-same 16 _ _ (λ c b. sym (ap (λ (s : Bool). if s then value_at seen c else value_at xs c) (h c)))

-- a class above 15 is none of them
pub serves_far : (xs ys : List ℕ) (k : ℕ) → length xs ≡ 16 → 16 ≤ k → xs ≡ table 16 (λ c. if k == c then value_at ys c else value_at xs c)
serves_far xs ys k l h =
    values_table xs l ∙ table-same 16 _ _ (λ c b. let e : (k == c) ≡ false = grind (arith, nat_tests) in rw e)

-- where the class is none of an interrupt, what was served of interrupts stays
pub serves_below : (xs ys new : List ℕ) (k : ℕ) → k ≤ dispatch_class → new ≡ table 16 (λ c. if k == c then value_at ys c else value_at xs c) →
    SameInterrupts xs new
serves_below xs ys new k l e c a b =
    let above = a.0 in
    let other : (k == c) ≡ false = grind (arith, nat_tests) in
    ap (λ (zs : List ℕ). value_at zs c) e
    ∙ (get_or-table 16 c (λ i. if k == i then value_at ys i else value_at xs i) 0 b
    ∙ ap (λ (t : Bool). if t then value_at ys c else value_at xs c) other)

-- the value of a class of another sixteen
pub set_value : (xs ys : List ℕ) (k : ℕ) → length xs ≡ 16 → k < 16 → set xs k (value_at ys k) ≡ table 16 (λ c. if k == c then value_at ys c else value_at xs c)
set_value xs ys k l h =
    set_table xs k (value_at ys k) l h ∙ table-same 16 _ _ (λ c b. go c (k == c) refl)
  where
    go : (c : ℕ) (b : Bool) → (k == c) ≡ b → (if b then value_at ys k else value_at xs c) ≡ (if b then value_at ys c else value_at xs c)
    go c true e = ap (value_at ys) (grind (arith, nat_tests))
    go c false e = refl

-- a try that spins serves the class of released locks
pub serves_try : (w : What) (seen xs : List ℕ) → length xs ≡ 16 → ((c : ℕ) → serves c w ≡ (c == 12)) → set xs 12 (value_at seen 12)
    ≡ table 16 (λ c. served_after w c (value_at seen c) (value_at xs c))
serves_try w seen xs l h =
    set_value xs seen 12 l (lit< tt) ∙ table-same 16 _ _ (λ c b. ap (λ (t : Bool). if t then value_at seen c else value_at xs c) (turned c ∙ sym (h c)))
  where
    turned : (c : ℕ) → (12 == c) ≡ (c == 12)
    turned c = go (12 == c) (c == 12) refl refl
      where
        go : (a b : Bool) → (12 == c) ≡ a → (c == 12) ≡ b → a ≡ b
        go true true p q = refl
        go false false p q = refl
        go true false p q = grind (arith, nat_tests)
        go false true p q = grind (arith, nat_tests)

-- a call serves nothing else
pub call_serves : (f : ℕ) (k : Command) (y : Reply) (c : ℕ) → is_spin y ≡ true → serves c (Call f k y) ≡ (c == 12)
call_serves f k y c h = ap (λ (b : Bool). (c == 12) && b) h ∙ and_true (c == 12)
  where
    and_true : (b : Bool) → (b && true) ≡ b
    and_true true = refl
    and_true false = refl

-- a call that does not spin serves no class
pub call_serves_none : (f : ℕ) (k : Command) (y : Reply) (c : ℕ) → is_spin y ≡ false → serves c (Call f k y) ≡ false
call_serves_none f k y c h = ap (λ (b : Bool). (c == 12) && b) h ∙ and_false (c == 12)
  where
    and_false : (b : Bool) → (b && false) ≡ false
    and_false true = refl
    and_false false = refl
