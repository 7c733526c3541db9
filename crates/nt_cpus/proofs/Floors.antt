-- A floor that follows a history: where no event was made, and what it tells of the values of a look.
use Rattle.std.proofs.Common.{ap, arith, sym, ◌∙◌}
use Rattle.std.proofs.lemmas.Bool.Decides.{nat_tests}
use Rattle.std.specs.Prelude.{Bool, List, [], false, length, refl, suc, true, ℕ, ◌&&◌, ◌+◌, ◌-◌, ◌<◌, ◌==◌, ◌||◌, ◌∷◌, ◌≡◌, ◌≢◌, ◌≤◌}
use Rattle.nt_event.specs.declared.events.Event.{Event}
use Rattle.nt_event.specs.declared.numbers.CpuNo.{CpuNo}
use Rattle.nt_event.specs.declared.scripts.Script.{Script}
use Rattle.nt_event.specs.Requests.{asks}
use Rattle.nt_event.specs.Step.{was_asked}
use Rattle.nt_floor.specs.Views.{HasWord, IsUnmoved, View}
use Rattle.nt_cpu.specs.Runs.{Follows, asked_rises, asks_at}
use Rattle.nt_cpus.specs.Asking.{are_marked}

-- a floor that follows a history still follows it where the floor has not moved
pub follows_still : (s : Script) (past : List Event) (v w : View) → Follows s past v → IsUnmoved v w → Follows s past w
follows_still s past v w h u = record {
  cpus = u.same.cpus ∙ h.cpus;
  alone = u.same.alone ∙ h.alone;
  next = (u.exact h.alone).0 ∙ h.next;
  states = u.same.states ∙ h.states;
  told = λ x q k b. u.same.told x q k (word q k b) ∙ h.told x q k (word q k b);
  value = λ q k b. (u.exact h.alone).1 q k (word q k b) ∙ h.value q k (word q k b);
  marked = λ n q k b. u.marked n q k (word q k b) ∙ h.marked n q k (word q k b);
}
  where
    word : (q : CpuNo) (k : ℕ) → HasWord w q k → HasWord v q k
    word q k b = let c = u.same.cpus in (omega arith, b.1)

-- ---- the values of a look

-- a disjunction is the same with its parts swapped and an equal one in place of the second
swap : (a b c : Bool) → b ≡ c → (a || b) ≡ (c || a)
swap true true c h = rw (sym h) refl
swap true false c h = rw (sym h) refl
swap false true c h = rw (sym h) refl
swap false false c h = rw (sym h) refl

-- the number before a nonzero one tests equal to another exactly if that one's successor equals the first
same_test : (v n : ℕ) → v ≢ 0 → ((v - 1) == n) ≡ (v == n + 1)
same_test v n h = grind (arith, nat_tests)

-- the event before a value asked for it
pub asked_number : (s : Script) (q : CpuNo) (k v : ℕ) (past : List Event) → v ≢ 0 → asks_at s (v - 1) q k past ≡ was_asked s q k v past
asked_number s q k v [] h = refl
asked_number s q k v (e ∷ past) h =
    swap (asks_at s (v - 1) q k past) (((v - 1) == length past) && asks s q k e past) ((v == length past + 1) && asks s q k e past)
    (ap (λ (b : Bool). b && asks s q k e past) (same_test v (length past) h))
    ∙ ap (λ (b : Bool). ((v == length past + 1) && asks s q k e past) || b) (asked_number s q k v past h)

-- a floor that follows a history tells of one value of a look whether it was asked for
one_value : (s : Script) (past : List Event) (w : View) (p : CpuNo) (k x : ℕ) → Follows s past w → p.0 < s.cpus → k < 16 → ((x == 0) || w.marked (x - 1) p k)
    ≡ ((x == 0) || was_asked s p k x past)
one_value s past w p k x f b h = go (x == 0) refl
  where
    go : (z : Bool) → (x == 0) ≡ z → (z || w.marked (x - 1) p k) ≡ (z || was_asked s p k x past)
    go true e = refl
    go false e =
        let n : x ≢ 0 = grind (arith, nat_tests) in
        let c = f.cpus in
        let i : HasWord w p k = (omega arith, h) in
        f.marked (x - 1) p k i ∙ asked_number s p k x past n

-- the values that the floor has marked are those that were asked for
pub marked_asked : (s : Script) (past : List Event) (w : View) (p : CpuNo) (k : ℕ) (xs : List ℕ) → Follows s past w → p.0 < s.cpus → k + length xs ≤ 16 →
    are_marked w p k xs ≡ asked_rises s p k xs past
marked_asked s past w p k [] f b h = refl
marked_asked s past w p k (x ∷ xs) f b h =
    let i : k < 16 = omega (arith, h) in
    let j : suc k + length xs ≤ 16 = omega (arith, h) in
    ap (λ (z : Bool). z && are_marked w p (suc k) xs) (one_value s past w p k x f b i)
    ∙ ap (λ (z : Bool). ((x == 0) || was_asked s p k x past) && z) (marked_asked s past w p (suc k) xs f b j)
