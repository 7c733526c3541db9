-- The first of a part, by importance and number.
use Rattle.std.proofs.Common.{arith, inl, inr}
use Rattle.std.specs.Option.{option_or}
use Rattle.std.specs.Prelude.{Bool, List, None, Option, Some, [], false, find, if◌then◌else◌, length, not, refl, reverse, true, ℕ, ◌<◌, ◌==◌, ◌∷◌, ◌≡◌}
use Rattle.nt_event.specs.declared.events.Event.{Event}
use Rattle.nt_event.specs.declared.events.What.{What}
use Rattle.nt_event.specs.declared.inserts.Insert.{Insert}
use Rattle.nt_event.specs.declared.inserts.Part.{Part}
use Rattle.nt_event.specs.declared.numbers.CpuNo.{CpuNo}
use Rattle.nt_event.specs.declared.numbers.DpcNo.{DpcNo}
use Rattle.nt_event.specs.declared.scripts.Script.{Script}
use Rattle.nt_event.specs.Objects.{ObjectState, inserted_dpc, object_in, objects_at, queue_for, used_up_dpc}
use Rattle.nt_event.specs.Queues.{add_insert, drop_insert, first_dpc, is_high_in, is_in, is_of_dpc, is_queue, left_queue, new_insert, pending, without_dpc}
use Rattle.nt_event.proofs.Options.{both}
use Rattle.nt_runs.specs.First.{IsFirst}
use Rattle.nt_event.proofs.Elements.{found_contains, reversed_contains}
use Rattle.nt_runs.specs.Falling.{Falls}
use Rattle.nt_runs.proofs.Falling.{falls_from, falls_kept, found_greatest, last_least, none_found, none_last}

-- dropping inserts from a queue leaves their numbers falling
dropped_falls : (m : ℕ) (p by : CpuNo) (w : What) (o : Option DpcNo) (objects : List ObjectState) (xs : List Insert) → Falls (λ (x : Insert). x.number) m xs →
    Falls (λ (x : Insert). x.number) m (drop_insert p by w o objects xs)
dropped_falls m p by w None objects xs f = f
dropped_falls m p by w (Some d) objects xs f = go (is_queue (left_queue by w (object_in objects d)) p)
  where
    go : (b : Bool) → Falls (λ (x : Insert). x.number) m (if b then without_dpc d xs else xs)
    go true = falls_kept Insert (λ (x : Insert). x.number) m (λ x. not (is_of_dpc d x)) xs f
    go false = f

-- adding the newest insert to a queue leaves the numbers falling
added_falls : (s : Script) (p : CpuNo) (n m : ℕ) (by : CpuNo) (o : Option DpcNo) (objects : List ObjectState) (xs : List Insert) → n < m →
    Falls (λ (x : Insert). x.number) n xs →
    Falls (λ (x : Insert). x.number) m (add_insert s p n by o objects xs)
added_falls s p n m by None objects xs h f = falls_from Insert (λ (x : Insert). x.number) n m xs (omega (arith, h)) f
added_falls s p n m by (Some d) objects xs h f = go ((queue_for (object_in objects d).target by).0 == p.0)
  where
    go : (b : Bool) → Falls (λ (x : Insert). x.number) m (if b then (new_insert s d n (object_in objects d) ∷ xs) else xs)
    go true = (h, f)
    go false = falls_from Insert (λ (x : Insert). x.number) n m xs (omega (arith, h)) f

-- the pending inserts stand by falling numbers
pub pending_falls : (s : Script) (p : CpuNo) (past : List Event) → Falls (λ (x : Insert). x.number) (length past) (pending s p past)
pending_falls s p [] = tt
pending_falls s p (e ∷ past) =
    added_falls s p (length past) (length (e ∷ past)) e.cpu (inserted_dpc e.what) (objects_at s past)
    (drop_insert p e.cpu e.what (used_up_dpc e.what) (objects_at s past) (pending s p past)) (omega arith)
    (dropped_falls (length past) p e.cpu e.what (used_up_dpc e.what) (objects_at s past) (pending s p past) (pending_falls s p past))

-- ---- the first of a part

-- the insert read as first of a part is the first by importance and number, if the numbers fall
first_reads : (part : Part) (n : ℕ) (xs : List Insert) → Falls (λ (x : Insert). x.number) n xs → IsFirst part xs (first_dpc part xs)
first_reads part n xs f = go (find (is_high_in part) xs) refl
  where
    low : (o : Option Insert) → find (is_high_in part) xs ≡ None → find (is_in part) (reverse xs) ≡ o → IsFirst part xs o
    low None e k = λ y c. none_last Insert (λ (x : Insert). x.number) (is_in part) xs y k c
    low (Some x) e k =
        let found = found_contains (is_in part) (reverse xs) x k in (
          reversed_contains xs x found.0,
          found.1,
          inr (
            λ y c. none_found Insert (λ (x : Insert). x.number) (is_high_in part) xs y e c,
            λ y c t. last_least Insert (λ (x : Insert). x.number) (is_in part) n xs x y f k c t,
          ),
        )

    go : (o : Option Insert) → find (is_high_in part) xs ≡ o → IsFirst part xs (option_or o (find (is_in part) (reverse xs)))
    go None e = low (find (is_in part) (reverse xs)) e refl
    go (Some x) e =
        let found = found_contains (is_high_in part) xs x e in
        let b = both x.high (is_in part x) found.1 in
        (found.0, b.1, inl (b.0, λ y c t. found_greatest Insert (λ (x : Insert). x.number) (is_high_in part) n xs x y f e c t))

-- the DPC picked from a queue's part is the first by importance and number, or the part is empty
pub first_is_first : (s : Script) (p : CpuNo) (past : List Event) (part : Part) → IsFirst part (pending s p past) (first_dpc part (pending s p past))
first_is_first s p past part = first_reads part (length past) (pending s p past) (pending_falls s p past)
