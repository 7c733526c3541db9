-- Entries of an object in a queue.
use Rattle.std.proofs.Common.{inl, inr, Bool, List, Some, ap, eqb, eq-eqb, false, refl, sym, true, ◌∙◌, ◌∷◌, ◌≡◌, ◌||◌, []}
use Rattle.std.proofs.lemmas.Bool.{eqb-false, eqb-true, ne_eqb, or_left, or_right}
use Rattle.nt_event.specs.declared.inserts.Insert.{Insert}
use Rattle.nt_event.specs.declared.inserts.Part.{Part}
use Rattle.nt_event.specs.declared.numbers.DpcNo.{DpcNo}
use Rattle.nt_event.specs.Queues.{first_dpc, is_of_dpc, without_dpc}
use Rattle.nt_dpc.specs.Queues.{holds_dpc}
use Rattle.nt_dpc.proofs.Numbered.{Stands}
use Rattle.nt_dpc.proofs.Once.{without_cons_no, without_cons_yes}
use Rattle.nt_dpc.proofs.Pending.{first_stands}

-- a queue in which an insert stands has an entry of the insert's object
pub stands_holds : (x : Insert) (xs : List Insert) → Stands x xs → holds_dpc x.dpc xs ≡ true
stands_holds x [] at = absurd at
stands_holds x (y ∷ xs) (inl same) =
    or_left (is_of_dpc x.dpc y) (holds_dpc x.dpc xs) (eq-eqb y.dpc.0 x.dpc.0 (sym (ap (λ (z : Insert). z.dpc.0) same)))
stands_holds x (y ∷ xs) (inr at) = or_right (is_of_dpc x.dpc y) (holds_dpc x.dpc xs) (stands_holds x xs at)

-- the first of a part is one of the entries
pub first_holds : (part : Part) (xs : List Insert) (x : Insert) → first_dpc part xs ≡ Some x → holds_dpc x.dpc xs ≡ true
first_holds part xs x h = stands_holds x xs (first_stands part xs x h)

-- an entry of one DPC object is not an entry of another
apart : (d e : DpcNo) (x : Insert) → eqb d.0 e.0 ≡ false → is_of_dpc d x ≡ true → is_of_dpc e x ≡ false
apart d e x h k = ne_eqb x.dpc.0 e.0 (λ s. eqb-false d.0 e.0 h (sym (eqb-true x.dpc.0 d.0 k) ∙ s))

-- the entries of another object stay
pub holds_without_other : (d e : DpcNo) (xs : List Insert) → eqb d.0 e.0 ≡ false → holds_dpc e (without_dpc d xs) ≡ holds_dpc e xs
holds_without_other d e [] h = refl
holds_without_other d e (x ∷ xs) h = go d e x xs h (holds_without_other d e xs h) (is_of_dpc d x) refl
  where
    go : (d e : DpcNo) (x : Insert) (xs : List Insert) → eqb d.0 e.0 ≡ false → holds_dpc e (without_dpc d xs) ≡ holds_dpc e xs → (b : Bool) →
        is_of_dpc d x ≡ b → holds_dpc e (without_dpc d (x ∷ xs)) ≡ holds_dpc e (x ∷ xs)
    go d e x xs h rest true k = rw (without_cons_yes d x xs k, apart d e x h k) rest
    go d e x xs h rest false k = rw (without_cons_no d x xs k) (ap (λ (b : Bool). is_of_dpc e x || b) rest)
