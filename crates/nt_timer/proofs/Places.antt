-- How the slots of due times change as the time advances.
use Rattle.std.proofs.Common.{◌≡◌, ◌⊎◌, ◌<◌, ◌≤◌, ◌+◌, ◌-◌, ◌*◌, ◌/◌, ◌%◌, ◌^◌, ℕ, ap, arith, inl, inr, refl, suc, sym, zero, ◌∙◌}
use Rattle.nt_timer.specs.declared.rings.TheConstants.{HEADS}
use Rattle.nt_timer.specs.Place.{IsSlotOf, digit}
use Rattle.nt_timer.specs.Slots.{index_from, slot_index}
use Rattle.std.proofs.Math.Nat.{div-div-eq-div-mul, mul_comm, pow-suc}
use Rattle.std.proofs.lemmas.Nat.{div_below, shr-shr}
use Rattle.std.proofs.lemmas.Bool.{cases_eq, eq-eqb, ne_eqb}

-- ---- one level

-- if time and due time differ at most in the last digit, the slot is the last digit of the due time
pub near : (f now due : ℕ) → now / 64 ≡ due / 64 → index_from (suc f) now due ≡ due % 64
unfolding index_from
near f now due e = rw (eq-eqb (now / 64) (due / 64) e) refl

-- if time and due time differ above the last digit, the slot is 64 after that of both without the last digit
pub far : (f now due : ℕ) → (now / 64 ≡ due / 64 → ⊥) → index_from (suc f) now due ≡ 64 + index_from f (now / 64) (due / 64)
unfolding index_from
far f now due e = rw (ne_eqb (now / 64) (due / 64) e) refl

-- with no level left, the slot is the due time itself
pub top : (now due : ℕ) → index_from zero now due ≡ due
unfolding index_from
top now due = refl

-- ---- the time advances from `past` to `now`

-- what stands in a later slot than that of the new time stays there, and isn't due
abbrev pub Later : ℕ → ℕ → ℕ → ℕ → Type 0
Later f past now due = (now < due) × (index_from f now due ≡ index_from f past due)

-- what stands in the slot of the new time or an earlier one is due, or goes to an earlier slot
abbrev pub Sooner : ℕ → ℕ → ℕ → ℕ → Type 0
Sooner f past now due = (due ≤ now) ⊎ (index_from f now due < index_from f past due)

-- a later time in another block of 64 has a later block number
up : (past now : ℕ) → past < now → (past / 64 ≡ now / 64 → ⊥) → past / 64 < now / 64
up past now h e = omega arith

-- case: new and due time in other blocks than the old one; a key keeps its slot if its block keeps its own
later_far : (f past now due : ℕ) → past < now → past < due → Later f (past / 64) (now / 64) (due / 64) → (past / 64 ≡ now / 64 → ⊥) →
    (past / 64 ≡ due / 64 → ⊥) →
    Later (suc f) past now due
later_far f past now due h k r e d =
    let less : now < due = let l = r.0 in omega arith in
    let ne : now / 64 ≡ due / 64 → ⊥ = λ z. let l = r.0 in omega arith in
    (less, far f now due ne ∙ ap (λ (n : ℕ). 64 + n) r.1 ∙ sym (far f past due d))

-- case: new and due time in other blocks than the old one; a key is due or goes to an earlier slot, as its block
sooner_far : (f past now due : ℕ) → past < now → past < due → Sooner f (past / 64) (now / 64) (due / 64) → (past / 64 ≡ now / 64 → ⊥) →
    (past / 64 ≡ due / 64 → ⊥) → (now / 64 ≡ due / 64) ⊎ (now / 64 ≡ due / 64 → ⊥) →
    Sooner (suc f) past now due
sooner_far f past now due h k r e d (inl same) =
    let a = near f now due same in let b = far f past due d in inr (omega arith)
sooner_far f past now due h k (inl low) e d (inr ne) = inl (omega arith)
sooner_far f past now due h k (inr less) e d (inr ne) =
    let a = far f now due ne in let b = far f past due d in inr (omega arith)

-- case: one more level; a key in a slot after that of the new time keeps its slot
later_step : (f past now due : ℕ) → past < now → past < due → (past / 64 < now / 64 → past / 64 < due / 64 →
    index_from f (past / 64) (now / 64) < index_from f (past / 64) (due / 64) → Later f (past / 64) (now / 64) (due / 64)) →
    index_from (suc f) past now < index_from (suc f) past due → (past / 64 ≡ now / 64) ⊎ (past / 64 ≡ now / 64 → ⊥) →
    (past / 64 ≡ due / 64) ⊎ (past / 64 ≡ due / 64 → ⊥) → Later (suc f) past now due
later_step f past now due h k rest less (inl e) (inl d) =
    let a = near f past now e in
    let b = near f past due d in
    let c = near f now due (sym e ∙ d) in
    (omega arith, c ∙ sym b)
later_step f past now due h k rest less (inl e) (inr d) =
    let ne : now / 64 ≡ due / 64 → ⊥ = λ z. d (e ∙ z) in
    let below : past / 64 < due / 64 = omega arith in
    (omega arith, far f now due ne ∙ ap (λ (n : ℕ). 64 + index_from f n (due / 64)) (sym e) ∙ sym (far f past due d))
later_step f past now due h k rest less (inr e) (inl d) =
    let a = far f past now e in let b = near f past due d in absurd (omega arith)
later_step f past now due h k rest less (inr e) (inr d) =
    let a = far f past now e in
    let b = far f past due d in
    later_far f past now due h k (rest (up past now h e) (up past due k d) (omega arith)) e d

-- with any levels left, a due time in a slot after that of the new time isn't reached and keeps its slot
pub later : (f past now due : ℕ) → past < now → past < due → index_from f past now < index_from f past due → Later f past now due
later zero past now due h k less =
    let a = top past now in
    let b = top past due in
    (omega arith, top now due ∙ sym (top past due))
later (suc f) past now due h k less =
    later_step f past now due h k (λ p q r. later f (past / 64) (now / 64) (due / 64) p q r) less (cases_eq (past / 64) (now / 64))
    (cases_eq (past / 64) (due / 64))

-- case: one more level; a key in the slot of the new time or an earlier one is due or goes to an earlier one
sooner_step : (f past now due : ℕ) → past < now → past < due → (past / 64 < now / 64 → past / 64 < due / 64 →
    index_from f (past / 64) (due / 64) ≤ index_from f (past / 64) (now / 64) → Sooner f (past / 64) (now / 64) (due / 64)) →
    index_from (suc f) past due ≤ index_from (suc f) past now → (past / 64 ≡ now / 64) ⊎ (past / 64 ≡ now / 64 → ⊥) →
    (past / 64 ≡ due / 64) ⊎ (past / 64 ≡ due / 64 → ⊥) → Sooner (suc f) past now due
sooner_step f past now due h k rest less (inl e) (inl d) =
    let a = near f past now e in
    let b = near f past due d in
    inl (omega arith)
sooner_step f past now due h k rest less (inl e) (inr d) =
    let a = near f past now e in let b = far f past due d in absurd (omega arith)
sooner_step f past now due h k rest less (inr e) (inl d) =
    inl (omega arith)
sooner_step f past now due h k rest less (inr e) (inr d) =
    let a = far f past now e in
    let b = far f past due d in
    sooner_far f past now due h k (rest (up past now h e) (up past due k d) (omega arith)) e d (cases_eq (now / 64) (due / 64))

-- with any levels left, a due time in a slot up to that of the new time is reached or goes to an earlier slot
pub sooner : (f past now due : ℕ) → past < now → past < due → index_from f past due ≤ index_from f past now → Sooner f past now due
sooner zero past now due h k less =
    let a = top past now in
    let b = top past due in
    inl (omega arith)
sooner (suc f) past now due h k less =
    sooner_step f past now due h k (λ p q r. sooner f (past / 64) (now / 64) (due / 64) p q r) less (cases_eq (past / 64) (now / 64))
    (cases_eq (past / 64) (due / 64))

-- ---- going up by a level

-- going up a level where the higher digits differ leaves the slot that is looked for as it was
pub climbs : (level now due index : ℕ) → level < 10 → (now / 64 ≡ due / 64 → ⊥) → 64 * level + index_from (10 - level) now due ≡ index →
    64 * (level + 1) + index_from (10 - (level + 1)) (now / 64) (due / 64) ≡ index
climbs level now due index h e at =
    let n : 10 - level ≡ suc (10 - (level + 1)) = omega arith in
    let step : index_from (10 - level) now due ≡ 64 + index_from (10 - (level + 1)) (now / 64) (due / 64) =
    rw n (far (10 - (level + 1)) now due e) in
    omega (arith, at, step)

-- at the level where the higher digits are the same, the level and the digit there give the slot
pub stops : (level now due index : ℕ) → level < 10 → now / 64 ≡ due / 64 → 64 * level + index_from (10 - level) now due ≡ index →
    64 * level + due % 64 ≡ index
stops level now due index h e at =
    let n : 10 - level ≡ suc (10 - (level + 1)) = omega arith in
    let step : index_from (10 - level) now due ≡ due % 64 = rw n (near (10 - (level + 1)) now due e) in
    omega (arith, at, step)

-- a due time without the digits below a level, less one digit more, is without those below the next level
pub without_digit : (level due high : ℕ) → high ≡ due / 2 ^ (6 * level) → high / 64 ≡ due / 2 ^ (6 * (level + 1))
without_digit level due high e =
    let n : 6 * (level + 1) ≡ 6 * level + 6 = omega arith in rw (e, n) (shr-shr due (6 * level) 6)

-- ---- how far the time reaches

abbrev pub reach : ℕ → ℕ
reach zero = 64
reach (suc m) = reach m * 64

-- case: one more level; the slot index of a later time is below 64 for each level
bounded_step : (m f past now : ℕ) → past < now → (past / 64 < now / 64 → index_from f (past / 64) (now / 64) < 64 * (m + 1)) →
    (past / 64 ≡ now / 64) ⊎ (past / 64 ≡ now / 64 → ⊥) → index_from (suc f) past now < 64 * (suc m + 1)
bounded_step m f past now h rest (inl e) = let a = near f past now e in omega arith
bounded_step m f past now h rest (inr e) =
    let a = far f past now e in let b = rest (up past now h e) in omega arith

-- the slot index of a later time within the reach of some levels is below 64 for each of these levels
bounded : (m f past now : ℕ) → m ≤ f → past < now → now < reach m → index_from f past now < 64 * (m + 1)
bounded zero zero past now h k less = let a = top past now in omega arith
bounded (suc m) zero past now h k less = absurd (omega arith)
bounded zero (suc f) past now h k less =
    let e : past / 64 ≡ now / 64 = omega arith in let a = near f past now e in omega arith
bounded (suc m) (suc f) past now h k less =
    bounded_step m f past now k (λ up. bounded m f (past / 64) (now / 64) (omega arith) up (div_below now 64 (reach m) (omega arith) less))
    (cases_eq (past / 64) (now / 64))

-- ---- the slots of the wheel

-- the slot of a new time below 2 ^ 50 is one of the wheel's
pub within : (past now : ℕ) → past < now → now < 2 ^ 50 → slot_index past now < HEADS
unfolding slot_index
within past now h less = bounded 8 10 past now (omega arith) h (omega arith)

-- as the time advances, a due time in a slot after that of the new time isn't reached and keeps its slot
pub stays : (past now due : ℕ) → past < now → past < due → slot_index past now < slot_index past due →
    (now < due) × (slot_index now due ≡ slot_index past due)
unfolding slot_index
stays past now due h k less = later 10 past now due h k less

-- as the time advances, a due time in a slot up to that of the new time is reached or goes to an earlier slot
pub moves : (past now due : ℕ) → past < now → past < due → slot_index past due ≤ slot_index past now →
    (due ≤ now) ⊎ (slot_index now due < slot_index past due)
unfolding slot_index
moves past now due h k less = sooner 10 past now due h k less

-- ---- level and slot are those of the digits

-- a digit at a place above the lowest is the digit one place lower of the number divided by 64
digit_up : (k x : ℕ) → digit (suc k) x ≡ digit k (x / 64)
digit_up k x =
    let p : 64 ^ suc k ≡ 64 * 64 ^ k = pow-suc 64 k ∙ mul_comm (64 ^ k) 64 in
    ap (λ (n : ℕ). x / n % 64) p ∙ ap (λ (n : ℕ). n % 64) (sym (div-div-eq-div-mul x 64 (64 ^ k)))

-- the lowest digit of a number is its remainder by 64
digit_low : (x : ℕ) → digit 0 x ≡ x % 64
digit_low x = let e : x / 1 ≡ x = omega arith in ap (λ (n : ℕ). n % 64) e

-- two times in the same block of 64 have the same digits above the lowest
same_above : (now due : ℕ) → now / 64 ≡ due / 64 → (place : ℕ) → 0 < place → digit place now ≡ digit place due
same_above now due e zero h = absurd (omega arith)
same_above now due e (suc k) h = digit_up k now ∙ ap (digit k) e ∙ sym (digit_up k due)

-- a due time in the same block of 64 as the time has the slot of its lowest digit, on level 0
lowest : (now due level slot : ℕ) → now < due → now / 64 ≡ due / 64 → level ≡ 0 → slot ≡ due % 64 → IsSlotOf now due level slot
lowest now due level slot h e l s =
    rw l (record {
      own = s ∙ sym (digit_low due);
      differs = λ z. let a = digit_low now in let b = digit_low due in omega arith;
      above = same_above now due e;
    })

-- digits that agree above a level for the numbers divided by 64 agree above the next level for the numbers
higher_above : (now due level : ℕ) → ((place : ℕ) → level < place → digit place (now / 64) ≡ digit place (due / 64)) → (place : ℕ) → suc level < place →
    digit place now ≡ digit place due
higher_above now due level h zero less = absurd (omega arith)
higher_above now due level h (suc k) less = digit_up k now ∙ h k (omega arith) ∙ sym (digit_up k due)

-- the slot of two times divided by 64 is the slot of the times one level higher
higher : (now due level slot level' slot' : ℕ) → IsSlotOf (now / 64) (due / 64) level slot → level' ≡ suc level → slot' ≡ slot → IsSlotOf now due level' slot'
higher now due level slot level' slot' x l s =
    rw (l, s) (record {
      own = x.own ∙ sym (digit_up level due);
      differs = λ z. x.differs (sym (digit_up level now) ∙ z ∙ digit_up level due);
      above = higher_above now due level x.above;
    })

-- case: one more level; the slot index gives the level of the highest different digit and this digit
digits_step : (f now due : ℕ) → now < due → (now / 64 < due / 64 → IsSlotOf (now / 64) (due / 64) (index_from f (now / 64) (due / 64) / 64)
    (index_from f (now / 64) (due / 64) % 64)) → (now / 64 ≡ due / 64) ⊎ (now / 64 ≡ due / 64 → ⊥) →
    IsSlotOf now due (index_from (suc f) now due / 64) (index_from (suc f) now due % 64)
digits_step f now due h rest (inl e) = let a = near f now due e in
    lowest now due (index_from (suc f) now due / 64) (index_from (suc f) now due % 64) h e (omega arith) (omega arith)
digits_step f now due h rest (inr e) =
    let a = far f now due e in
    higher now due (index_from f (now / 64) (due / 64) / 64) (index_from f (now / 64) (due / 64) % 64) (index_from (suc f) now due / 64)
    (index_from (suc f) now due % 64)
    (rest (up now due h e)) (omega arith) (omega arith)

-- the slot index of a due time within reach gives the highest place of different digits, and the digit there
digits : (f now due : ℕ) → now < due → due < reach f → IsSlotOf now due (index_from f now due / 64) (index_from f now due % 64)
digits zero now due h less =
    let a = top now due in lowest now due (index_from zero now due / 64) (index_from zero now due % 64) h (omega arith) (omega arith) (omega arith)
digits (suc f) now due h less =
    digits_step f now due h (λ l. digits f (now / 64) (due / 64) l (div_below due 64 (reach f) (omega arith) less)) (cases_eq (now / 64) (due / 64))

-- the slot of a due time to come names the highest digit that differs from the time's, and its value
pub slot_digits : (now due : ℕ) → now < due → due < 2 ^ 64 → IsSlotOf now due (slot_index now due / 64) (slot_index now due % 64)
unfolding slot_index
slot_digits now due h less = digits 10 now due h (omega arith)
