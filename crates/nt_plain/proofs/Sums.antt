-- The sums of the words, at the start and where a word rises.
use Rattle.std.proofs.Common.{ap, arith, get_or, length, set, sym, ◌∙◌}
use Rattle.std.proofs.lemmas.Bool.{eqb-false, eqb-true}
use Rattle.std.proofs.lemmas.List.{get_or-set_other, get_or-set_same, length-replicate, length-set}
use Rattle.std.specs.Prelude.{Bool, List, false, refl, replicate, true, ℕ, ◌*◌, ◌+◌, ◌-◌, ◌<◌, ◌==◌, ◌^◌, ◌≡◌}
use Rattle.nt_event.specs.declared.numbers.CpuNo.{CpuNo}
use Rattle.nt_floor.specs.Sums.{sum_of}
use Rattle.nt_floor.proofs.Sums.{same_sums, sum_bound, sum_moves, zeros}
use Rattle.nt_plain.specs.Places.{value_in, word_place}
use Rattle.nt_plain.specs.Sums.{AreSums}
use Rattle.nt_plain.proofs.Apart.{same_word}

-- no word was raised
pub no_sums : (cpus : ℕ) → AreSums (replicate {A = ℕ} cpus 0) (replicate {A = ℕ} (16 * cpus) 0)
no_sums cpus =
    record {
      rows = length-replicate {A = ℕ} (16 * cpus) 0 ∙ ap (λ (n : ℕ). 16 * n) (sym (length-replicate {A = ℕ} cpus 0));
      each = each;
      fits = λ i. let none = zeros (16 * cpus) i in omega (arith, none);
    }
  where
    each : (p : CpuNo) → p.0 < length {A = ℕ} (replicate cpus 0) → get_or {A = ℕ} (replicate cpus 0) p.0 0 ≡ sum_of (value_in (replicate (16 * cpus) 0) p)
    each p h =
        let none = sum_bound 0 (value_in (replicate (16 * cpus) 0) p) (λ c l. let word = zeros (16 * cpus) (word_place p c) in omega (arith, word)) in
        let sum = zeros cpus p.0 in
        omega (arith, none, sum)

-- the sum rises with the word
pub raised_sums : (sums words : List ℕ) (p : CpuNo) (c to : ℕ) → AreSums sums words → c < 16 → p.0 < length sums → to < 2 ^ 64 → value_in words p c < to →
    AreSums (set sums p.0 (get_or sums p.0 0 + (to - value_in words p c))) (set words (word_place p c) to)
raised_sums sums words p c to are class row low up =
    record {
      rows = length-set words (word_place p c) to ∙ (are.rows ∙ ap (λ (n : ℕ). 16 * n) (sym (length-set sums p.0 sum)));
      each = λ q h. let size = length-set sums p.0 sum in each q (omega (arith, size)) (p.0 == q.0) refl;
      fits = λ i. fits i (word_place p c == i) refl;
    }
  where
    sum : ℕ
    sum = get_or sums p.0 0 + (to - value_in words p c)

    place : word_place p c < length words
    place = let size = are.rows in omega (arith, size)

    fits : (i : ℕ) (b : Bool) → (word_place p c == i) ≡ b → get_or (set words (word_place p c) to) i 0 < 2 ^ 64
    fits i true e = rw (← eqb-true (word_place p c) i e, get_or-set_same words (word_place p c) to 0 place) low
    fits i false e =
        rw (get_or-set_other words (word_place p c) i to 0 (λ s. eqb-false (word_place p c) i e (sym s))) (are.fits i)

    other_word : (q : CpuNo) (k : ℕ) → k < 16 → (p.0 ≡ q.0 → c ≡ k → ⊥) → value_in (set words (word_place p c) to) q k ≡ value_in words q k
    other_word q k h apart =
        get_or-set_other words (word_place p c) (word_place q k) to 0
        (λ s. let same = same_word q.0 p.0 k c h class s in apart (sym same.0) (sym same.1))

    each : (q : CpuNo) → q.0 < length sums → (b : Bool) → (p.0 == q.0) ≡ b →
        get_or (set sums p.0 sum) q.0 0 ≡ sum_of (value_in (set words (word_place p c) to) q)
    each q h false e =
        rw (get_or-set_other sums p.0 q.0 sum 0 (λ s. eqb-false p.0 q.0 e (sym s)))
        (are.each q h
        ∙ same_sums (value_in words q) (value_in (set words (word_place p c) to) q) (λ k l. sym (other_word q k l (λ s _. eqb-false p.0 q.0 e s))))
    each q h true e =
        let same : p.0 ≡ q.0 = eqb-true p.0 q.0 e in
        let moved = sum_moves (value_in words p) (value_in (set words (word_place p c) to) p) c class (λ k l a. other_word p k l (λ _ s. eqb-false c k a s)) in
        let new : value_in (set words (word_place p c) to) p c ≡ to = get_or-set_same words (word_place p c) to 0 place in
        let old = are.each p row in
        rw (← same, get_or-set_same sums p.0 sum 0 row) (omega (arith, moved, new, old))
