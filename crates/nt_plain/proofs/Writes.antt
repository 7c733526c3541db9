-- What a list of requests leaves of the words, the marks and the told values.
use Rattle.std.proofs.Common.{ap, arith, eqb, get_or, inl, inr, length, set, sym, w16, ◌∙◌}
use Rattle.std.proofs.lemmas.Bool.{and_cases, eqb-false, eqb-true}
use Rattle.std.proofs.lemmas.List.{get_or-set_other, get_or-set_same, length-set}
use Rattle.std.proofs.lemmas.Nat.Bits.{bit_at_set_other, bit_at_set_same}
use Rattle.std.specs.Int.{bit_at}
use Rattle.std.specs.List.{list_any}
use Rattle.std.specs.Prelude.{All, Bool, List, [], false, if◌then◌else◌, max, refl, true, ℕ, ◌&&◌, ◌*◌, ◌<◌, ◌==◌, ◌||◌, ◌∷◌, ◌≡◌, ◌≤◌, ◌⊎◌}
use Rattle.nt_event.specs.declared.numbers.CpuNo.{CpuNo}
use Rattle.nt_event.specs.Requests.{Ask, is_ask}
use Rattle.nt_plain.specs.Made.{marked_all, marked_in, raised_word, raised_words, with_bit}
use Rattle.nt_plain.specs.Places.{is_marked, row_of, value_in, word_place}
use Rattle.nt_states.proofs.Requests.{all_head, all_tail, is_ask_true}
use Rattle.nt_plain.proofs.Apart.{below_rows, same_row, same_word}

-- the processor is below the count, and the class one of the sixteen
pub record AskWithin (cpus : ℕ) (a : Ask) : Type 0 where
  pub cpu : a.cpu.0 < cpus
  pub class : a.class < 16

-- a choice between a number and itself is that number
either : (b : Bool) (x : ℕ) → (if b then x else x) ≡ x
either true x = refl
either false x = refl

-- true is true or anything
or_true : (b : Bool) → true ≡ (b || true)
or_true true = refl
or_true false = refl

-- anything or false is itself
or_false : (b : Bool) → (b || false) ≡ b
or_false true = refl
or_false false = refl

-- adding a test that always fails to a disjunction changes nothing
over_nothing : (b c : Bool) → b ≡ (b || (c && false))
over_nothing true c = refl
over_nothing false true = refl
over_nothing false false = refl

-- two tests under the same condition join into one under it
regroup : (b c x y : Bool) → ((b || (c && x)) || (c && y)) ≡ (b || (c && (x || y)))
regroup true c x y = refl
regroup false true x y = refl
regroup false false x y = refl

-- a place is read after another, or the same, was written
pub written : (xs : List ℕ) (i j v : ℕ) (b : Bool) → i < length xs → (b ≡ true → j ≡ i) → (b ≡ false → j ≡ i → ⊥) → get_or (set xs i v) j 0
    ≡ (if b then v else get_or xs j 0)
written xs i j v true h same other = rw (same refl) (get_or-set_same xs i v 0 h)
written xs i j v false h same other = get_or-set_other xs i j v 0 (other refl)

-- a request that is not for a class on a processor differs from it in the processor or the class
pub is_ask_false : (q : CpuNo) (d : ℕ) (a : Ask) → is_ask q d a ≡ false → a.cpu.0 ≡ q.0 → a.class ≡ d → ⊥
is_ask_false q d a h e f = go (and_cases (a.cpu.0 == q.0) (a.class == d) h)
  where
    go : ((a.cpu.0 == q.0) ≡ false) ⊎ ((a.class == d) ≡ false) → ⊥
    go (inl k) = eqb-false a.cpu.0 q.0 k e
    go (inr k) = eqb-false a.class d k f

-- ---- words

-- the word of a processor and class after one request
pub word_one : (cpus to : ℕ) (a : Ask) (xs : List ℕ) (q : CpuNo) (d : ℕ) → length xs ≡ 16 * cpus → AskWithin cpus a → d < 16 →
    value_in (raised_word to a.cpu a.class xs) q d ≡ (if is_ask q d a then max (value_in xs q d) to else value_in xs q d)
word_one cpus to a xs q d len fits k = go (is_ask q d a) refl
  where
    go : (b : Bool) → is_ask q d a ≡ b → value_in (raised_word to a.cpu a.class xs) q d ≡ (if b then max (value_in xs q d) to else value_in xs q d)
    go true e =
        let same = is_ask_true q d a e in
        let at : word_place a.cpu a.class ≡ word_place q d = omega (arith, same) in
        let room : word_place q d < length xs = omega (arith, fits.cpu, fits.class, len, at) in
        rw at (get_or-set_same xs (word_place q d) (max (value_in xs q d) to) 0 room)
    go false e =
        get_or-set_other xs (word_place a.cpu a.class) (word_place q d) (max (value_in xs a.cpu a.class) to) 0
        (λ i. let s = same_word q.0 a.cpu.0 d a.class k fits.class i in is_ask_false q d a e (sym s.0) (sym s.1))

-- one more request raises a value, if it asks or if the rest does
one_more : (b more : Bool) (old new to all : ℕ) → old ≤ to → new ≡ (if b then max old to else old) → (new ≤ to → all ≡ (if more then to else new)) → all
    ≡ (if b || more then to else old)
one_more true more old new to all low one next =
    let top : new ≡ to = omega (arith, one) in
    next (omega (arith, top)) ∙ (ap (λ (v : ℕ). if more then to else v) top ∙ either more to)
one_more false more old new to all low one next =
    next (omega (arith, one)) ∙ ap (λ (v : ℕ). if more then to else v) one

-- after several requests with a value that no word is above
pub words_after : (cpus to : ℕ) (asks : List Ask) (xs : List ℕ) (q : CpuNo) (d : ℕ) → length xs ≡ 16 * cpus → All (AskWithin cpus) asks → d < 16 →
    value_in xs q d ≤ to → value_in (raised_words to asks xs) q d ≡ (if list_any (is_ask q d) asks then to else value_in xs q d)
words_after cpus to [] xs q d len fits k low = refl
words_after cpus to (a ∷ asks) xs q d len fits k low =
    let ys : List ℕ = raised_word to a.cpu a.class xs in
    let size : length ys ≡ 16 * cpus = length-set xs (word_place a.cpu a.class) (max (value_in xs a.cpu a.class) to) ∙ len in
    let one : value_in ys q d ≡ (if is_ask q d a then max (value_in xs q d) to else value_in xs q d) = word_one cpus to a xs q d len
    (all_head (AskWithin cpus) a asks fits) k in
    let next : value_in ys q d ≤ to → value_in (raised_words to asks ys) q d
    ≡ (if list_any (is_ask q d) asks then to else value_in ys q d) = words_after cpus to asks ys q d size (all_tail (AskWithin cpus) a asks fits) k in
    one_more (is_ask q d a) (list_any (is_ask q d) asks) (value_in xs q d) (value_in ys q d) to (value_in (raised_words to asks ys) q d) low one next

-- ---- marks

-- setting the bit of a class sets that bit and leaves the bits of other classes
bit_after : (c d x : ℕ) → c < 16 → (b : Bool) → eqb c d ≡ b → eqb (bit_at (with_bit c x) d) 1 ≡ (eqb (bit_at x d) 1 || b)
bit_after c d x h true e =
    let at : c ≡ d = eqb-true c d e in
    rw (← at) (rw (bit_at_set_same w16 x c h) (or_true (eqb (bit_at x c) 1)))
bit_after c d x h false e =
    rw (bit_at_set_other w16 x c h d (λ k. eqb-false c d e (sym k))) (sym (or_false (eqb (bit_at x d) 1)))

-- the marks of an event and processor after one more
pub mark_one : (cpus limit n : ℕ) (a : Ask) (marks : List ℕ) (k : ℕ) (q : CpuNo) (d : ℕ) → length marks ≡ limit * cpus → n < limit → AskWithin cpus a →
    q.0 < cpus → is_marked cpus (marked_in cpus n a.cpu a.class marks) k q d ≡ (is_marked cpus marks k q d || ((k == n) && is_ask q d a))
mark_one cpus limit n a marks k q d len low fits in_range = go (k == n) refl (a.cpu.0 == q.0) refl
  where
    away : (row_of cpus k q ≡ row_of cpus n a.cpu → ⊥) → is_marked cpus (marked_in cpus n a.cpu a.class marks) k q d ≡ (is_marked cpus marks k q d || false)
    away apart =
        rw (get_or-set_other marks (row_of cpus n a.cpu) (row_of cpus k q) (with_bit a.class (get_or marks (row_of cpus n a.cpu) 0)) 0 apart)
        (sym (or_false (is_marked cpus marks k q d)))

    go : (b : Bool) → (k == n) ≡ b → (e : Bool) → (a.cpu.0 == q.0) ≡ e → is_marked cpus (marked_in cpus n a.cpu a.class marks) k q d
        ≡ (is_marked cpus marks k q d || (b && (e && (a.class == d))))
    go false h e f = away (λ s. eqb-false k n h ((same_row cpus k n q.0 a.cpu.0 in_range fits.cpu s).0))
    go true h false f =
        away (λ s. eqb-false a.cpu.0 q.0 f (sym ((same_row cpus k n q.0 a.cpu.0 in_range fits.cpu s).1)))
    go true h true f =
        let num : k ≡ n = eqb-true k n h in
        let cpu : a.cpu.0 ≡ q.0 = eqb-true a.cpu.0 q.0 f in
        let at : row_of cpus n a.cpu ≡ row_of cpus k q = rw (num, cpu) refl in
        let room : row_of cpus k q < length marks = rw (len, num) (below_rows cpus limit n q.0 low in_range) in
        rw (at, get_or-set_same marks (row_of cpus k q) (with_bit a.class (get_or marks (row_of cpus k q) 0)) 0 room)
        (bit_after a.class d (get_or marks (row_of cpus k q) 0) fits.class (a.class == d) refl)

-- after several
pub marks_after : (cpus limit n : ℕ) (asks : List Ask) (marks : List ℕ) (k : ℕ) (q : CpuNo) (d : ℕ) → length marks ≡ limit * cpus → n < limit →
    All (AskWithin cpus) asks → q.0 < cpus → is_marked cpus (marked_all cpus n asks marks) k q d
    ≡ (is_marked cpus marks k q d || ((k == n) && list_any (is_ask q d) asks))
marks_after cpus limit n [] marks k q d len low fits in_range = over_nothing (is_marked cpus marks k q d) (k == n)
marks_after cpus limit n (a ∷ asks) marks k q d len low fits in_range =
    let new : List ℕ = marked_in cpus n a.cpu a.class marks in
    let size : length new ≡ limit * cpus = length-set marks (row_of cpus n a.cpu) (with_bit a.class (get_or marks (row_of cpus n a.cpu) 0)) ∙ len in
    marks_after cpus limit n asks new k q d size low (all_tail (AskWithin cpus) a asks fits) in_range
    ∙ (ap (λ (b : Bool). b || ((k == n) && list_any (is_ask q d) asks))
    (mark_one cpus limit n a marks k q d len low (all_head (AskWithin cpus) a asks fits) in_range)
    ∙ regroup (is_marked cpus marks k q d) (k == n) (is_ask q d a) (list_any (is_ask q d) asks))
