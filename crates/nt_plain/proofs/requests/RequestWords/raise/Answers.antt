use Rattle.std.proofs.Common.{List, ap, arith, get_or, length, ◌<◌, ◌≡◌, ℕ}
use Rattle.std.proofs.lemmas.List.{get_or_read}
use Rattle.nt_event.specs.declared.numbers.CpuNo.{CpuNo}
use Rattle.nt_plain.specs.Places.{value_in, word_place}
use Rattle.nt_plain.specs.Sums.{AreSums}
use Rattle.nt_floor.proofs.Sums.{sum_fits}
use Rattle.nt_plain.proofs.Sums.{raised_sums}
use Rattle.nt_plain.proofs.requests.RequestWords.raise.Goals as goal

-- the row of the word is one of the sums
row_within : (sums words all : List ℕ) (p : CpuNo) (c : ℕ) → AreSums sums words → words ≡ all → word_place p c < length all → p.0 < length sums
row_within sums words all p c are same room =
    let rows = are.rows in
    let size : length words ≡ length all = ap length same in
    omega (arith, rows, size, room)

pub overflow_add-index_mut : goal.overflow_add-index_mut
overflow_add-index_mut c =
    let sums = c.self.inside.sums.items in
    let words = c.self.inside.values.items in
    let row = row_within sums words c.args.self.now c.args.p c.args.class c.self.invariant c.self.view_is c.requires.word in
    let sum = get_or_read sums c.args.p.0 c.index_mut-then-old-to.result.now row (rw c.from-then-old-to.ensures at c.index_mut-then-old-to.ensures.value) 0 in
    let is = c.self.invariant in
    let fits = sum_fits (get_or sums c.args.p.0 0) (value_in words c.args.p) c.from.result (is.each c.args.p row) (λ k h. is.fits (word_place c.args.p k))
    (omega (arith, c.ranges.to.fits)) in
    omega (arith, fits, sum)

pub invariant_of-self : goal.invariant_of-self
invariant_of-self c =
    let sums = c.self.inside.sums.items in
    let words = c.self.inside.values.items in
    let rows = c.self.invariant.rows in
    let row = row_within sums words c.args.self.now c.args.p c.args.class c.self.invariant c.self.view_is c.requires.word in
    let sum = get_or_read sums c.args.p.0 c.index_mut-then-old-to.result.now row (rw c.from-then-old-to.ensures at c.index_mut-then-old-to.ensures.value) 0 in
    let old = get_or_read words (word_place c.args.p c.args.class) c.index-old.result.now (omega (arith, rows, row, c.requires.class))
    (rw c.place-at.ensures at c.index-old.ensures) 0 in
    rw (c.place-at.ensures, c.from-then-old-to.ensures, sum, c.from.ensures, old)
    (raised_sums sums words c.args.p c.args.class c.args.to c.self.invariant c.requires.class row c.ranges.to.fits (omega (arith, old)))
