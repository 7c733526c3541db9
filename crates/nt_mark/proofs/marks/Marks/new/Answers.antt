use Rattle.std.proofs.Common.{ℕ, ◌≡◌, ◌+◌, ◌*◌, ◌≤◌, replicate, ap, ◌∙◌, arith}
use Rattle.nt_event.specs.declared.limits.TheConstants.{EVENTS}
use Rattle.nt_mark.proofs.Opening.{opens}
use Rattle.nt_mark.proofs.marks.Marks.new.Goals as goal

pub of_words-requires : goal.of_words-requires
of_words-requires c =
    let f1 = c.from.ensures in
    let f2 = c.from-2.ensures in
    let f3 = c.from-3.ensures in
    let f4 = c.from-4.ensures in
    let f5 = c.from-5.ensures in
    let few = c.requires.few in
    let same_product : c.from-5.result * c.from-4.result
    ≡ c.args.limit * c.args.parts = (ap (λ (n : ℕ). n * c.from-4.result) f5 ∙ ap (λ (n : ℕ). c.args.limit * n) f4) in
    let small : c.from-5.result * c.from-4.result ≤ EVENTS = omega arith in
    let h = c.in_ok-words.ensures.items_if_clones_equal in
    let same : 1 + 16 * c.from.result + c.args.lanes ≡ 1 + 16 * c.from-2.result + c.from-3.result = omega arith in
    opens ℕ _ _ (c.as_slice.ensures.value ∙ (h (λ y e. e) ∙ ap (λ (n : ℕ). replicate n 0) same)) small
