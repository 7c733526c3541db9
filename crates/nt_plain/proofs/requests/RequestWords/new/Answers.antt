use Rattle.nt_plain.proofs.Sums.{no_sums}
use Rattle.nt_plain.proofs.requests.RequestWords.new.Goals as goal

pub invariant_of-result : goal.invariant_of-result
invariant_of-result c =
    let sums = c.in_ok-sums.ensures.items_if_clones_equal (λ y e. e) in
    let words = c.in_ok-values.ensures.items_if_clones_equal (λ y e. e) in
    rw (sums, words, c.from.ensures, c.from-count.ensures) (no_sums c.args.cpus)
