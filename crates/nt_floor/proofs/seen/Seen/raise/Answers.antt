use Rattle.std.proofs.Common.{arith, max, subst, ◌≡◌}
use Rattle.std.specs.Prelude.{List, if◌then◌else◌, slice_set, ℕ, ◌==◌}
use Rattle.nt_event.specs.Lists.{table, value_at}
use Rattle.nt_floor.proofs.Sums.{sum_fits, sum_rises}
use Rattle.nt_floor.proofs.Values.{raised_already, raised_one}
use Rattle.nt_floor.proofs.seen.Seen.raise.Goals as goal

pub returns-then-old-to-clause-values : goal.returns-then-old-to-clause-values
returns-then-old-to-clause-values c =
    let t = c.if-old-to.true in
    subst (λ (xs : List ℕ). slice_set c.self.inside.values c.args.class c.args.to
    ≡ table 16 (λ k. max (value_at xs k) (if c.args.class == k then c.args.to else 0))) c.self.view_is
    (raised_one c.self.inside.values c.args.class c.args.to c.self.told c.requires (omega (arith, t)))

pub returns-else-old-to-clause-values : goal.returns-else-old-to-clause-values
returns-else-old-to-clause-values c =
    let t = c.if-old-to.false in
    subst (λ (xs : List ℕ). xs ≡ table 16 (λ k. max (value_at xs k) (if c.args.class == k then c.args.to else 0))) c.self.view_is
    (raised_already c.self.inside.values c.args.class c.args.to c.self.told (omega (arith, t)))

pub overflow_add-self : goal.overflow_add-self
overflow_add-self c =
    let is = c.self.invariant in
    let fits = sum_fits c.self.inside.sum (value_at c.self.inside.values) c.from.result is.total (λ k h. is.fits k) (omega (arith, c.ranges.to.fits)) in
    omega (arith, fits)

pub invariant_of-self : goal.invariant_of-self
invariant_of-self c =
    rw c.from.ensures
    (sum_rises c.self.inside.sum c.self.inside.values c.args.class c.args.to c.self.invariant c.self.told c.requires c.ranges.to.fits (omega arith))
