use Rattle.std.proofs.Common.{◌≡◌, ◌∙◌, ◌+◌, ◌-◌, ◌≤◌, Bool, List, ap, arith, drop, length, subst, take, ℕ}
use Rattle.nt_print.specs.Flags.{AreClear}
use Rattle.nt_print.proofs.Blocks.{block_length, clear_on}
use Rattle.nt_print.proofs.flags.Flags.pass_clear.Goals as goal

pub returns-then-not-are_clear-clause-clear : goal.returns-then-not-are_clear-clause-clear
returns-then-not-are_clear-clause-clear c =
    let flags : List Bool = c.args.self.now in
    let seen : c.self.inside.flags.items ≡ flags = c.self.view_is in
    let same : c.deref.result.now ≡ flags = c.deref.ensures.value ∙ seen in
    let a : ℕ = c.loop-number.number in
    let e : ℕ = c.block_end-end.result in
    let within : e ≤ length flags = omega (arith, c.block_end-end.ensures.1, c.len-count.ensures, ap (λ (xs : List Bool). length xs) seen) in
    let many = block_length flags a e (omega (arith, c.block_end-end.ensures.0)) within in
    let few = subst (λ (xs : List Bool). c.first_set.result ≤ length (take (e - a) (drop a xs))) same c.first_set.ensures.place in
    clear_on flags c.args.from a e c.first_set.result c.loop-number.invariant.clear
    (subst (λ (xs : List Bool). AreClear (take (e - a) (drop a xs)) 0 c.first_set.result) same c.first_set.ensures.clear) (omega (arith, many, few))

pub loop-number-preserved : goal.loop-number-preserved
loop-number-preserved c =
    let flags : List Bool = c.args.self.now in
    let seen : c.self.inside.flags.items ≡ flags = c.self.view_is in
    let same : c.deref.result.now ≡ flags = c.deref.ensures.value ∙ seen in
    let a : ℕ = c.loop-number.number in
    let e : ℕ = c.block_end-end.result in
    let within : e ≤ length flags = omega (arith, c.block_end-end.ensures.1, c.len-count.ensures, ap (λ (xs : List Bool). length xs) seen) in
    let many = block_length flags a e (omega (arith, c.block_end-end.ensures.0)) within in
    let all : a + (e - a) ≡ e = omega (arith, c.block_end-end.ensures.0) in
    record {
      from = omega (arith, c.loop-number.invariant.from, c.block_end-end.ensures.0);
      within = c.block_end-end.ensures.1;
      clear = subst (AreClear flags c.args.from) all (clear_on flags c.args.from a e (e - a) c.loop-number.invariant.clear
          (subst (AreClear (take (e - a) (drop a flags)) 0) many
          (subst (λ (xs : List Bool). AreClear (take (e - a) (drop a xs)) 0 (length (take (e - a) (drop a xs)))) same
          (c.are_clear.ensures c.if-not-are_clear.false)))
          (omega arith));
    }
