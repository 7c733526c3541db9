use Rattle.std.proofs.Common.{ap, arith, get_or, length, ◌∙◌, ◌≡◌, ℕ}
use Rattle.nt_cpus.proofs.Holding.{cpu_held, cpus_held}
use Rattle.nt_why.proofs.watch.cpu_of.Goals as goal

pub bounds-cpus-from : goal.bounds-cpus-from
bounds-cpus-from c =
    let n = cpus_held _ _ _ _ c.requires.every.1 in
    let m : length c.cpus.result.now ≡ length c.args.processors.now.cpus = ap length c.cpus.ensures in
    omega (arith, n, m, c.from.ensures, c.requires.cpu)

pub returns : goal.returns
returns c = λ past h.
    c.index-cpus-from.is ∙ ap (λ (k : ℕ). get_or c.cpus.result.now k c.index-cpus-from.result) c.from.ensures
    ∙ cpu_held _ _ past _ c.args.p _ (c.cpus.ensures ∙ h) c.requires.cpu
