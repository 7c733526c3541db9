use Rattle.std.proofs.Common.{List, ap, arith, get_or, length, ℕ, ◌*◌, ◌+◌, ◌≡◌, ◌∙◌}
use Rattle.nt_shade_asks.specs.declared.class_asks.ClassAsks.{ClassAsks}
use Rattle.nt_shade_asks.proofs.Ahead.{ahead_of, within}
use Rattle.nt_shade_asks.proofs.unnoticed.Unnoticed.ahead.Goals as goal

pub returns-in-Some : goal.returns-in-Some
returns-in-Some c = λ s past of asked has.
    let row = c.in-Some.row.now in
    let rows = c.args.self.now.classes.items in
    let place : c.from.result * 16 + c.from-2.result ≡ c.args.cpu.0 * 16 + c.args.class = omega arith in
    let here =
    c.in-Some.ensures.lookup.1
    ∙ ap (λ (all : List ClassAsks). get_or all (c.from.result * 16 + c.from-2.result) row) c.as_slice.ensures.value
    ∙ ap (λ (k : ℕ). get_or rows k row) place in
    c.ahead.ensures ∙ ahead_of s c.args.self.now of c.args.cpu c.args.class has c.requires past asked row here

pub returns-in-None : goal.returns-in-None
returns-in-None c = λ s past of asked has.
    let inside = within s c.args.self.now of c.args.cpu c.args.class has c.requires in
    let same = ap length c.as_slice.ensures.value in
    let beyond = c.in-None.ensures.lookup.3 in
    absurd (omega (arith, inside, same, beyond))
