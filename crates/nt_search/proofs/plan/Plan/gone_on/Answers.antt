use Rattle.std.proofs.Common.{arith, length, ◌<◌}
use Rattle.nt_search.proofs.Leading.{lead_length}
use Rattle.nt_search.proofs.plan.Plan.gone_on.Goals as goal

pub returns-then-saturating_sub-turns-clause-cause : goal.returns-then-saturating_sub-turns-clause-cause
returns-then-saturating_sub-turns-clause-cause c from h lead stands =
    let x = c.args.self.now in
    let size = lead_length x.script.now c.args.turns.now from h lead in
    let took = stands.took in
    let high = c.if-saturating_sub-turns.true in
    let count = c.saturating_sub.ensures in
    omega (arith, size, took, high, count)

pub walk-requires : goal.walk-requires
walk-requires c =
    let x = c.args.self.now in
    let at = c.requires.at in
    let size = lead_length x.script.now c.args.turns.now at.0 at.1 at.2 in
    let took = at.3.took in
    let low = c.if-saturating_sub-turns.false in
    let count = c.saturating_sub.ensures in
    record { at = (at.0, at.1, at.2, omega (arith, size, took, low, count), at.3) }

pub returns-in-Ok-clause-at : goal.returns-in-Ok-clause-at
returns-in-Ok-clause-at c from h lead stands =
    let x = c.args.self.now in
    let size = lead_length x.script.now c.args.turns.now from h lead in
    let took = stands.took in
    let low = c.if-saturating_sub-turns.false in
    let count = c.saturating_sub.ensures in
    let short : length h < x.limit = omega (arith, size, took, low, count) in
    (c.in-Ok.ensures from h lead short stands, short)
