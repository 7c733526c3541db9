use Rattle.std.proofs.Common.{subst}
use Rattle.nt_live.specs.Turning.{IsSeated}
use Rattle.live_table.proofs.Beginnings.{seated_first}
use Rattle.live_table.proofs.beginning.Beginning.step_later.Goals as goal

pub step-pass-requires-clause-seated : goal.step-pass-requires-clause-seated
step-pass-requires-clause-seated g c =
    let b = c.args.self in
    let s = g.N.Plan.script in
    let limit = g.N.Plan.turns in
    subst (λ t. IsSeated t s limit b.cpu b.pass) b.at (seated_first s limit b.cpu b.pass b.some b.new b.nothing)
