use Rattle.std.proofs.Common.{ap, arith, length}
use Rattle.nt_live.proofs.Zipped.{zip_long}
use Rattle.nt_live.proofs.list.MadeList.len.Goals as goal

pub returns : goal.returns
returns c =
    let i = c.self.inside in
    let long = zip_long i.numbers.items i.events c.self.invariant in
    let is = ap length c.self.view_is in
    let k = c.len.ensures in
    let fits = i.numbers.ok.0 in
    omega (arith, long, is, k, fits)
