use Rattle.std.proofs.Common.{ap, arith, length}
use Rattle.nt_live.specs.OwnLists.{OwnEvents}
use Rattle.nt_live.proofs.Zipped.{zip_long}
use Rattle.nt_live.proofs.list.OwnList.len.Goals as goal

pub returns : goal.returns
returns c =
    let i = c.self.inside in
    let long = zip_long i.numbers.items i.events.events c.self.invariant.as_many in
    let is = ap (λ (x : OwnEvents). length x.pairs) c.self.view_is in
    let k = c.len.ensures in
    let fits = i.numbers.ok.0 in
    omega (arith, long, is, k, fits)
