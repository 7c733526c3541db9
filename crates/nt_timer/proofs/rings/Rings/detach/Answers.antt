use Rattle.std.proofs.Common.{ap, arith, get_or, length, ◌<◌, ◌≡◌}
use Rattle.nt_timer.proofs.Links.{detached_links}
use Rattle.std.proofs.lemmas.List.{get_or_read}
use Rattle.nt_timer.proofs.rings.Rings.detach.Goals as goal

pub invariant_of-self : goal.invariant_of-self
invariant_of-self c =
    let v : c.self.inside.home.items ≡ c.args.self.now = c.self.view_is in
    let n : length c.self.inside.home.items ≡ length c.args.self.now = ap length v in
    let h = c.self.invariant in
    let a = h.next_all in
    let b = h.previous_all in
    let less : c.args.node < length c.self.inside.home.items = omega (arith, c.requires.1) in
    let x : c.index-next.result.now ≡ get_or c.self.inside.next.items c.args.node 0 =
    get_or_read c.self.inside.next.items c.args.node c.index-next.result.now (omega arith) c.index-next.ensures 0 in
    let y : c.index-previous.result.now ≡ get_or c.self.inside.previous.items c.args.node 0 =
    get_or_read c.self.inside.previous.items c.args.node c.index-previous.result.now (omega arith) c.index-previous.ensures 0 in
    rw (x, y) (detached_links c.self.inside.next.items c.self.inside.previous.items c.self.inside.home.items c.args.node h less c.requires.0)
