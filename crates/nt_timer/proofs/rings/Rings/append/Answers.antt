use Rattle.std.proofs.Common.{List, ap, arith, ℕ, get_or, length, ◌<◌, ◌≡◌, ◌∙◌}
use Rattle.nt_timer.proofs.Links.{appended_links}
use Rattle.std.proofs.lemmas.List.{get_or_read}
use Rattle.nt_timer.proofs.rings.Rings.append.Goals as goal

pub invariant_of-self : goal.invariant_of-self
invariant_of-self c =
    let v : c.self.inside.home.items ≡ c.args.self.now = c.self.view_is in
    let n : length c.self.inside.home.items ≡ length c.args.self.now = ap length v in
    let h = c.self.invariant in
    let b = h.previous_all in
    let r = c.requires in
    let less : c.args.node < length c.self.inside.home.items = omega (arith, r.2) in
    let y : c.index-last.result.now ≡ get_or c.self.inside.previous.items c.args.head 0 =
    get_or_read c.self.inside.previous.items c.args.head c.index-last.result.now (omega arith) c.index-last.ensures 0 in
    let alone : get_or c.self.inside.home.items c.args.node 0 ≡ c.args.node = ap (λ (xs : List ℕ). get_or xs c.args.node 0) v ∙ r.3 in
    rw y (appended_links c.self.inside.next.items c.self.inside.previous.items c.self.inside.home.items c.args.head c.args.node h r.0 less r.1 alone)
