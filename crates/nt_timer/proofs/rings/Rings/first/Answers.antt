use Rattle.std.proofs.Common.{ap, arith, get_or, length, sym, ◌<◌, ◌≡◌, ◌∙◌}
use Rattle.nt_timer.proofs.Links.{first_of_ring, none_of_ring}
use Rattle.std.proofs.lemmas.List.{get_or_read}
use Rattle.nt_timer.proofs.rings.Rings.first.Goals as goal

pub returns-then-first-head : goal.returns-then-first-head
returns-then-first-head c =
    let v : c.self.inside.home.items ≡ c.args.self.now = c.self.view_is in
    let n : length c.self.inside.home.items ≡ length c.args.self.now = ap length v in
    let h = c.self.invariant in
    let a = h.next_all in
    let less : c.args.head < length c.self.inside.home.items = omega (arith, c.requires.1) in
    let x : c.index-first.result.now ≡ get_or c.self.inside.next.items c.args.head 0 =
    get_or_read c.self.inside.next.items c.args.head c.index-first.result.now (omega arith) c.index-first.ensures 0 in
    rw (← v) (none_of_ring c.self.inside.next.items c.self.inside.previous.items c.self.inside.home.items c.args.head h (sym x ∙ c.if-first-head.true))

pub returns-else-first-head : goal.returns-else-first-head
returns-else-first-head c =
    let v : c.self.inside.home.items ≡ c.args.self.now = c.self.view_is in
    let n : length c.self.inside.home.items ≡ length c.args.self.now = ap length v in
    let h = c.self.invariant in
    let a = h.next_all in
    let less : c.args.head < length c.self.inside.home.items = omega (arith, c.requires.1) in
    let x : c.index-first.result.now ≡ get_or c.self.inside.next.items c.args.head 0 =
    get_or_read c.self.inside.next.items c.args.head c.index-first.result.now (omega arith) c.index-first.ensures 0 in
    rw (x, ← v) (first_of_ring c.self.inside.next.items c.self.inside.previous.items c.self.inside.home.items c.args.head h c.requires.0 less
    (λ e. c.if-first-head.false (x ∙ e)))
