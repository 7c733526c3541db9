use Rattle.std.proofs.Common.{arith, length, ◌≤◌, sym, ◌∙◌, ap}
use Rattle.nt_timer.specs.Due.{place_of}
use Rattle.nt_timer.proofs.DueLists.{remove_is, without_none}
use Rattle.nt_timer.proofs.due.take_out.Goals as goal

pub returns-then-place-len-clause-items : goal.returns-then-place-len-clause-items
returns-then-place-len-clause-items c =
    c.remove.ensures.items ∙ rw (c.place_of-place.ensures, c.as_slice.ensures.value) (remove_is c.args.key c.args.keys.now.items)

pub returns-else-place-len-clause-items : goal.returns-else-place-len-clause-items
returns-else-place-len-clause-items c =
    let f = c.if-place-len.false in
    let v = c.as_slice.ensures.value in
    let far : length c.args.keys.now.items ≤ place_of c.args.key c.args.keys.now.items =
    omega (arith, c.len.ensures, c.place_of-place.ensures, c.as_slice.ensures.len, ap length v, ap (place_of c.args.key) v) in
    sym (without_none c.args.key c.args.keys.now.items far)
