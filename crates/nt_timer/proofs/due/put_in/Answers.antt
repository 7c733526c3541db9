use Rattle.std.proofs.Common.{arith, length, not, true, ◌≡◌, ◌∙◌, ◌≤◌, ap}
use Rattle.std.specs.Result.{is_ok}
use Rattle.nt_timer.specs.Due.{place_in}
use Rattle.nt_timer.proofs.DueLists.{insert_is, place_le}
use Rattle.nt_timer.proofs.due.put_in.Goals as goal

pub insert-inserted-requires : goal.insert-inserted-requires
insert-inserted-requires c =
    let e = c.as_slice.ensures in
    let p : place_in c.args.key c.as_slice.result.now ≤ length c.as_slice.result.now = place_le c.args.key c.as_slice.result.now in
    omega (arith, c.place_in-place.ensures, e.len)

pub returns-clause-items : goal.returns-clause-items
returns-clause-items c =
    let made : is_ok c.insert-inserted.result ≡ true = c.is_err.ensures.negation ∙ ap not c.if-is_err.false in
    c.insert-inserted.ensures.items ∙ rw (made, c.place_in-place.ensures, c.as_slice.ensures.value) (insert_is c.args.key c.args.keys.now.items)
