use Rattle.std.proofs.Common.{rules, subst, sym, ◌≡◌}
use Rattle.nt_shows.specs.Tells.{AreCame}
use Rattle.nt_search.proofs.Keeping.{keyed}
use Rattle.nt_search.proofs.Listing.{if_ok}
use Rattle.nt_search.proofs.machine.Machine.key.Goals as goal

pub returns-clause-key : goal.returns-clause-key
returns-clause-key c =
    let m = c.args.self.now in
    let came : c.in_ok-came.came.items ≡ m.came.items = search rules in
    if_ok c.number.result
    (λ key numbered s limit watched past h.
    keyed s watched past c.number.new.self.parts key c.in_ok-shade.shade c.in_ok-came.came h.free
    (c.in_ok-shade.ensures s limit watched past h) (subst (AreCame watched past) (sym came) h.came) numbered)
    c.number.ensures.numbered
