use Rattle.std.proofs.Common.{subst, sym}
use Rattle.std.specs.Prelude.{List, ℕ}
use Rattle.nt_event.specs.Lists.{table}
use Rattle.nt_floor.specs.Views.{IsTold}
use Rattle.lanes_table.proofs.floor.act.Goals as goal

pub returns-clause-event : goal.returns-clause-event
returns-clause-event g c =
    let e = c.in_ok-made.ensures.event in
    let st = c.args.stand.now in
    let w = g.F.Words.view c.act.new.self in
    let told = subst (λ (xs : List ℕ). IsTold st e.1 (table 16 (λ k. 0)) xs w) (sym c.rises.ensures)
    (subst (λ (xs : List ℕ). IsTold st e.1 xs c.act.new.seen w) c.new-seen.ensures e.3.1.1) in
    (e.0, e.1, e.2, (e.3.0, told))
