use Rattle.std.proofs.Common.{List, arith, length, subst, sym, ◌∙◌, ◌≡◌}
use Rattle.nt_live.proofs.GoingOn.{written_back}
use Rattle.nt_live.specs.Teams.{AreOneEach}
use Rattle.nt_live.specs.Workers.{WorkerState}
use Rattle.live_table.proofs.pieces.gathered.Goals as goal

-- the workers go back to where they were lent from
pub gather-requires : goal.gather-requires
gather-requires g c =
    let s = g.N.Plan.script in
    let old = c.in_ok-board.field-0.workers in
    let new = c.work_on.new.workers in
    let one : AreOneEach s new = c.in_ok-work_on.ensures in
    let ok = old.ok in
    let long : old.len ≡ length old.items = omega (arith, ok) in
    let same : length new ≡ length old.items = one.count ∙ sym c.in_ok-board.ensures.opened.count in
    record { all = subst (λ (ws : List WorkerState). AreOneEach s ws) (sym (written_back old.len new old.items same long)) one }
