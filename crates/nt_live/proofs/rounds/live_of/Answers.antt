use Rattle.std.proofs.Common.{List, arith, length, subst, sym, ◌≡◌}
use Rattle.nt_live.proofs.GoingOn.{still_one_each, written_back}
use Rattle.nt_live.specs.Rounds.{GoOn}
use Rattle.nt_live.specs.Teams.{AreOneEach}
use Rattle.nt_live.specs.Workers.{WorkerState}
use Rattle.nt_live.proofs.rounds.live_of.Goals as goal

pub gather-requires : goal.gather-requires
gather-requires g c =
    let s = g.N.Plan.script in
    let old = c.in_ok-board.field-0.workers in
    let new = c.rounds.new.workers in
    let goes = subst (λ (ws : List WorkerState). GoOn ws new) c.as_mut_slice.ensures.value c.rounds.ensures in
    let ok = old.ok in
    let long : old.len ≡ length old.items = omega (arith, ok) in
    record {
      all = subst (λ (ws : List WorkerState). AreOneEach s ws) (sym (written_back old.len new old.items goes.count long))
          (still_one_each s g.N.Plan.turns old.items new c.in_ok-board.ensures.opened goes);
    }
