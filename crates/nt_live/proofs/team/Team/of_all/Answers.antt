use Rattle.std.proofs.Common.{List, ap, arith, length, subst, sym, take, ◌<◌, ◌∙◌, ◌≡◌}
use Rattle.std.specs.Prelude.{[], ◌++◌, ◌+◌, ◌∷◌}
use Rattle.nt_event.specs.Numbers.{cpu}
use Rattle.nt_mark.specs.Names.{pass_view}
use Rattle.nt_live.proofs.Orders.{left_then, met_long, met_then, taken_at}
use Rattle.nt_live.specs.OwnLists.{all_pairs}
use Rattle.nt_live.specs.Teams.{IsTeam}
use Rattle.nt_live.specs.Workers.{WorkerState}
use Rattle.nt_live.proofs.team.Team.of_all.Goals as goal

pub loop-preserved : goal.loop-preserved
loop-preserved g c =
    let i = c.loop.invariant in
    let ws = c.args.workers.items in
    let n = c.loop.counter + 1 in
    let old = c.loop.workers.items in
    let x : WorkerState = c.remove-in-loop.result in
    let e = c.remove-in-loop.ensures in
    let fewer = e.len in
    let left = i.left in
    let whole = c.args.workers.ok in
    let l : n < length ws = omega (arith, fewer, left, whole) in
    let at = taken_at ws old c.remove-in-loop.new.self.items n x l i.rest e.value e.items in
    let met : take (n + 1) ws ≡ take n ws ++ x ∷ [] = met_then ws old c.remove-in-loop.new.self.items n x l i.rest e.value e.items in
    let long = met_long ws old c.remove-in-loop.new.self.items n x l i.rest e.value e.items in
    let next : x.cpu.cpu ≡ cpu (length (take n ws)) =
    ap (λ (w : WorkerState). w.cpu.cpu) (sym at) ∙ (c.requires.all.order n x l ∙ ap (λ k. cpu k) (sym long)) in
    record {
      table = c.join.ensures.table;
      left = omega (arith, fewer, left);
      rest = left_then ws old c.remove-in-loop.new.self.items n x l i.rest e.value e.items;
      team = subst (λ (xs : List WorkerState).
          IsTeam g.N.Plan.script g.N.Plan.turns xs c.join.new.self.cpus.items (pass_view c.join.new.self.pass) (all_pairs c.join.new.self.lists.items))
          (sym met) (c.in_ok-join.ensures.joined (take n ws) i.team next);
    }
