use Rattle.std.proofs.Common.{ap, arith, subst, sym, ◌∙◌}
use Rattle.std.proofs.lemmas.Bool.Decides.{nat_tests}
use Rattle.std.specs.Prelude.{List, Some, ℕ, ◌<◌}
use Rattle.nt_event.specs.declared.events.Event.{Event}
use Rattle.nt_event.specs.declared.scripts.Script.{Script}
use Rattle.nt_live.specs.OwnLists.{OwnEvents}
use Rattle.nt_live.specs.Workers.{IsWorker}
use Rattle.nt_live.proofs.Boarding.{new_is_worker, new_state}
use Rattle.nt_live.proofs.worker.Worker.new.Goals as goal

pub invariant_of-result-2 : goal.invariant_of-result-2
invariant_of-result-2 g c =
    let p = c.args.cpu in
    let inside : p.0 < c.args.script.now.cpus = let h = c.requires.cpu in grind (arith, nat_tests) in
    let r = c.requires in
    subst (λ (xs : List (ℕ × Event)). IsWorker g.N.Shared.table g.N.Plan.script g.N.Plan.turns c.in_ok-new.field-0 (Some c.args.pass) xs)
    (ap (λ (x : OwnEvents). x.pairs) (sym c.in_ok-new-2.ensures))
    (new_is_worker g.N.Shared.table g.N.Plan.script g.N.Plan.turns p c.in_ok-new.field-0 c.args.pass
    (subst (λ (s : Script). p.0 < s.cpus) r.script.0 inside) (c.in_ok-new.ensures ∙ new_state c.args.script.now g.N.Plan.script c.args.turns
    g.N.Plan.turns p r.script.0 r.turns.0) r.pass.0 r.pass.1)
