use Rattle.std.proofs.Common.{List, ap, subst, sym, ℕ, ◌++◌, ◌∙◌, ◌∷◌, ◌≡◌}
use Rattle.std.specs.Prelude.{[], length}
use Rattle.nt_cpu.specs.States.{CpuState}
use Rattle.nt_event.specs.declared.events.Event.{Event}
use Rattle.nt_event.specs.Numbers.{cpu}
use Rattle.nt_mark.specs.declared.view.View.{View}
use Rattle.nt_mark.specs.Names.{pass_view}
use Rattle.nt_mark.specs.Views.{both}
use Rattle.nt_live.proofs.Places.{all_then}
use Rattle.nt_live.proofs.Teaming.{team_joined}
use Rattle.nt_live.specs.OwnLists.{all_pairs}
use Rattle.nt_live.specs.Teams.{IsTeam}
use Rattle.nt_live.specs.Workers.{WorkerState, pairs_of}
use Rattle.nt_live.proofs.team.Team.join.Goals as goal

pub returns-clause-joined : goal.returns-clause-joined
returns-clause-joined g c met t next =
    let s = g.N.Plan.script in
    let limit = g.N.Plan.turns in
    let apart = c.into_parts-cpu.ensures in
    let u : View = pass_view c.into_parts-cpu.result.1 in
    let x : CpuState = c.into_parts-cpu.result.0 in
    let old = c.args.self.now in
    let v : View = pass_view old.pass in
    let cpus : c.push.new.self.items ≡ old.cpus.items ++ x ∷ [] = c.in_ok-push.ensures.items in
    let own = c.into_parts-cpu.result.2 in
    let list : all_pairs c.push-2.new.self.items ≡ all_pairs old.lists.items ++ pairs_of u =
    ap all_pairs c.in_ok-push-2.ensures.items
    ∙ (all_then old.lists.items own ∙ ap (λ (xs : List (ℕ × Event)). all_pairs old.lists.items ++ xs) apart.list_is) in
    let state = apart.state in
    let here : x.cpu ≡ cpu (length met) = sym (ap (λ (w : WorkerState). w.cpu.cpu) state) ∙ next in
    let team = team_joined s limit met old.cpus.items v (all_pairs old.lists.items) t x u apart.seated.work here in
    let one =
    subst (λ (w : WorkerState). IsTeam s limit (met ++ w ∷ []) (old.cpus.items ++ x ∷ []) (both v u) ((all_pairs old.lists.items) ++ pairs_of u))
    (sym state) team in
    let two =
    subst (λ (xs : List CpuState). IsTeam s limit (met ++ c.args.worker ∷ []) xs (both v u) ((all_pairs old.lists.items) ++ pairs_of u)) (sym cpus) one in
    let three = subst (λ (z : View). IsTeam s limit (met ++ c.args.worker ∷ []) c.push.new.self.items z ((all_pairs old.lists.items) ++ pairs_of u))
    (sym c.meet.ensures.both) two in
    subst (λ (xs : List (ℕ × Event)). IsTeam s limit (met ++ c.args.worker ∷ []) c.push.new.self.items (pass_view c.meet.new.pass) xs) (sym list) three
