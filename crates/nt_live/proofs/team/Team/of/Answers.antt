use Rattle.std.proofs.Common.{List, ap, append-nil, subst, sym, ◌∙◌, ◌∷◌, ◌≡◌}
use Rattle.std.specs.Prelude.{[], ℕ, ◌++◌}
use Rattle.nt_event.specs.declared.events.Event.{Event}
use Rattle.nt_cpu.specs.States.{CpuState}
use Rattle.nt_mark.specs.Names.{pass_view}
use Rattle.nt_live.proofs.Teaming.{one_team}
use Rattle.nt_live.specs.OwnLists.{all_pairs}
use Rattle.nt_live.specs.Teams.{IsTeam}
use Rattle.nt_live.specs.Workers.{WorkerState}
use Rattle.nt_live.proofs.team.Team.of.Goals as goal

pub returns-clause-team : goal.returns-clause-team
returns-clause-team g c =
    let s = g.N.Plan.script in
    let limit = g.N.Plan.turns in
    let apart = c.into_parts-cpu.ensures in
    let p = c.into_parts-cpu.result.1 in
    let list = c.into_parts-cpu.result.2 in
    let lists : c.push-2.new.self.items ≡ list ∷ [] =
    c.in_ok-push-2.ensures.items ∙ ap (λ (xs : List (List (ℕ × Event))). xs ++ list ∷ []) c.new-lists.ensures.items in
    let all : all_pairs c.push-2.new.self.items ≡ list = ap all_pairs lists ∙ append-nil list in
    let x : CpuState = c.into_parts-cpu.result.0 in
    let items : c.push.new.self.items ≡ x ∷ [] = c.in_ok-push.ensures.items ∙ ap (λ (xs : List CpuState). xs ++ x ∷ []) c.new-cpus.ensures.items in
    subst (λ (ps : List (ℕ × Event)). IsTeam s limit (c.args.worker ∷ []) c.push.new.self.items (pass_view p) ps) (sym all)
    (subst (λ (xs : List CpuState). IsTeam s limit (c.args.worker ∷ []) xs (pass_view p) list) (sym items)
    (subst (λ (w : WorkerState). IsTeam s limit (w ∷ []) (x ∷ []) (pass_view p) list) (sym apart.state)
    (one_team s limit x (pass_view p) apart.seated.work (sym (ap (λ (w : WorkerState). w.cpu.cpu) apart.state) ∙ c.requires.first) list apart.list_is)))
