use Rattle.std.proofs.Common.{arith, ap, subst, sym, ◌∙◌, ◌++◌, ◌∷◌, [], ◌≤◌, ◌≡◌}
use Rattle.std.specs.List.{All, list_any}
use Rattle.std.specs.Prelude.{List, not}
use Rattle.nt_event.specs.declared.events.ScheduleKind.TheVariants.{NoSuchCpu}
use Rattle.nt_event.specs.declared.events.Turn.TheVariants.{Next}
use Rattle.nt_event.specs.Step.{step}
use Rattle.nt_why.specs.declared.reasons.Reason.{Reason}
use Rattle.nt_why.specs.declared.reasons.Reason.TheVariants.{NoNext}
use Rattle.nt_why.specs.Fates.{thing_of}
use Rattle.nt_why.specs.Moments.{IsTold, WaitsOn, past_of}
use Rattle.nt_why.specs.Says.{gives, holds_back}
use Rattle.nt_why.proofs.Told.{none_held, none_told, on_ok}
use Rattle.nt_why.proofs.objects.put_where.Goals as goal

pub returns-clause-told : goal.returns-clause-told
returns-clause-told c =
    let q = c.args.question.now in
    let rs = c.args.reasons.now.items in
    let p = c.args.p in
    let few : q.script.now.cpus ≤ p.0 = omega arith in
    let on : WaitsOn q p = (c.args.at, (c.requires.at, c.requires.place)) in
    on_ok (c.add.new.items.items ≡ rs ++ NoNext p NoSuchCpu ∷ []) (All (IsTold q) c.add.new.items.items) c.add.result
    (λ h. subst (λ (xs : List Reason). All (IsTold q) xs) (sym h) (none_told q p rs on few c.requires.told)) c.add.ensures

pub returns-clause-held : goal.returns-clause-held
returns-clause-held c =
    let q = c.args.question.now in
    let rs = c.args.reasons.now.items in
    let p = c.args.p in
    let few : q.script.now.cpus ≤ p.0 = omega arith in
    on_ok (c.add.new.items.items ≡ rs ++ NoNext p NoSuchCpu ∷ [])
    (list_any holds_back c.add.new.items.items ≡ not (gives (thing_of q.object) c.args.at (step q.script.now q.turns (Next p) (past_of q)))) c.add.result
    (λ h. ap (list_any holds_back) h ∙ none_held q p c.args.at rs few) c.add.ensures
