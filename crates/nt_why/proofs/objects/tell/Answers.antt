use Rattle.std.proofs.Common.{ap, subst, sym, ◌∙◌}
use Rattle.std.specs.List.{All, list_any}
use Rattle.std.specs.Prelude.{List, not, ◌≡◌}
use Rattle.nt_event.specs.declared.events.Turn.TheVariants.{Next}
use Rattle.nt_event.specs.Step.{step}
use Rattle.nt_why.specs.declared.reasons.Reason.{Reason}
use Rattle.nt_why.specs.Fates.{thing_of}
use Rattle.nt_why.specs.Lined.{with_all}
use Rattle.nt_why.specs.Moments.{IsTold, WaitsOn, past_of}
use Rattle.nt_why.specs.Says.{gives, holds_back}
use Rattle.nt_why.proofs.Told.{all_held, all_told, gives_same, is_at, next_holds, next_told, on_ok}
use Rattle.nt_why.proofs.objects.tell.Goals as goal

pub lines_of-lines-requires-clause-at : goal.lines_of-lines-requires-clause-at
lines_of-lines-requires-clause-at c =
    let n = c.follow-stood.new.processors in
    let t = c.follow-stood.ensures in
    is_at c.args.question.now c.args.p n c.follow-stood.new.floor _ t.after (t.script ∙ c.requires.script) (t.limit ∙ c.requires.limit) c.requires.cpu
    (c.cpu_of.ensures _ t.after.every)

pub lines_of-lines-requires-clause-waits : goal.lines_of-lines-requires-clause-waits
lines_of-lines-requires-clause-waits c = (c.args.at, (c.requires.at, c.requires.place))

pub returns-clause-told : goal.returns-clause-told
returns-clause-told c =
    let q = c.args.question.now in
    let lines = c.lines_of-lines.result in
    let next = c.next_line.result in
    let rs = c.args.reasons.now.items in
    let on : WaitsOn q c.args.p = (c.args.at, (c.requires.at, c.requires.place)) in
    let truth = subst (λ (r : Reason). IsTold q r) (sym c.next_line.ensures) (next_told q c.args.p c.args.ahead.now.next on c.requires.next) in
    on_ok (c.put_all.new.reasons.items ≡ with_all c.gives.result lines next rs) (All (IsTold q) c.put_all.new.reasons.items) c.put_all.result
    (λ h.
    subst (λ (xs : List Reason). All (IsTold q) xs) (sym h)
    (all_told (IsTold q) c.gives.result lines next rs c.lines_of-lines.ensures truth c.requires.told))
    c.put_all.ensures

pub returns-clause-held : goal.returns-clause-held
returns-clause-held c =
    let q = c.args.question.now in
    let x = thing_of q.object in
    let lines = c.lines_of-lines.result in
    let next = c.next_line.result in
    let rs = c.args.reasons.now.items in
    let r = step q.script.now q.turns (Next c.args.p) (past_of q) in
    let holds = ap holds_back c.next_line.ensures ∙ next_holds c.args.p c.args.ahead.now.next in
    let same = c.gives.ensures ∙ gives_same x c.args.at r c.args.ahead.now.next c.requires.next in
    on_ok (c.put_all.new.reasons.items ≡ with_all c.gives.result lines next rs)
    (list_any holds_back c.put_all.new.reasons.items ≡ not (gives x c.args.at r)) c.put_all.result
    (λ h. ap (list_any holds_back) h ∙ all_held c.gives.result lines next rs holds c.requires.none ∙ ap not same)
    c.put_all.ensures
