use Rattle.std.proofs.Common.{sym, ◌∙◌, ◌++◌, ◌∷◌, [], ◌≡◌}
use Rattle.std.specs.List.{All, list_any}
use Rattle.std.specs.Prelude.{not}
use Rattle.nt_why.specs.declared.reasons.Reason.TheVariants.{Ended}
use Rattle.nt_why.specs.Moments.{AreAll, IsTold, events_of}
use Rattle.nt_why.specs.Says.{holds_back, is_free}
use Rattle.nt_why.proofs.Told.{ended_all, not_over, on_ok, one_told, over, waits_all}
use Rattle.nt_why.proofs.objects.put_last.Goals as goal

pub returns-then-is_over-clause-told : goal.returns-then-is_over-clause-told
returns-then-is_over-clause-told c =
    let q = c.args.question.now in
    let rs = c.args.reasons.now.items in
    let f = c.fate_of-fate.result in
    let n = c.args.at in
    on_ok (c.add.new.items.items ≡ rs ++ Ended n f ∷ []) (All (IsTold q) c.add.new.items.items) c.add.result
    (λ h.
    one_told (IsTold q) (Ended n f) rs _ c.requires.none h
    (c.requires.at, (sym c.fate_of-fate.ensures, over f (sym c.is_over.ensures ∙ c.if-is_over.true))))
    c.add.ensures

pub returns-then-is_over-clause-all : goal.returns-then-is_over-clause-all
returns-then-is_over-clause-all c =
    let q = c.args.question.now in
    let rs = c.args.reasons.now.items in
    let f = c.fate_of-fate.result in
    let n = c.args.at in
    on_ok (c.add.new.items.items ≡ rs ++ Ended n f ∷ []) (AreAll q c.add.new.items.items) c.add.result
    (λ h. ended_all q n f rs _ c.requires.none h c.requires.at c.fate_of-fate.ensures (over f (sym c.is_over.ensures ∙ c.if-is_over.true)))
    c.add.ensures

pub put_waiting-requires-clause-waits : goal.put_waiting-requires-clause-waits
put_waiting-requires-clause-waits c =
    sym c.fate_of-fate.ensures ∙ not_over c.fate_of-fate.result (sym c.is_over.ensures ∙ c.if-is_over.false)

pub returns-clause-all : goal.returns-clause-all
returns-clause-all c =
    let q = c.args.question.now in
    let n = c.args.at in
    let waits = sym c.fate_of-fate.ensures ∙ not_over c.fate_of-fate.result (sym c.is_over.ensures ∙ c.if-is_over.false) in
    on_ok (list_any holds_back c.put_waiting.new.reasons.items ≡ not (is_free q.script.now q.turns (events_of q) q.end n q.object))
    (AreAll q c.put_waiting.new.reasons.items) c.put_waiting.result (λ h. waits_all q n _ c.requires.at waits h) c.put_waiting.ensures.held
