use Rattle.std.proofs.Common.{ap, sym, ◌∙◌, ◌≡◌}
use Rattle.std.specs.List.{list_any}
use Rattle.std.specs.Prelude.{not}
use Rattle.nt_event.specs.declared.events.Turn.TheVariants.{Next}
use Rattle.nt_event.specs.declared.numbers.CpuNo.{CpuNo}
use Rattle.nt_event.specs.Step.{step}
use Rattle.nt_why.specs.Fates.{thing_of}
use Rattle.nt_why.specs.Moments.{events_of, past_of}
use Rattle.nt_why.specs.Says.{gives, holds_back, is_free}
use Rattle.nt_why.proofs.Told.{on_ok}
use Rattle.nt_why.proofs.objects.put_waiting.Goals as goal

pub returns-clause-held : goal.returns-clause-held
returns-clause-held c =
    let q = c.args.question.now in
    let n = c.args.at in
    on_ok (list_any holds_back c.put_then.new.reasons.items ≡ list_any holds_back c.put_where.new.reasons.items)
    (list_any holds_back c.put_then.new.reasons.items ≡ not (is_free q.script.now q.turns (events_of q) q.end n q.object)) c.put_then.result
    (λ h.
    h ∙ c.in_ok-put_where.ensures.held
    ∙ ap (λ (p : CpuNo). not (gives (thing_of q.object) n (step q.script.now q.turns (Next p) (past_of q)))) (sym c.in_ok-p.ensures.place))
    c.put_then.ensures.same
