use Rattle.std.proofs.Common.{ap, sym, ◌∙◌, ◌≡◌}
use Rattle.nt_history.specs.declared.brief.Noticed.{Noticed}
use Rattle.nt_history.specs.Briefs.{brief_of, values_of}
use Rattle.nt_history.proofs.Meaning.{had_values, is_event, was_brief}
use Rattle.nt_history.proofs.events.Briefs.stands_for.Goals as goal

pub returns-then-is_same : goal.returns-then-is_same
returns-then-is_same c =
    let b = c.args.brief.now in
    let e = c.args.event.now in
    let r = values_of c.args.self.now.rises.now b in
    let same : c.of.result ≡ b = c.is_same.ensures.0 c.if-is_same.true in (
      λ h. is_event r b e (ap (λ (k : Noticed). brief_of k e) (sym c.noticed.ensures) ∙ sym c.of.ensures ∙ same) (c.has_values.ensures.0 h),
      λ h. c.has_values.ensures.1 (had_values r b e h),
    )

pub returns-else-is_same : goal.returns-else-is_same
returns-else-is_same c =
    let b = c.args.brief.now in
    let e = c.args.event.now in
    let r = values_of c.args.self.now.rises.now b in (
      λ h. absurd (let t = c.if-is_same.false in cc),
      λ h. c.is_same.ensures.1 (c.of.ensures ∙ ap (λ (k : Noticed). brief_of k e) c.noticed.ensures ∙ was_brief r b e h),
    )
