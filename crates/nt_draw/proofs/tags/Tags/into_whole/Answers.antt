use Rattle.std.proofs.Common.{Bool, List, reverse, subst, ap, false, ◌∙◌}
use Rattle.nt_draw.specs.Tags.{Sheet, Stands}
use Rattle.nt_draw.specs.declared.tags.Tag.{Tag}
use Rattle.nt_draw.proofs.Sheets.{picture_closes}
use Rattle.nt_draw.proofs.tags.Tags.into_whole.Goals as goal

pub returns : goal.returns
returns c =
    let opened = ap (λ (s : Sheet). s.opened) c.self.view_is ∙ c.requires.0 in
    let begun = ap (λ (s : Sheet). s.begun) c.self.view_is ∙ c.requires.1 in
    let some = subst (λ (b : Bool). Stands b (reverse c.self.inside.opened.items) c.self.inside.out.items) begun c.self.invariant in
    let part = subst (λ (tags : List Tag). Stands false tags c.self.inside.out.items) opened some in
    rw c.in_ok-extend_from_slice.ensures.items (picture_closes _ part)
