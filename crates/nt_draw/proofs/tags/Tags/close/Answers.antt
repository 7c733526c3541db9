use Rattle.std.proofs.Common.{◌≡◌, ◌<◌, ◌++◌, ◌∙◌, List, Some, ap, length, subst, sym, ℕ}
use Rattle.nt_draw.specs.Tags.{Sheet, closed_by}
use Rattle.nt_draw.proofs.Sheets.{innermost_closes, last_taken}
use Rattle.nt_draw.proofs.tags.Tags.close.Goals as goal

pub invariant_of-self-2 : goal.invariant_of-self-2
invariant_of-self-2 c =
    let some = subst (λ (s : Sheet). 0 < length s.opened) (sym c.self.view_is) c.requires in
    let is : c.pop.result ≡ Some c.index-tag.result.now =
    last_taken c.self.inside.opened.items c.pop.result _ c.len-last.result c.index-tag.result.now c.self.inside.opened.ok.0
    c.len-last.ensures c.index-tag.ensures c.pop.ensures.value some in
    let closes = innermost_closes c.self.inside.begun _ _ c.pop.result c.index-tag.result.now c.self.inside.out.items c.pop.ensures.items is
    c.self.invariant in
    let part = c.as_slice.ensures.value ∙ c.in_ok-put_closing.ensures
    ∙ ap (λ (t : List ℕ). t ++ closed_by c.self.inside.begun c.index-tag.result.now) c.clear.ensures.items in
    rw (c.in_ok-extend_from_slice.ensures.items, part) closes
