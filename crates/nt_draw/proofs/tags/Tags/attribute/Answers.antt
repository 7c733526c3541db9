use Rattle.std.proofs.Common.{◌++◌, ◌∙◌, List, ap, ℕ}
use Rattle.nt_draw.specs.Tags.{Sheet, attribute_text, pieces_text}
use Rattle.nt_draw.proofs.Sheets.{stands_more}
use Rattle.nt_draw.proofs.tags.Tags.attribute.Goals as goal

pub invariant_of-self-2 : goal.invariant_of-self-2
invariant_of-self-2 c =
    let value = pieces_text c.args.value.now in
    let part = c.as_slice.ensures.value ∙ c.in_ok-put_attribute.ensures
    ∙ ap (λ (t : List ℕ). t ++ attribute_text c.args.key value) c.clear.ensures.items in
    let more = c.in_ok-extend_from_slice.ensures.items ∙ ap (λ (t : List ℕ). c.self.inside.out.items ++ t) part in
    stands_more c.self.inside.begun _ c.self.inside.out.items _ c.args.key value
    (ap (λ (s : Sheet). s.begun) c.self.view_is ∙ c.requires) more c.self.invariant
