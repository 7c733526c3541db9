use Rattle.std.proofs.Common.{◌++◌, ◌∙◌, List, ap, ℕ}
use Rattle.nt_draw.specs.Tags.{Sheet, escaped, pieces_text}
use Rattle.nt_draw.proofs.Sheets.{stands_text}
use Rattle.nt_draw.proofs.tags.Tags.text.Goals as goal

pub invariant_of-self-2 : goal.invariant_of-self-2
invariant_of-self-2 c =
    let text = pieces_text c.args.text.now in
    let part = c.as_slice.ensures.value ∙ c.in_ok-put_pieces.ensures ∙ ap (λ (t : List ℕ). t ++ escaped text) c.clear.ensures.items in
    let more = c.in_ok-extend_from_slice.ensures.items ∙ ap (λ (t : List ℕ). c.self.inside.out.items ++ t) part in
    stands_text c.self.inside.begun _ c.self.inside.out.items _ text
    (ap (λ (s : Sheet). s.begun) (c.self.view_is ∙ c.in_ok-finish_start.ensures)) more c.self.invariant
