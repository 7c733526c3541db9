use Rattle.std.proofs.Common.{Bool, reverse, subst}
use Rattle.nt_draw.specs.Tags.{Stands}
use Rattle.nt_draw.proofs.Sheets.{part_begins}
use Rattle.nt_draw.proofs.tags.Tags.finish_start.Goals as goal

pub invariant_of-self-then-self : goal.invariant_of-self-then-self
invariant_of-self-then-self c =
    let begun = subst (λ (b : Bool). Stands b (reverse c.self.inside.opened.items) c.self.inside.out.items) c.if-self.true c.self.invariant in
    rw c.in_ok-extend_from_slice.ensures.items (part_begins _ _ begun)
