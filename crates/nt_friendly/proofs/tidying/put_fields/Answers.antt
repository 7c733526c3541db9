use Rattle.std.proofs.Common.{ap, sym, ◌∙◌, List, [], ◌∷◌, ℕ, ◌++◌}
use Rattle.nt_text.specs.Lines.{spaced}
use Rattle.nt_friendly.specs.Levels.{is_left_out}
use Rattle.nt_friendly.proofs.Putting.{one_put}
use Rattle.nt_friendly.proofs.tidying.put_fields.Goals as goal

pub loop-next-preserved-then-not-leaves_out : goal.loop-next-preserved-then-not-leaves_out
loop-next-preserved-then-not-leaves_out c =
    let next = c.loop-next.next in
    let field = c.in-Some.field.now in
    let here = ap (λ (b : List ℕ). is_left_out next field b) (sym c.peek.ensures) ∙ sym c.leaves_out.ensures ∙ c.if-not-leaves_out.true in
    let put = c.in_ok-put_field.ensures ∙ ap (λ (f : List ℕ). c.loop-next.out.items ++ spaced (f ∷ [])) c.written.ensures in
    rw c.after-next.ensures (one_put _ _ _ next c.loop-next.fields c.next.new.self field c.in-Some.ensures.field c.in-Some.ensures.rest here put
    c.loop-next.invariant)
