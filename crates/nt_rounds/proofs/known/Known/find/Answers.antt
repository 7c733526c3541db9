use Rattle.std.proofs.Common.{List, ap, arith, get_or, length, subst, ℕ, ◌<◌, ◌∙◌, ◌≤◌}
use Rattle.std.proofs.lemmas.List.{get_or_read}
use Rattle.nt_rounds.specs.Known.{IsOver}
use Rattle.nt_rounds.proofs.Knowing.{known_more, targets_within}
use Rattle.nt_rounds.proofs.known.Known.find.Goals as goal

pub depth_over-requires-clause-inside : goal.depth_over-requires-clause-inside
depth_over-requires-clause-inside c =
    targets_within c.args.graph.now.closed c.requires.inside c.args.state (length c.as_slice.result.now) c.after.result.now c.after.ensures
    (ap length c.as_slice.ensures.value ∙ c.requires.known.states)

pub returns-in-Ok-clause-known : goal.returns-in-Ok-clause-known
returns-in-Ok-clause-known c =
    let depths = c.args.self.now.depths.items in
    let within : c.args.state < length depths = omega (arith, c.requires.state, c.requires.known.states) in
    let read = get_or_read depths c.args.state c.index.result.now within c.index.ensures 0 in
    let unknown : length depths ≤ get_or depths c.args.state 0 = omega (arith, read, c.if-len-index.true) in
    let here = subst (λ (d : List ℕ). IsOver d c.after.result.now c.in-Ok.depth) c.as_slice.ensures.value c.in-Ok.ensures.over in
    let over = subst (λ (ts : List ℕ). IsOver depths ts c.in-Ok.depth) c.after.ensures here in
    known_more c.args.graph.now.closed depths c.args.self.now.count c.args.state c.in-Ok.depth c.requires.known c.requires.inside within unknown
    over
