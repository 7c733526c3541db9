use Rattle.std.proofs.Common.{[], arith, reverse, subst, ℕ, ◌++◌, ◌∷◌, ◌≡◌}
use Rattle.std.proofs.lemmas.List.{length-reverse}
use Rattle.std.specs.Prelude.{length, ◌<◌}
use Rattle.nt_left.specs.declared.kinds.Left.TheVariants as left
use Rattle.nt_left.specs.Items.{holds_item}
use Rattle.nt_left.proofs.Lists.{map_on}
use Rattle.nt_left.proofs.frames.put_held.Goals as goal

-- the place is one of the list
low : (c : goal.In_ok-push) → c.loop-place.place < length (reverse c.args.frame.now.held)
low c =
    let size = length-reverse c.args.frame.now.held in
    let count = c.held_count-place-end.ensures in
    let test = c.loop-place-test.true in
    omega (arith, size, count, test)

pub loop-place-preserved : goal.loop-place-preserved
loop-place-preserved c =
    map_on (holds_item c.args.cpu c.args.owner c.args.frame.now.name) (reverse c.args.frame.now.held) c.loop-place.place c.held-held.result
    _ _ _ (low c) (c.held-held.ensures c.held-held.result) c.loop-place.invariant
    (subst (λ (n : ℕ). c.push.new.self.items ≡ c.loop-place.out.items ++ left.Holds c.args.cpu c.args.owner n c.held-held.result.lock ∷ []) c.name.ensures
    c.in_ok-push.ensures.items)
