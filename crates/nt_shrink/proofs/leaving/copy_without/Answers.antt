use Rattle.std.proofs.Common.{List, [], ap, arith, take, ◌∙◌, ◌+◌, ◌++◌, ◌∷◌, ◌≡◌}
use Rattle.nt_event.specs.declared.events.Turn.{Turn}
use Rattle.nt_shrink.specs.Shorter.{without}
use Rattle.nt_shrink.proofs.Cutting.{step_after, step_before, step_here, walked}
use Rattle.nt_shrink.proofs.leaving.copy_without.Goals.{else-at-number, then-at-number}
use Rattle.nt_shrink.proofs.leaving.copy_without.Goals as goal

pub loop-number-preserved-then-number-at : goal.loop-number-preserved-then-number-at
loop-number-preserved-then-number-at c =
    let p = c.loop-number in
    let e = c.next.ensures in
    let l = c.loop-number-test.true in
    let k = c.len-number-end.ensures in
    let w = walked c.args.list.now p.number p.walk c.next.new.self c.next.result c.next.new.turn p.invariant.rest (omega (arith, l, k)) e.some
    (λ h. (e.none h).0) in
    record {
      rest = w.rest_is;
      shorter = p.invariant.shorter
          ∙ step_here c.args.at p.number c.args.list.now c.next.new.self c.next.new.turn w c.if-number-at.true;
    }

pub loop-number-preserved : goal.loop-number-preserved
loop-number-preserved c =
    let p = c.loop-number in
    let e = c.next.ensures in
    let l = c.loop-number-test.true in
    let k = c.len-number-end.ensures in
    let at = c.args.at in
    let n = p.number in
    let xs = c.args.list.now in
    let turn = c.if-at-number.turn in
    let w = walked xs n p.walk c.next.new.self c.next.result c.next.new.turn p.invariant.rest (omega (arith, l, k)) e.some (λ h. (e.none h).0) in
    let put : c.push.new.self ≡ p.shorter ++ turn ∷ [] = c.in_ok-push.ensures.ok in
    let done : without at (take n xs) ++ turn ∷ [] ≡ without at (take (n + 1) xs) = elim c.if-at-number.branch [
      | then-at-number v ↦ ap (λ (t : Turn). without at (take n xs) ++ t ∷ []) (v.turn-is ∙ v.lessen.ensures)
          ∙ step_after at n xs c.next.new.self c.next.new.turn w v.if-at-number.true
      | else-at-number v ↦ ap (λ (t : Turn). without at (take n xs) ++ t ∷ []) v.turn-is
          ∙ step_before at n xs c.next.new.self c.next.new.turn w (let a = v.if-at-number.false in let b = c.if-number-at.false in omega (arith, a, b))
    ] in
    record {
      rest = w.rest_is;
      shorter = put ∙ (ap (λ (ys : List Turn). ys ++ turn ∷ []) p.invariant.shorter ∙ done);
    }
