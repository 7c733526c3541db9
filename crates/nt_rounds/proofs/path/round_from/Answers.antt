use Rattle.std.proofs.Common.{List, [], ap, arith, drop, length, set, subst, sym, ℕ, ◌++◌, ◌∙◌, ◌∷◌, ◌≡◌}
use Rattle.std.proofs.lemmas.List.{length_push, take_rest}
use Rattle.nt_rounds.specs.Depths.{IsRound}
use Rattle.nt_rounds.specs.Path.{IsPath}
use Rattle.nt_rounds.proofs.Walking.{is_on, not_on, path_on, path_room, place_read, round_is}
use Rattle.nt_rounds.proofs.path.round_from.Goals as goal

pub loop-path-smaller : goal.loop-path-smaller
loop-path-smaller c =
    let path = c.loop-path.path.items in
    let is = c.loop-path.invariant.path in
    let within = c.loop-path.invariant.within in
    let new = not_on _ _ _ _ _ _ is within c.index.ensures c.requires.states c.loop-path-test.true in
    let room = path_room _ _ _ _ is within new in
    let longer = ap length c.in_ok-push.ensures.items ∙ length_push path c.loop-path.at in
    omega (arith, room, longer, is.states)

pub loop-path-preserved : goal.loop-path-preserved
loop-path-preserved c =
    let closed = c.args.graph.now.closed in
    let path = c.loop-path.path.items in
    let at = c.loop-path.at in
    let is = c.loop-path.invariant.path in
    let within = c.loop-path.invariant.within in
    let new = not_on _ _ _ _ _ _ is within c.index.ensures c.requires.states c.loop-path-test.true in
    let next = path_on _ _ _ _ c.next-at.result is within new c.next-at.ensures.leads in
    let size : length path ≡ c.len.result = omega arith in
    let noted = subst (λ n. IsPath closed (path ++ at ∷ []) (set c.loop-path.places.items at n) c.next-at.result) size next in
    record {
      path = rw c.in_ok-push.ensures.items noted;
      within = c.requires.inside at c.next-at.result c.next-at.ensures.leads;
      unknown = c.next-at.ensures.unknown;
    }

pub slice_bounds-from_slice-count : goal.slice_bounds-from_slice-count
slice_bounds-from_slice-count c =
    let is = c.loop-path.invariant.path in
    let within = c.loop-path.invariant.within in
    let read = place_read _ _ _ _ _ is within c.index-2.ensures in
    let on = is_on _ _ _ _ _ _ is within c.index.ensures c.requires.states c.loop-path-test.false in
    let place = is.placed c.loop-path.at (omega (arith, within, is.states)) on in
    omega (arith, read, place.0, ap length c.as_slice.ensures.value)

pub returns : goal.returns
returns c =
    let path = c.loop-path.path.items in
    let from = c.index-2.result.now in
    let is = c.loop-path.invariant.path in
    let within = c.loop-path.invariant.within in
    let read = place_read _ _ _ _ _ is within c.index-2.ensures in
    let on = is_on _ _ _ _ _ _ is within c.index.ensures c.requires.states c.loop-path-test.false in
    let part = take_rest c.as_slice.result.now from ∙ ap (drop from) c.as_slice.ensures.value in
    let whole = c.in_ok-round.ensures.items ∙ part ∙ ap (λ (n : ℕ). drop n path) read in
    subst (λ (r : List ℕ). IsRound c.args.graph.now.closed r) (sym whole) (round_is _ _ _ _ is within on)
