use Rattle.std.proofs.Common.{Bool, arith, false, true, ◌∙◌, ◌∷◌, ◌≡◌}
use Rattle.nt_search.proofs.FlagsNoted.{as_read, came_from, is_set, stays}
use Rattle.nt_search.proofs.flags.note.Goals.{else-is_watched, then-is_watched}
use Rattle.nt_search.proofs.flags.note.Goals as goal

pub loop-place-preserved : goal.loop-place-preserved
loop-place-preserved c =
    let watched = c.args.watched.now in
    let e = c.args.event.now in
    let old = c.args.came.now.items in
    let now = c.loop-place.came.items in
    let i = c.loop-place.place in
    let h = c.loop-place.invariant in
    let x = c.index-watched-place.result in
    let b = c.index.result.now in
    let told = λ (t : Bool) (q : c.is_watched.result ≡ t).
    as_read watched e old now i h c.loop-place-test.true c.requires b c.is_watched.result t x c.index.ensures c.index-watched-place.is q
    c.is_watched.ensures in
    elim c.if-is_watched.branch [
      | then-is_watched w ↦ rw w.came-is (is_set watched e old now i h c.loop-place-test.true c.requires b x (told true w.if-is_watched.true))
      | else-is_watched w ↦ rw w.came-is (stays watched e old now i h c.loop-place-test.true c.requires b x (told false w.if-is_watched.false))
    ]

pub returns : goal.returns
returns c past came =
    let h = c.loop-place.invariant in
    came_from c.args.watched.now (c.args.event.now ∷ past) c.loop-place.came.items (h.count ∙ c.requires)
    (λ k b d l. h.done past came k b d (omega (arith, l, c.loop-place-test.false)) l)
