use Rattle.std.proofs.Common.{List, arith, subst}
use Rattle.std.specs.Prelude.{Contains, [], ℕ}
use Rattle.nt_event.specs.declared.events.Event.{Event}
use Rattle.nt_live.proofs.Places.{in_all, in_some, noted_lists}
use Rattle.nt_live.proofs.merging.note_all.Goals as goal

pub loop-which-init : goal.loop-which-init
loop-which-init c j d x p l h = absurd (omega (arith, l))

pub note_places-requires : goal.note_places-requires
note_places-requires c =
    let long = c.loop-which.auto.places in
    let w = c.loop-which.which in
    let list = c.index-lists-which.result in
    record {
      below = λ x h.
          let b = c.requires.below x (in_all c.args.lists.now w list x c.loop-which-test.true
          (subst (λ (xs : List (ℕ × Event)). Contains xs x) c.index-lists-which.is h)) in
          omega (arith, b, long);
    }

pub loop-which-preserved : goal.loop-which-preserved
loop-which-preserved c =
    let e = c.note_places.ensures in
    noted_lists c.args.lists.now c.loop-which.which c.index-lists-which.result c.loop-which.places c.note_places.new.places c.loop-which-test.true
    c.index-lists-which.is e.others e.noted c.loop-which.invariant

pub returns-clause-noted : goal.returns-clause-noted
returns-clause-noted c x p h =
    let s = in_some c.args.lists.now x h in
    let l = s.1 in
    let end = c.loop-which-test.false in
    c.loop-which.invariant s.0 _ x p (omega (arith, l, end)) (s.2 [])
