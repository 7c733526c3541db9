use Rattle.std.proofs.Common.{List, ap, arith, get_or, length, subst, sym, ℕ, ◌<◌}
use Rattle.nt_event.specs.declared.events.Event.{Event}
use Rattle.nt_live.specs.declared.merging.Place.{Place}
use Rattle.nt_live.proofs.Places.{one_longer, read_more}
use Rattle.nt_live.proofs.merging.read_all.Goals as goal

pub loop-at-init : goal.loop-at-init
loop-at-init c = record {
  count = ap (λ (es : List Event). length es) c.new-events.ensures;
  each = λ n e p d x l. absurd (omega (arith, l));
}

pub loop-at-preserved : goal.loop-at-preserved
loop-at-preserved c =
    let i = c.loop-at.invariant in
    let q : Place = record { list = 0; at = 0 } in
    let among = c.requires c.loop-at.at q c.loop-at-test.true in
    let lists = c.args.lists.now in
    let places = c.args.places.now in
    let es = c.loop-at.events in
    let new = c.put_behind.new.events in
    let list = c.index-lists-place.result in
    let within = subst (λ (xs : List (ℕ × Event)). (get_or places c.loop-at.at q).at < length xs) (sym c.index-lists-place.is) (among.has list).within in
    let long = one_longer list (get_or places c.loop-at.at q).at es new within c.in_ok-put_behind.ensures in
    let count = i.count in
    record {
      count = omega (arith, long, count);
      each = read_more lists places es new c.loop-at.at q list c.loop-at-test.true among.there c.index-lists-place.is i.count
          c.in_ok-put_behind.ensures i.each;
    }
