use Rattle.std.proofs.Common.{ap, arith, get_or, length, subst, sym, ◌<◌, ℕ, List}
use Rattle.std.specs.declared.alloc.AllocError.{AllocError}
use Rattle.std.specs.Prelude.{Contains, Err, IfOk, Ok, Result, ◌≡◌}
use Rattle.nt_event.specs.declared.events.Event.{Event}
use Rattle.nt_live.specs.declared.merging.Place.{Place}
use Rattle.nt_live.specs.Merging.{ArePlaced}
use Rattle.nt_live.specs.Places.{IsAmong, event_at}
use Rattle.nt_live.specs.OwnLists.{all_pairs}
use Rattle.nt_live.proofs.Places.{all_below, are_placed, each_noted}
use Rattle.nt_live.proofs.merging.by_number.Goals as goal

pub places_of-requires : goal.places_of-requires
places_of-requires c = record { below = all_below c.args.lists.now c.args.count c.requires.once }

pub read_all-requires : goal.read_all-requires
read_all-requires c n p l =
    let long = c.in_ok-places.ensures.count in
    let same = c.as_slice.ensures.value in
    let many = ap (λ (xs : List Place). length xs) same in
    let below : n < c.args.count = omega (arith, l, long, many) in
    subst (λ (xs : List Place). IsAmong c.args.lists.now n (get_or xs n p)) (sym same)
    (each_noted c.args.lists.now c.args.count c.requires.count c.requires.once c.in_ok-places.places.items c.in_ok-places.ensures.noted n p below)

-- what holds of the list that came, from two things that do
from_both : (r : Result (List Event) AllocError) (A B C : List Event → Type 0) → IfOk r A → IfOk r B → ((es : List Event) → A es → B es → C es) → IfOk r C
from_both (Ok es) A B C a b f = f es a b
from_both (Err e) A B C a b f = _

pub returns : goal.returns
returns c =
    let ps = c.as_slice.result.now in
    let lists = c.args.lists.now in
    let long = c.in_ok-places.ensures.count in
    let same = c.as_slice.ensures.value in
    let many = ap (λ (xs : List Place). length xs) same in
    from_both c.read_all.result (λ es. length es ≡ length ps)
    (λ es. (n : ℕ) (e : Event) (p : Place) (d : List (ℕ × Event)) (x : ℕ × Event) → n < length ps → get_or es n e ≡ event_at lists (get_or ps n p) d x)
    (ArePlaced (all_pairs lists)) c.read_all.ensures.count c.read_all.ensures.each
    (λ es a b. are_placed lists c.args.count c.requires.count c.requires.once ps
    (subst (λ (xs : List Place). (x : ℕ × Event) (p : Place) → Contains (all_pairs lists) x → IsAmong lists x.0 (get_or xs x.0 p)) (sym same)
    c.in_ok-places.ensures.noted) es a (omega (arith, long, many)) b)
