use Rattle.std.proofs.Common.{List, [], ap, arith, length, ℕ, ◌++◌, ◌∙◌, ◌∷◌, ◌≡◌}
use Rattle.std.specs.List.{zip}
use Rattle.nt_event.specs.declared.events.Event.{Event}
use Rattle.nt_history.specs.Recorded.{Recorded}
use Rattle.nt_live.specs.OwnLists.{OwnEvents}
use Rattle.nt_live.proofs.Zipped.{zip_long, zip_more}
use Rattle.nt_live.proofs.list.OwnList.put.Goals as goal

pub push_reserved-requires : goal.push_reserved-requires
push_reserved-requires c =
    let i = c.self.inside in
    let long = zip_long i.numbers.items i.events.events c.self.invariant.as_many in
    let is = ap (λ (x : OwnEvents). length x.pairs) c.self.view_is in
    let same = ap (λ (x : OwnEvents). x.room) c.self.view_is in
    let within = c.requires in
    let room = c.self.invariant.numbers in
    let fits = i.numbers.ok.0 in
    omega (arith, long, is, same, within, room, fits)

pub put-requires : goal.put-requires
put-requires c =
    let i = c.self.inside in
    let many = c.self.invariant.as_many in
    let long = zip_long i.numbers.items i.events.events many in
    let is = ap (λ (x : OwnEvents). length x.pairs) c.self.view_is in
    let same = ap (λ (x : OwnEvents). x.room) c.self.view_is in
    let within = c.requires in
    omega (arith, long, is, same, within, many)

pub returns : goal.returns
returns c =
    let i = c.self.inside in
    let n = c.args.number in
    let e = c.args.event.now in
    let numbers = c.push_reserved.ensures.items in
    let events : c.put.new.self.events ≡ i.events.events ++ e ∷ [] = ap (λ (x : Recorded). x.events) c.put.ensures in
    let room : c.put.new.self.room ≡ i.events.room = ap (λ (x : Recorded). x.room) c.put.ensures in
    let pairs : zip c.push_reserved.new.self.items c.put.new.self.events ≡ zip i.numbers.items i.events.events ++ (n, e) ∷ [] =
    ap (λ (xs : List ℕ). zip xs c.put.new.self.events) numbers
    ∙ (ap (λ (es : List Event). zip (i.numbers.items ++ n ∷ []) es) events ∙ zip_more i.numbers.items i.events.events n e c.self.invariant.as_many) in
    let both : c.put.new.self.room ≡ c.args.self.now.room = room ∙ ap (λ (x : OwnEvents). x.room) c.self.view_is in
    let all : zip c.push_reserved.new.self.items c.put.new.self.events ≡ c.args.self.now.pairs ++ (n, e) ∷ [] =
    pairs ∙ ap (λ (x : OwnEvents). x.pairs ++ (n, e) ∷ []) c.self.view_is in
    λ j. record { pairs = all j; room = both j }
