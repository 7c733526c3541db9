use Rattle.std.proofs.Common.{List, [], ap, arith, get_or, length, sym, ◌++◌, ◌<◌, ◌∙◌, ◌∷◌}
use Rattle.std.specs.List.{zip}
use Rattle.std.specs.Prelude.{ℕ}
use Rattle.nt_event.specs.declared.events.Event.{Event}
use Rattle.nt_history.proofs.Lists.{as_many}
use Rattle.nt_live.proofs.Zipped.{from_ok, zip_at, zip_long}
use Rattle.nt_live.proofs.list.MadeList.put_behind.Goals as goal

pub put_behind-requires : goal.put_behind-requires
put_behind-requires c =
    let i = c.self.inside in
    let long = zip_long i.numbers.items i.events c.self.invariant in
    let is = ap length c.self.view_is in
    let many = as_many c.lend.result.briefs.now c.lend.result.rises.now in
    let same = ap length c.lend.ensures.events in
    let many_too = c.self.invariant in
    let inside = c.requires in
    omega (arith, long, is, many, same, many_too, inside)

pub returns : goal.returns
returns c =
    let i = c.self.inside in
    let at = c.args.at in
    let old = c.args.events.now in
    let is = ap length c.self.view_is in
    let inside = c.requires in
    let here : at < length (zip i.numbers.items i.events) = omega (arith, is, inside) in
    from_ok c.put_behind.result _ _ c.put_behind.ensures
    (λ h x.
    h x.1
    ∙ ap (λ (e : Event). old ++ e ∷ [])
    (ap (λ (es : List Event). get_or es at x.1) c.lend.ensures.events
    ∙ (ap (λ (y : ℕ × Event). y.1) (sym (zip_at i.numbers.items i.events at x c.self.invariant here))
    ∙ ap (λ (xs : List (ℕ × Event)). (get_or xs at x).1) c.self.view_is)))
