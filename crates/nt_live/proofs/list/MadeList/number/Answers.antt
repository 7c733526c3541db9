use Rattle.std.proofs.Common.{List, ap, arith, get_or, length, sym, ℕ, ◌<◌, ◌∙◌}
use Rattle.std.proofs.lemmas.List.{get_or_default}
use Rattle.std.specs.List.{zip}
use Rattle.nt_event.specs.declared.events.Event.{Event}
use Rattle.nt_live.proofs.Zipped.{zip_at, zip_long}
use Rattle.nt_live.proofs.list.MadeList.number.Goals as goal

pub index-requires : goal.index-requires
index-requires c =
    let i = c.self.inside in
    let long = zip_long i.numbers.items i.events c.self.invariant in
    let is = ap length c.self.view_is in
    let within = c.requires in
    let fits = i.numbers.ok.0 in
    omega (arith, long, is, within, fits)

pub returns : goal.returns
returns c x =
    let i = c.self.inside in
    let at = c.args.at in
    let long = zip_long i.numbers.items i.events c.self.invariant in
    let is = ap length c.self.view_is in
    let within = c.requires in
    let here : at < length (zip i.numbers.items i.events) = omega (arith, is, within) in
    let inside : at < length i.numbers.items = omega (arith, long, here) in
    ap (λ (xs : List (ℕ × Event)). (get_or xs at x).0) (sym c.self.view_is)
    ∙ (ap (λ (y : ℕ × Event). y.0) (zip_at i.numbers.items i.events at x c.self.invariant here)
    ∙ (get_or_default i.numbers.items at x.0 c.index.result.now inside ∙ sym c.index.ensures))
