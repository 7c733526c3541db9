-- The values ahead of a class of a processor, which stands at its place.
use Rattle.std.proofs.Common.{ap, arith, subst, sym, ◌∙◌}
use Rattle.std.proofs.lemmas.List.{get_or-map, length-map}
use Rattle.std.specs.Prelude.{List, get_or, length, ℕ, ◌*◌, ◌+◌, ◌<◌, ◌≡◌}
use Rattle.nt_event.specs.declared.events.Event.{Event}
use Rattle.nt_event.specs.declared.numbers.CpuNo.{CpuNo}
use Rattle.nt_event.specs.declared.scripts.Script.{Script}
use Rattle.nt_event.specs.Lists.{value_at}
use Rattle.nt_event.specs.Requests.{seen}
use Rattle.nt_event.proofs.Tables.{get_or-table, length-table_from}
use Rattle.nt_shade_asks.specs.declared.class_asks.ClassAsks.{ClassAsks}
use Rattle.nt_shade_asks.specs.declared.unnoticed.Unnoticed.{Unnoticed}
use Rattle.nt_shade_asks.specs.Follows.{IsAsked, IsOf, place_of}
use Rattle.nt_shade_asks.specs.Values.{values_above}
use Rattle.nt_shade_asks.proofs.Counts.{carried, one_place}

module _ (s : Script) (x : Unnoticed) (of : IsOf s x) (p : CpuNo) (c : ℕ) (has : p.0 < s.cpus) (l : c < 16) where
  -- it is one of them
  pub within : p.0 * 16 + c < length x.classes.items
  within =
      let a = ap length of.places in
      let b = length-map x.classes.items place_of in
      let d = length-table_from {A = ℕ} 0 (s.cpus * 16) (λ place. place) in
      omega (arith, a, b, d, has, l)

  place_at : (d : ClassAsks) → place_of (get_or x.classes.items (p.0 * 16 + c) d) ≡ p.0 * 16 + c
  place_at d =
      sym (get_or-map place_of x.classes.items (p.0 * 16 + c) d 0 within)
      ∙ ap (λ (places : List ℕ). value_at places (p.0 * 16 + c)) of.places
      ∙ get_or-table {A = ℕ} (s.cpus * 16) (p.0 * 16 + c) (λ place. place) 0 (omega (arith, has, l))

  -- what it keeps ahead is what the history says
  pub ahead_of : (past : List Event) → IsAsked s past x → (row : ClassAsks) → row ≡ get_or x.classes.items (p.0 * 16 + c) row →
      row.ahead.items ≡ values_above s p c (seen s p c past) past
  ahead_of past asked row e =
      let place : place_of row ≡ p.0 * 16 + c = ap place_of e ∙ place_at row in
      let room = subst (λ (y : ClassAsks). y.class < 16) (sym e) (of.room (p.0 * 16 + c) row within).class in
      let one = one_place row p c place room l in
      let kept : row.ahead.items ≡ values_above s row.cpu row.class (seen s row.cpu row.class past) past =
      subst (λ (y : ClassAsks). y.ahead.items ≡ values_above s y.cpu y.class (seen s y.cpu y.class past) past) (sym e)
      (asked (p.0 * 16 + c) row within).ahead in
      carried (λ q d. row.ahead.items ≡ values_above s q d (seen s q d past) past) p row.cpu c row.class one.0 one.1 kept
