use Rattle.std.proofs.Common.{arith, subst, sym}
use Rattle.std.proofs.lemmas.Bool.{ltb-true}
use Rattle.std.proofs.lemmas.List.Elements.{Contains-append_right}
use Rattle.std.specs.Prelude.{Contains, List, [], get_or, ℕ, ◌+◌, ◌<◌, ◌∷◌, ◌≤◌}
use Rattle.nt_mark.specs.Names.{pass_view}
use Rattle.nt_mark.specs.Views.{entry_numbers, reach, step_word}
use Rattle.nt_states.proofs.Requests.{each_asked}
use Rattle.nt_event.specs.declared.class.Asked.{Asked}
use Rattle.nt_states.specs.LaneLists.{AskFits, as_asks}
use Rattle.nt_lane.specs.Tries.{HasMade}
use Rattle.nt_lane.proofs.Drawn.{has_made, made_contains}
use Rattle.nt_lane_record.proofs.Tying.{here}
use Rattle.nt_lane.proofs.tries.draw_plan.Goals as goal

pub mark_all-requires-clause-words : goal.mark_all-requires-clause-words
mark_all-requires-clause-words g c k d l =
    let s = g.N.Plan.script in
    let asks = c.as_slice-2.result.now in
    let x : Asked = get_or asks k d in
    let a = each_asked (AskFits s) asks c.args.plan.now.asks c.as_slice-2.ensures c.requires.asks k d l in
    (subst (λ (n : ℕ). x.cpu.0 < n) (sym c.requires.cpus) (ltb-true x.cpu.0 s.cpus a.cpu), a.class)

pub mark_all-requires-clause-drew : goal.mark_all-requires-clause-drew
mark_all-requires-clause-drew g c =
    let n = c.draw-n.result in
    subst (λ (ns : List ℕ). Contains ns n) (sym c.draw-n.ensures.numbers)
    (Contains-append_right (entry_numbers (pass_view c.args.pass.now).entries) (n ∷ []) n (here n))

pub returns-clause-made : goal.returns-clause-made
returns-clause-made g c =
    let n = c.draw-n.result in
    let w = pass_view c.mark_all.new.pass in
    let m = c.mark_all.ensures.marked in
    let to : n + 1 ≤ reach step_word w = omega (arith, m.step, c.draw-n.ensures.knows) in
    has_made n c.args.plan.now.event c.as_slice.result.now c.args.numbers.now (as_asks c.as_slice-2.result.now) c.args.plan.now.asks
    (pass_view c.args.pass.now) (pass_view c.draw-n.new.pass) w c.as_slice.ensures c.as_slice-2.ensures c.draw-n.ensures.drew m c.draw-n.ensures.least to

pub returns-clause-step : goal.returns-clause-step
returns-clause-step g c =
    let n = c.draw-n.result in
    let v = pass_view c.args.pass.now in
    let w = pass_view c.mark_all.new.pass in
    let made : HasMade n c.args.plan.now.event c.args.numbers.now c.args.plan.now.asks v w = returns-clause-made g c in
    record {
      drew = made_contains n c.args.plan.now.event c.args.numbers.now c.args.plan.now.asks v w made;
      beyond = (let a = made.to in omega (arith, a));
      below = omega (arith, c.draw-n.ensures.most, c.args.marks.now.few_numbers);
      asks_named = c.requires.asks;
      asked = made.asked;
    }
