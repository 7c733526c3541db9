use Rattle.std.proofs.Common.{[], ap, arith, get_or, refl, subst, sym, ◌∙◌}
use Rattle.std.specs.Prelude.{List, reverse}
use Rattle.nt_event.specs.declared.events.Turn.{Turn}
use Rattle.nt_search.specs.States.{Seen}
use Rattle.nt_search.specs.Ways.{Lead}
use Rattle.nt_search.proofs.Beginning.{begins}
use Rattle.nt_search.proofs.Leading.{earlier, lead_back, lead_on}
use Rattle.nt_search.proofs.states.States.path_to.Goals as goal

pub loop-station-init : goal.loop-station-init
loop-station-init c = record {
  within = c.requires.number;
  place = c.place_of-station.ensures;
  lead = λ s all are. subst (λ (ts : List Turn). Lead s (reverse ts) (get_or all c.args.number []) (get_or all c.args.number []))
      (sym c.new-turns.ensures.items) refl;
}

pub loop-station-smaller : goal.loop-station-smaller
loop-station-smaller c =
    earlier c.requires.ways.0 c.requires.ways.1 c.args.self.now.ways c.requires.ways.2 c.loop-station.at c.get-way.result
    (c.begins_at.ensures.later c.loop-station-test.true) c.loop-station.invariant.within
    (c.get-way.ensures ∙ ap (λ (x : Seen). get_or x.ways c.loop-station.at c.get-way.result) c.self.view_is)

pub loop-station-preserved : goal.loop-station-preserved
loop-station-preserved c =
    let ways = c.args.self.now.ways in
    let way = c.get-way.result in
    let some = c.begins_at.ensures.later c.loop-station-test.true in
    let low = earlier c.requires.ways.0 c.requires.ways.1 ways c.requires.ways.2 c.loop-station.at way some c.loop-station.invariant.within
    (c.get-way.ensures ∙ ap (λ (x : Seen). get_or x.ways c.loop-station.at c.get-way.result) c.self.view_is) in
    record {
      within = omega (arith, low, c.loop-station.invariant.within);
      place = c.place_of-station-in-loop-station.ensures;
      lead = λ s all are. lead_back s c.loop-station.turns.items c.push.new.self.items way.turn (get_or all way.from []) (get_or all c.args.number [])
          c.in_ok-push.ensures.items
          (lead_on s all ways are c.loop-station.at way some c.loop-station.invariant.within
          (c.get-way.ensures ∙ ap (λ (x : Seen). get_or x.ways c.loop-station.at c.get-way.result) c.self.view_is) (reverse c.loop-station.turns.items)
          (get_or all c.args.number []) (c.loop-station.invariant.lead s all are));
    }

pub returns : goal.returns
returns c s all are = record {
  from = c.loop-station.at;
  begins = begins c.args.stations.now c.loop-station.station c.loop-station.at c.loop-station.invariant.place
      (c.begins_at.ensures.there c.loop-station-test.false);
  lead = subst (λ (ts : List Turn). Lead s ts (get_or all c.loop-station.at []) (get_or all c.args.number [])) (sym c.reverse.ensures.items)
      (c.loop-station.invariant.lead s all are);
}
