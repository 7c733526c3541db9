use Rattle.std.proofs.Common.{arith, subst, sym, ◌≡◌}
use Rattle.nt_event.specs.Acting.{acted_event}
use Rattle.nt_plain.specs.Insides.{state_in}
use Rattle.nt_states.specs.LaneLists.{AskFits}
use Rattle.nt_plain.specs.Made.{IsPlanned}
use Rattle.nt_plain.specs.States.{PlainState}
use Rattle.nt_plain.proofs.Keeping.{kept_left}
use Rattle.nt_states.proofs.Requests.{each_asked}
use Rattle.nt_plain.proofs.Within.{marks_within, places_within, words_within}
use Rattle.nt_plain.proofs.plain.PlainFloor.leave.Goals as goal

pub raise_all-requires-clause-words : goal.raise_all-requires-clause-words
raise_all-requires-clause-words c =
    let planned : IsPlanned (state_in c.self.inside) c.args.stand.now c.args.event.now.what c.args.lanes.now c.args.asks.now = subst
    (λ (f : PlainState). IsPlanned f c.args.stand.now c.args.event.now.what c.args.lanes.now c.args.asks.now) (sym c.self.view_is) c.requires.planned in
    words_within c.self.inside.states.script c.self.inside.asked c.as_slice-asked.result.now c.args.asks.now c.self.invariant.asked_length
    c.as_slice-asked.ensures planned.asks_named

pub raise_all-requires-clause-classes : goal.raise_all-requires-clause-classes
raise_all-requires-clause-classes c k d l =
    (each_asked (AskFits c.args.self.now.script) c.as_slice-asked.result.now c.args.asks.now c.as_slice-asked.ensures c.requires.planned.asks_named k d l).class

pub mark_all-requires-clause-rows : goal.mark_all-requires-clause-rows
mark_all-requires-clause-rows c =
    let planned : IsPlanned (state_in c.self.inside) c.args.stand.now c.args.event.now.what c.args.lanes.now c.args.asks.now = subst
    (λ (f : PlainState). IsPlanned f c.args.stand.now c.args.event.now.what c.args.lanes.now c.args.asks.now) (sym c.self.view_is) c.requires.planned in
    marks_within c.self.inside.states.script c.whole_script-script.result.now c.self.inside.limit c.self.inside.next c.self.inside.marks
    c.as_slice-asked.result.now c.args.asks.now c.self.invariant.marks_length planned.room c.whole_script-script.ensures c.as_slice-asked.ensures
    planned.asks_named

pub mark_all-requires-clause-classes : goal.mark_all-requires-clause-classes
mark_all-requires-clause-classes c k d l =
    (each_asked (AskFits c.args.self.now.script) c.as_slice-asked.result.now c.args.asks.now c.as_slice-asked.ensures c.requires.planned.asks_named k d l).class

pub tell-requires-clause-places : goal.tell-requires-clause-places
tell-requires-clause-places c =
    let planned : IsPlanned (state_in c.self.inside) c.args.stand.now c.args.event.now.what c.args.lanes.now c.args.asks.now = subst
    (λ (f : PlainState). IsPlanned f c.args.stand.now c.args.event.now.what c.args.lanes.now c.args.asks.now) (sym c.self.view_is) c.requires.planned in
    rw (c.whole_script-script.ensures, c.as_slice-touched.ensures)
    (places_within c.self.inside.states.script c.self.inside.told c.args.lanes.now c.as_slice-asked.result.now c.args.asks.now c.self.invariant.told_length
    planned.lanes_named c.as_slice-asked.ensures planned.asks_named)

pub tell-requires-clause-bound : goal.tell-requires-clause-bound
tell-requires-clause-bound c =
    let planned : IsPlanned (state_in c.self.inside) c.args.stand.now c.args.event.now.what c.args.lanes.now c.args.asks.now = subst
    (λ (f : PlainState). IsPlanned f c.args.stand.now c.args.event.now.what c.args.lanes.now c.args.asks.now) (sym c.self.view_is) c.requires.planned in
    let room = planned.room in
    let limit = c.self.invariant.limit in omega (arith, room, limit)

pub invariant_of-self : goal.invariant_of-self
invariant_of-self c =
    let f : PlainState = state_in c.self.inside in
    let st = c.args.stand.now in
    let e = c.args.event.now in
    let planned : IsPlanned f st e.what c.args.lanes.now c.args.asks.now = subst (λ (g : PlainState). IsPlanned g st e.what c.args.lanes.now c.args.asks.now)
    (sym c.self.view_is) c.requires.planned in
    let event : e ≡ acted_event st f.lanes e.what = subst (λ (g : PlainState). e ≡ acted_event st g.lanes e.what) (sym c.self.view_is) c.requires.event in
    kept_left f st e c.args.lanes.now c.args.asks.now c.whole_script-script.result.now c.as_slice-touched.result.now c.as_slice-asked.result.now
    c.raise_all.new.self c.mark_all.new.self c.tell.new.self c.leave.new.self c.self.invariant planned event c.whole_script-script.ensures
    c.as_slice-touched.ensures c.as_slice-asked.ensures c.raise_all.ensures c.mark_all.ensures c.tell.ensures c.leave.ensures.lanes c.leave.ensures.time

pub leave-requires-clause-given : goal.leave-requires-clause-given
leave-requires-clause-given c =
    let planned : IsPlanned (state_in c.self.inside) c.args.stand.now c.args.event.now.what c.args.lanes.now c.args.asks.now = subst
    (λ (f : PlainState). IsPlanned f c.args.stand.now c.args.event.now.what c.args.lanes.now c.args.asks.now) (sym c.self.view_is) c.requires.planned in
    planned.given
