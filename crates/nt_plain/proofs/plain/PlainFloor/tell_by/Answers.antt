use Rattle.std.proofs.Common.{max, subst, sym, ◌∙◌, ◌≡◌}
use Rattle.std.proofs.lemmas.Bool.{ltb-true}
use Rattle.nt_event.specs.Lists.{table, value_at}
use Rattle.nt_plain.specs.Insides.{state_in}
use Rattle.nt_states.specs.LaneLists.{AskFits}
use Rattle.nt_plain.specs.Made.{IsPlanned, told_values}
use Rattle.nt_plain.specs.States.{PlainState}
use Rattle.nt_states.proofs.Requests.{each_asked}
use Rattle.nt_plain.proofs.Within.{others_untold, rows_within, told_of}
use Rattle.nt_plain.proofs.plain.PlainFloor.tell_by.Goals.{else-raise_own, then-raise_own}
use Rattle.nt_plain.proofs.plain.PlainFloor.tell_by.Goals as goal

pub raise_over-by_lanes-requires-clause-rows : goal.raise_over-by_lanes-requires-clause-rows
raise_over-by_lanes-requires-clause-rows c =
    let planned : IsPlanned (state_in c.self.inside) c.args.stand.now c.args.what.now c.args.lanes.now c.args.asks.now = subst
    (λ (f : PlainState). IsPlanned f c.args.stand.now c.args.what.now c.args.lanes.now c.args.asks.now) (sym c.self.view_is) c.requires in
    rw (c.whole_script-script.ensures, c.as_slice.ensures, c.cpu.ensures)
    (rows_within c.self.inside.states.script c.self.inside.told c.args.lanes.now c.args.stand.now.cpu c.self.invariant.told_length planned.lanes_named
    (ltb-true c.args.stand.now.cpu.0 c.self.inside.states.script.cpus planned.given.may.stand.cpu))

pub raise_over-by_lanes-requires-clause-others : goal.raise_over-by_lanes-requires-clause-others
raise_over-by_lanes-requires-clause-others c =
    let planned : IsPlanned (state_in c.self.inside) c.args.stand.now c.args.what.now c.args.lanes.now c.args.asks.now = subst
    (λ (f : PlainState). IsPlanned f c.args.stand.now c.args.what.now c.args.lanes.now c.args.asks.now) (sym c.self.view_is) c.requires in
    let cpu = ltb-true c.args.stand.now.cpu.0 c.self.inside.states.script.cpus planned.given.may.stand.cpu in
    rw (c.whole_script-script.ensures, c.as_slice.ensures, c.cpu.ensures)
    (others_untold c.self.inside.states.script c.self.inside.told c.args.lanes.now c.args.stand.now.cpu planned.lanes_named
    (λ x k h other. c.self.invariant.told_others x c.args.stand.now.cpu k cpu h other))

pub raise_own-requires : goal.raise_own-requires
raise_own-requires c k d l =
    (each_asked (AskFits c.args.self.now.script) c.as_slice-2.result.now c.args.asks.now c.as_slice-2.ensures c.requires.asks_named k d l).class

pub returns-clause-values : goal.returns-clause-values
returns-clause-values c =
    let st = c.args.stand.now in
    let w = c.args.what.now in
    let planned : IsPlanned (state_in c.self.inside) st w c.args.lanes.now c.args.asks.now = subst
    (λ (f : PlainState). IsPlanned f st w c.args.lanes.now c.args.asks.now) (sym c.self.view_is) c.requires in
    let cpu = ltb-true st.cpu.0 c.self.inside.states.script.cpus planned.given.may.stand.cpu in
    let by_lanes = rw c.cpu.ensures at c.raise_over-by_lanes.ensures.values in
    let by_own = rw c.cpu-2.ensures at c.raise_own.ensures.values in
    subst (λ (f : PlainState). c.raise_own.new.seen ≡ table 16 (λ k. max (value_at c.args.seen.now k) (value_at (told_values f st w) k))) c.self.view_is
    (told_of (state_in c.self.inside) st w c.whole_script-script.result.now c.as_slice.result.now c.args.lanes.now c.as_slice-2.result.now c.args.asks.now
    c.args.seen.now c.raise_over-by_lanes.new.seen c.raise_own.new.seen c.whole_script-script.ensures c.as_slice.ensures planned.lanes
    c.as_slice-2.ensures planned.asks planned.lanes_named c.self.invariant cpu c.classes.ensures by_lanes by_own)

pub returns-clause-interrupts : goal.returns-clause-interrupts
returns-clause-interrupts c =
    elim c.if-raise_own.branch [
      | then-raise_own w ↦ (λ h. let e = sym w.interrupts-is ∙ h in absurd cc)
      | else-raise_own w ↦ (λ h k a b. c.raise_own.ensures.interrupts w.if-raise_own.false k a b
          ∙ c.raise_over-by_lanes.ensures.interrupts (sym w.interrupts-is ∙ h) k a b)
    ]
