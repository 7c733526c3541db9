use Rattle.std.proofs.Common.{ap, refl, subst, sym}
use Rattle.std.specs.Prelude.{◌*◌, ◌^◌, ◌≡◌, ◌≤◌}
use Rattle.nt_event.specs.declared.jobs.Lane.TheVariants.{Timers as TimersLane}
use Rattle.nt_event.specs.declared.scripts.Script.{Script}
use Rattle.nt_event.specs.LaneStates.{OfTimers}
use Rattle.nt_event.specs.Timers.{Timers, timers_after}
use Rattle.nt_states.specs.Timed.{MayTime}
use Rattle.nt_mark.specs.Names.{pass_view}
use Rattle.nt_timer.specs.Laws.{IsSized}
use Rattle.nt_lane_record.specs.Held.{next_of}
use Rattle.nt_lane.proofs.Noted.{knows_noted, last_noted, time_before, time_below, time_left, time_noted}
use Rattle.nt_lane.proofs.noting.note_timers.Goals as goal

pub leave-requires-clause-sized : goal.leave-requires-clause-sized
leave-requires-clause-sized g c = subst (λ (s : Script). IsSized s c.args.lane.now.state) (sym c.requires.script) c.args.lane.now.fits

pub leave-requires-clause-may : goal.leave-requires-clause-may
leave-requires-clause-may g c =
    let e = c.args.step.now.plan.now.event in
    subst (λ (s : Script). MayTime s c.args.lane.now.state e e.what) (sym c.requires.script) c.requires.may.may

pub leave-requires-clause-time : goal.leave-requires-clause-time
leave-requires-clause-time g c =
    let old = c.args.lane.now in
    let n = c.args.step.now.number in
    time_below n old.state.now (time_before old.state.now (next_of old.log.notes) n old.time c.requires.ready.above) c.requires.step.below

pub invariant_of-lane : goal.invariant_of-lane
invariant_of-lane g c =
    let s = g.N.Plan.script in
    let old = c.args.lane.now in
    let new : Timers = c.leave.new.self in
    let n = c.args.step.now.number in
    let asks = c.args.step.now.plan.now.asks in
    let v = pass_view c.args.pass.now in
    let w = pass_view c.note_step.new.pass in
    let before : old.state.now ≤ n * 2 ^ 32 = time_before old.state.now (next_of old.log.notes) n old.time c.requires.ready.above in
    record {
      noted = last_noted s n asks (OfTimers new) old.log c.note_step.new.log v w c.note_step.ensures.noted TimersLane (OfTimers old.state) old.noted;
      time = time_noted s n asks (OfTimers new) old.log c.note_step.new.log v w c.note_step.ensures.noted new.now
          (time_left n old.state.now new.now before c.leave.ensures.time);
      fits = subst (λ (x : Script). IsSized x new) c.requires.script c.leave.ensures.sized;
    }

pub returns-clause-noted : goal.returns-clause-noted
returns-clause-noted g c =
    let s = g.N.Plan.script in
    let old = c.args.lane.now in
    let n = c.args.step.now.number in
    let st = c.args.step.now.stand.now in
    let e = c.args.step.now.plan.now.event in
    let after : c.leave.new.self ≡ timers_after s n st e old.state =
    subst (λ (x : Script). c.leave.new.self ≡ timers_after x n st e old.state) c.requires.script c.leave.ensures.timers in
    knows_noted s n c.args.step.now.plan.now.asks (OfTimers c.leave.new.self) old.log c.note_step.new.log (pass_view c.args.pass.now)
    (pass_view c.note_step.new.pass) c.note_step.ensures.noted c.args.step.now.plan.now.asks (OfTimers (timers_after s n st e old.state)) refl
    (ap OfTimers after)
