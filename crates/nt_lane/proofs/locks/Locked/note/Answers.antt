use Rattle.std.proofs.Common.{subst}
use Rattle.nt_lane.specs.Locks.{HeldLanes}
use Rattle.nt_lane.specs.Steps.{AreLeftBy}
use Rattle.nt_mark.specs.Names.{pass_view}
use Rattle.nt_lane.proofs.Noted.{all_left}
use Rattle.nt_lane_record.proofs.Tying.{learns_through}
use Rattle.nt_lane.proofs.locks.Locked.note.Goals as goal

pub returns-clause-learns : goal.returns-clause-learns
returns-clause-learns g c =
    let t = pass_view c.args.pass.now in
    let u = pass_view c.touch_dpcs.new.pass in
    let v = pass_view c.touch_group.new.pass in
    let w = pass_view c.touch_timers.new.pass in
    let x = pass_view c.touch_spin.new.pass in
    learns_through t w x (learns_through t v w (learns_through t u v c.touch_dpcs.ensures.learns c.touch_group.ensures.learns) c.touch_timers.ensures.learns)
    c.touch_spin.ensures.learns

pub returns-clause-left : goal.returns-clause-left
returns-clause-left g c =
    let s = g.N.Plan.script in
    let step = c.args.step.now in
    let n = step.number in
    let st = step.stand.now in
    let e = step.plan.now.event in
    let lanes = step.plan.now.lanes in
    let asks = step.plan.now.asks in
    let u = pass_view c.touch_dpcs.new.pass in
    let v = pass_view c.touch_group.new.pass in
    let w = pass_view c.touch_timers.new.pass in
    let x = pass_view c.touch_spin.new.pass in
    subst (λ (h : HeldLanes). AreLeftBy s n st e lanes asks h x) c.self.view_is
    (all_left s n st e lanes asks _ u v w x c.touch_group.ensures.learns c.touch_timers.ensures.learns c.touch_spin.ensures.learns c.touch_dpcs.ensures.noted
    c.touch_group.ensures.noted c.touch_timers.ensures.noted c.touch_spin.ensures.noted)
