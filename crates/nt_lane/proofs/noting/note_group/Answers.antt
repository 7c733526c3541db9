use Rattle.std.proofs.Common.{ap, arith, refl, subst, sym}
use Rattle.std.specs.Prelude.{◌*◌, ◌^◌, ◌≡◌, ◌≤◌}
use Rattle.nt_event.specs.declared.jobs.Lane.TheVariants.{Threads as ThreadsLane}
use Rattle.nt_event.specs.declared.numbers.CpuNo.{CpuNo}
use Rattle.nt_mark.specs.Names.{pass_view}
use Rattle.nt_states.specs.ThreadLanes.{left}
use Rattle.nt_lane_record.specs.Held.{GroupState, IsGroupThere, IsLastNoted, group_content, next_of}
use Rattle.nt_lane.proofs.Noted.{group_there, knows_noted, last_noted}
use Rattle.nt_lane.proofs.noting.note_group.Goals as goal

pub invariant_of-lane : goal.invariant_of-lane
invariant_of-lane g c =
    let s = g.N.Plan.script in
    let old = c.args.lane.now in
    let n = c.args.step.now.number in
    let st = c.args.step.now.stand.now in
    let e = c.args.step.now.plan.now.event in
    let after : c.leave.new.self ≡ record old.state { threads = left n st e old.state.threads } = c.leave.ensures in
    let cpu : c.leave.new.self.cpu ≡ old.state.cpu = ap (λ (x : GroupState). x.cpu) after in
    let time : 0 ≤ next_of c.note_step.new.log.notes * 2 ^ 32 = omega arith in
    record {
      noted = last_noted s n c.args.step.now.plan.now.asks (group_content c.leave.new.self) old.log c.note_step.new.log (pass_view c.args.pass.now)
          (pass_view c.note_step.new.pass) c.note_step.ensures.noted (ThreadsLane c.leave.new.self.cpu) (group_content old.state)
          (subst (λ (p : CpuNo). IsLastNoted s (ThreadsLane p) (group_content old.state) old.log) (sym cpu) old.noted);
      time = time;
      fits = subst (λ (x : GroupState). IsGroupThere s x) (sym after) (group_there s n st e old.state old.fits);
    }

pub returns-clause-noted : goal.returns-clause-noted
returns-clause-noted g c =
    let old = c.args.lane.now in
    let n = c.args.step.now.number in
    let st = c.args.step.now.stand.now in
    let e = c.args.step.now.plan.now.event in
    let after : c.leave.new.self ≡ record old.state { threads = left n st e old.state.threads } = c.leave.ensures in
    knows_noted g.N.Plan.script n c.args.step.now.plan.now.asks (group_content c.leave.new.self) old.log c.note_step.new.log (pass_view c.args.pass.now)
    (pass_view c.note_step.new.pass) c.note_step.ensures.noted c.args.step.now.plan.now.asks
    (group_content (record old.state { threads = left n st e old.state.threads })) refl (ap (λ (x : GroupState). group_content x) after)
