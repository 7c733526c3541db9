use Rattle.std.proofs.Common.{ap, arith, refl, subst, sym, ◌∙◌}
use Rattle.std.specs.Prelude.{[], ◌*◌, ◌^◌, ◌≡◌, ◌≤◌}
use Rattle.nt_event.specs.declared.jobs.Lane.TheVariants.{Queue as QueueLane}
use Rattle.nt_event.specs.declared.numbers.CpuNo.{CpuNo}
use Rattle.nt_event.specs.LaneStates.{OfQueue}
use Rattle.nt_event.specs.Queues.{queue_after}
use Rattle.nt_dpc.specs.Queues.{QueueFacts}
use Rattle.nt_mark.specs.Names.{pass_view}
use Rattle.nt_lane_record.specs.Held.{IsLastNoted, IsQueueThere, next_of}
use Rattle.nt_lane.specs.Steps.{queue_left}
use Rattle.nt_lane.proofs.Noted.{knows_noted, last_noted}
use Rattle.nt_lane.proofs.noting.note_queue.Goals as goal

pub invariant_of-lane : goal.invariant_of-lane
invariant_of-lane g c =
    let s = g.N.Plan.script in
    let old = c.args.lane.now in
    let q = old.state in
    let n = c.args.step.now.number in
    let e = c.args.step.now.plan.now.event in
    let left : c.leave.new.self ≡ queue_left s n e [] q =
    c.leave.ensures s [] n ∙ ap (λ (p : CpuNo). record q { state = queue_after s q.cpu n p e.what [] q.state }) c.requires.may.own in
    let cpu : c.leave.new.self.cpu ≡ q.cpu = ap (λ (x : QueueFacts). x.cpu) left in
    let time : 0 ≤ next_of c.note_step.new.log.notes * 2 ^ 32 = omega arith in
    record {
      noted = last_noted s n c.args.step.now.plan.now.asks (OfQueue c.leave.new.self.state) old.log c.note_step.new.log (pass_view c.args.pass.now)
          (pass_view c.note_step.new.pass) c.note_step.ensures.noted (QueueLane c.leave.new.self.cpu) (OfQueue q.state)
          (subst (λ (p : CpuNo). IsLastNoted s (QueueLane p) (OfQueue q.state) old.log) (sym cpu) old.noted);
      time = time;
      fits = subst (λ (x : QueueFacts). IsQueueThere s x) (sym left) (c.requires.may.there []);
    }

pub returns-clause-noted : goal.returns-clause-noted
returns-clause-noted g c objects =
    let s = g.N.Plan.script in
    let old = c.args.lane.now in
    let q = old.state in
    let n = c.args.step.now.number in
    let e = c.args.step.now.plan.now.event in
    let left : c.leave.new.self ≡ queue_left s n e objects q =
    c.leave.ensures s objects n ∙ ap (λ (p : CpuNo). record q { state = queue_after s q.cpu n p e.what objects q.state }) c.requires.may.own in
    knows_noted s n c.args.step.now.plan.now.asks (OfQueue c.leave.new.self.state) old.log c.note_step.new.log (pass_view c.args.pass.now)
    (pass_view c.note_step.new.pass) c.note_step.ensures.noted c.args.step.now.plan.now.asks (OfQueue (queue_left s n e objects q).state) refl
    (ap (λ (x : QueueFacts). OfQueue x.state) left)
