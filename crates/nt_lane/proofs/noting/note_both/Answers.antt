use Rattle.std.proofs.Common.{ap, arith, refl, subst, sym, ◌∙◌}
use Rattle.std.specs.Prelude.{◌*◌, ◌^◌, ◌≡◌, ◌≤◌}
use Rattle.nt_event.specs.declared.jobs.Lane.TheVariants.{Object as ObjectLane, Queue as QueueLane}
use Rattle.nt_event.specs.declared.numbers.CpuNo.{CpuNo}
use Rattle.nt_event.specs.declared.numbers.DpcNo.{DpcNo}
use Rattle.nt_event.specs.LaneStates.{OfObject, OfQueue}
use Rattle.nt_event.specs.Objects.{object_after}
use Rattle.nt_event.specs.Queues.{queue_after}
use Rattle.nt_dpc.specs.Objects.{ObjectFacts}
use Rattle.nt_dpc.specs.Queues.{QueueFacts}
use Rattle.nt_dpc_lanes.specs.Changes.{change_of}
use Rattle.nt_mark.specs.Names.{pass_view}
use Rattle.nt_lane_record.specs.Changed.{MayChangeBoth}
use Rattle.nt_lane_record.specs.Held.{IsLastNoted, IsObjectThere, IsQueueThere, next_of}
use Rattle.nt_lane.specs.Steps.{object_left, queue_left}
use Rattle.nt_lane.proofs.Noted.{knows_later, knows_noted, last_noted, step_later}
use Rattle.nt_lane_record.proofs.Tying.{learns_through}
use Rattle.nt_lane.proofs.noting.note_both.Goals as goal

pub leave_both-requires : goal.leave_both-requires
leave_both-requires g c =
    subst (λ (p : CpuNo). MayChangeBoth c.args.object.now.state c.args.queue.now.state p (change_of c.args.step.now.plan.now.event.what))
    (sym (c.cpu.ensures ∙ c.requires.cpu))
    c.requires.may.may

pub note_step-requires-2-clause-step : goal.note_step-requires-2-clause-step
note_step-requires-2-clause-step g c =
    let step = c.args.step.now in
    step_later g.N.Plan.script (pass_view c.args.pass.now) (pass_view c.note_step.new.pass) step.number step.plan.now.event step.numbers.now step.plan.now.asks
    c.note_step.ensures.noted.learns c.requires.step

pub invariant_of-object : goal.invariant_of-object
invariant_of-object g c =
    let s = g.N.Plan.script in
    let old = c.args.object.now in
    let o = old.state in
    let new : ObjectFacts = c.leave_both.new.object in
    let n = c.args.step.now.number in
    let e = c.args.step.now.plan.now.event in
    let left : new ≡ object_left n e o =
    c.leave_both.ensures.object ∙ ap (λ (p : CpuNo). record o { state = object_after o.dpc n p e.what o.state }) (c.cpu.ensures ∙ c.requires.cpu) in
    let dpc : new.dpc ≡ o.dpc = ap (λ (x : ObjectFacts). x.dpc) left in
    let time : 0 ≤ next_of c.note_step.new.log.notes * 2 ^ 32 = omega arith in
    record {
      noted = last_noted s n c.args.step.now.plan.now.asks (OfObject new.state) old.log c.note_step.new.log (pass_view c.args.pass.now)
          (pass_view c.note_step.new.pass) c.note_step.ensures.noted (ObjectLane new.dpc) (OfObject o.state)
          (subst (λ (d : DpcNo). IsLastNoted s (ObjectLane d) (OfObject o.state) old.log) (sym dpc) old.noted);
      time = time;
      fits = subst (λ (x : ObjectFacts). IsObjectThere s x) (sym left) c.requires.may.object;
    }

pub invariant_of-queue : goal.invariant_of-queue
invariant_of-queue g c =
    let s = g.N.Plan.script in
    let old = c.args.queue.now in
    let q = old.state in
    let new : QueueFacts = c.leave_both.new.queue in
    let n = c.args.step.now.number in
    let e = c.args.step.now.plan.now.event in
    let objects = c.requires.known.0 in
    let left : new ≡ queue_left s n e objects q = c.leave_both.ensures.queue s objects c.requires.known.1
    ∙ ap (λ (p : CpuNo). record q { state = queue_after s q.cpu n p e.what objects q.state }) (c.cpu.ensures ∙ c.requires.cpu) in
    let cpu : new.cpu ≡ q.cpu = ap (λ (x : QueueFacts). x.cpu) left in
    let time : 0 ≤ next_of c.note_step-2.new.log.notes * 2 ^ 32 = omega arith in
    record {
      noted = last_noted s n c.args.step.now.plan.now.asks (OfQueue new.state) old.log c.note_step-2.new.log (pass_view c.note_step.new.pass)
          (pass_view c.note_step-2.new.pass) c.note_step-2.ensures.noted (QueueLane new.cpu) (OfQueue q.state)
          (subst (λ (p : CpuNo). IsLastNoted s (QueueLane p) (OfQueue q.state) old.log) (sym cpu) old.noted);
      time = time;
      fits = subst (λ (x : QueueFacts). IsQueueThere s x) (sym left) (c.requires.may.queue objects c.requires.known.1);
    }

pub returns-clause-learns : goal.returns-clause-learns
returns-clause-learns g c =
    learns_through (pass_view c.args.pass.now) (pass_view c.note_step.new.pass) (pass_view c.note_step-2.new.pass) c.note_step.ensures.noted.learns
    c.note_step-2.ensures.noted.learns

pub returns-clause-object : goal.returns-clause-object
returns-clause-object g c =
    let s = g.N.Plan.script in
    let old = c.args.object.now in
    let o = old.state in
    let new : ObjectFacts = c.leave_both.new.object in
    let n = c.args.step.now.number in
    let e = c.args.step.now.plan.now.event in
    let asks = c.args.step.now.plan.now.asks in
    let then_left = OfObject (object_left n e o).state in
    let left : new ≡ object_left n e o =
    c.leave_both.ensures.object ∙ ap (λ (p : CpuNo). record o { state = object_after o.dpc n p e.what o.state }) (c.cpu.ensures ∙ c.requires.cpu) in
    knows_later s (pass_view c.note_step.new.pass) (pass_view c.note_step-2.new.pass) n asks then_left old.log c.note_step-2.ensures.noted.learns
    (knows_noted s n c.args.step.now.plan.now.asks (OfObject new.state) old.log c.note_step.new.log (pass_view c.args.pass.now)
    (pass_view c.note_step.new.pass) c.note_step.ensures.noted asks then_left refl (ap (λ (x : ObjectFacts). OfObject x.state) left))

pub returns-clause-queue : goal.returns-clause-queue
returns-clause-queue g c objects is =
    let s = g.N.Plan.script in
    let old = c.args.queue.now in
    let q = old.state in
    let new : QueueFacts = c.leave_both.new.queue in
    let n = c.args.step.now.number in
    let e = c.args.step.now.plan.now.event in
    let asks = c.args.step.now.plan.now.asks in
    let left : new ≡ queue_left s n e objects q = c.leave_both.ensures.queue s objects is
    ∙ ap (λ (p : CpuNo). record q { state = queue_after s q.cpu n p e.what objects q.state }) (c.cpu.ensures ∙ c.requires.cpu) in
    knows_noted s n c.args.step.now.plan.now.asks (OfQueue new.state) old.log c.note_step-2.new.log (pass_view c.note_step.new.pass)
    (pass_view c.note_step-2.new.pass) c.note_step-2.ensures.noted asks (OfQueue (queue_left s n e objects q).state) refl
    (ap (λ (x : QueueFacts). OfQueue x.state) left)
