use Rattle.std.proofs.Common.{ap, arith, refl, subst, sym}
use Rattle.std.specs.Prelude.{◌*◌, ◌^◌, ◌≡◌, ◌≤◌}
use Rattle.nt_event.specs.declared.jobs.Lane.TheVariants.{Object as ObjectLane}
use Rattle.nt_event.specs.declared.numbers.DpcNo.{DpcNo}
use Rattle.nt_event.specs.LaneStates.{OfObject}
use Rattle.nt_dpc.specs.Objects.{ObjectFacts}
use Rattle.nt_mark.specs.Names.{pass_view}
use Rattle.nt_lane_record.specs.Held.{IsLastNoted, IsObjectThere, next_of}
use Rattle.nt_lane.specs.Steps.{object_left}
use Rattle.nt_lane.proofs.Noted.{knows_noted, last_noted}
use Rattle.nt_lane.proofs.noting.note_object.Goals as goal

pub invariant_of-lane : goal.invariant_of-lane
invariant_of-lane g c =
    let s = g.N.Plan.script in
    let old = c.args.lane.now in
    let n = c.args.step.now.number in
    let e = c.args.step.now.plan.now.event in
    let left : c.leave.new.self ≡ object_left n e old.state = c.leave.ensures n e.cpu in
    let dpc : c.leave.new.self.dpc ≡ old.state.dpc = ap (λ (x : ObjectFacts). x.dpc) left in
    let time : 0 ≤ next_of c.note_step.new.log.notes * 2 ^ 32 = omega arith in
    record {
      noted = last_noted s n c.args.step.now.plan.now.asks (OfObject c.leave.new.self.state) old.log c.note_step.new.log (pass_view c.args.pass.now)
          (pass_view c.note_step.new.pass) c.note_step.ensures.noted (ObjectLane c.leave.new.self.dpc) (OfObject old.state.state)
          (subst (λ (d : DpcNo). IsLastNoted s (ObjectLane d) (OfObject old.state.state) old.log) (sym dpc) old.noted);
      time = time;
      fits = subst (λ (x : ObjectFacts). IsObjectThere s x) (sym left) c.requires.may.there;
    }

pub returns-clause-noted : goal.returns-clause-noted
returns-clause-noted g c =
    let old = c.args.lane.now in
    let n = c.args.step.now.number in
    let e = c.args.step.now.plan.now.event in
    let left : c.leave.new.self ≡ object_left n e old.state = c.leave.ensures n e.cpu in
    knows_noted g.N.Plan.script n c.args.step.now.plan.now.asks (OfObject c.leave.new.self.state) old.log c.note_step.new.log (pass_view c.args.pass.now)
    (pass_view c.note_step.new.pass) c.note_step.ensures.noted c.args.step.now.plan.now.asks (OfObject (object_left n e old.state).state) refl
    (ap (λ (x : ObjectFacts). OfObject x.state) left)
