use Rattle.std.proofs.Math.Logic.{∥∥₁_map}
use Rattle.nt_mark.specs.Names.{pass_view}
use Rattle.nt_lane.proofs.Acts.{act_made, made_listed, refused_listed}
use Rattle.nt_lane.proofs.floor.LaneSeatFloor.act.Goals as goal

-- after a refusal
pub invariant_of-self : goal.invariant_of-self
invariant_of-self g c = record {
  words = c.args.self.now.words;
  cpus = c.args.self.now.cpus;
  all_lanes = c.args.self.now.all_lanes;
  seat = c.act_under.ensures.table;
  listed = ∥∥₁_map c.args.self.now.listed (refused_listed g.N.Plan.script c.args.stand.now c.args.job.now (pass_view c.args.self.now.pass)
      (pass_view c.act_under.new.pass) _ c.in_err-made.ensures.refused);
}

-- after an event
pub invariant_of-self-2 : goal.invariant_of-self-2
invariant_of-self-2 g c = record {
  words = c.args.self.now.words;
  cpus = c.args.self.now.cpus;
  all_lanes = c.args.self.now.all_lanes;
  seat = c.act_under.ensures.table;
  listed = ∥∥₁_map c.args.self.now.listed (made_listed g.N.Plan.script c.args.stand.now c.args.job.now (pass_view c.args.self.now.pass)
      (pass_view c.act_under.new.pass) c.args.seen.now c.act_under.new.seen c.act_under.new.event c.in_ok-made.made c.in_ok-made.ensures.done);
}

pub returns-clause-event : goal.returns-clause-event
returns-clause-event g c =
    act_made g.N.Plan.script c.args.stand.now c.args.job.now (pass_view c.args.self.now.pass) (pass_view c.act_under.new.pass) c.args.self.now.marks.now
    c.args.seen.now c.act_under.new.seen c.act_under.new.event c.in_ok-made.made c.requires.room c.in_ok-made.ensures.done
