use Rattle.std.proofs.Common.{refl}
use Rattle.nt_mark.specs.Names.{pass_view}
use Rattle.nt_lane.proofs.Refusing.{no_event, no_memory}
use Rattle.nt_lane.proofs.Retries.{room_left}
use Rattle.nt_lane.proofs.tries.try_under.Goals as goal

pub make-requires-clause-room : goal.make-requires-clause-room
make-requires-clause-room g c =
    room_left c.args.marks.now (pass_view c.args.pass.now) (pass_view c.prepare-roomy.new.pass) c.prepare-roomy.ensures.learns c.requires.room

pub returns-else-roomy-clause-tried : goal.returns-else-roomy-clause-tried
returns-else-roomy-clause-tried g c =
    let plan = rw c.in-Event.is at c.plan.ensures in (
      no_memory g.N.Plan.script c.prepare-roomy.new.self c.args.stand.now c.args.job.now (pass_view c.args.pass.now) (pass_view c.prepare-roomy.new.pass)
          (pass_view c.compare.new.pass) c.there.ensures c.prepare-roomy.ensures.known c.prepare-roomy.ensures.learns c.compare.ensures.pass
          c.compare.ensures.longest c.in-Event.plan plan,
      record { event = refl; seen = refl },
    )

pub returns-in-Refused-clause-tried : goal.returns-in-Refused-clause-tried
returns-in-Refused-clause-tried g c =
    let refused = rw c.in-Refused.is at c.plan.ensures in (
      no_event g.N.Plan.script c.prepare-roomy.new.self c.args.stand.now c.args.job.now (pass_view c.args.pass.now) (pass_view c.prepare-roomy.new.pass)
          (pass_view c.compare-in-Refused.new.pass) c.there.ensures c.prepare-roomy.ensures.known c.prepare-roomy.ensures.learns
          c.compare-in-Refused.ensures.pass c.compare-in-Refused.ensures.longest c.in-Refused.refusal refused,
      record { event = refl; seen = refl },
    )
