use Rattle.std.proofs.Common.{refl, ◌∙◌}
use Rattle.nt_mark.specs.Names.{pass_view}
use Rattle.nt_lane.proofs.Retries.{act_made_after, learns_same, learns_through, not_done_after, room_left}
use Rattle.nt_lane.proofs.acting.act_under.Goals as goal

pub loop-init : goal.loop-init
loop-init g c = (c.requires.table.1, (learns_same _, record { event = refl; seen = refl }))

pub try_under-requires-clause-table : goal.try_under-requires-clause-table
try_under-requires-clause-table g c = (c.requires.table.0, c.loop.invariant.0)

pub try_under-requires-clause-room : goal.try_under-requires-clause-room
try_under-requires-clause-room g c =
    room_left c.args.marks.now (pass_view c.args.pass.now) (pass_view c.loop.pass) c.loop.invariant.1.0 c.requires.room

pub returns-in-Done-clause-done : goal.returns-in-Done-clause-done
returns-in-Done-clause-done g c =
    act_made_after g.N.Plan.script c.args.stand.now c.args.job.now (pass_view c.args.pass.now) (pass_view c.loop.pass) (pass_view c.try_under.new.pass)
    c.args.seen.now c.loop.seen c.try_under.new.seen c.try_under.new.event c.in-Done.made c.loop.invariant.1.0 c.loop.invariant.1.1.seen
    c.in-Done.ensures.tried

pub returns-in-Refused-clause-refused : goal.returns-in-Refused-clause-refused
returns-in-Refused-clause-refused g c =
    not_done_after g.N.Plan.script c.args.stand.now c.args.job.now (pass_view c.args.pass.now) (pass_view c.loop.pass) (pass_view c.try_under.new.pass)
    c.in-Refused.refusal c.loop.invariant.1.0 c.in-Refused.ensures.tried.0

pub returns-in-Refused-clause-unwritten : goal.returns-in-Refused-clause-unwritten
returns-in-Refused-clause-unwritten g c = c.in-Refused.ensures.tried.1.event ∙ c.loop.invariant.1.1.event

pub returns-in-Refused-clause-unseen : goal.returns-in-Refused-clause-unseen
returns-in-Refused-clause-unseen g c = c.in-Refused.ensures.tried.1.seen ∙ c.loop.invariant.1.1.seen

pub loop-preserved : goal.loop-preserved
loop-preserved g c = (
  c.in-Again.ensures.table,
  (
    learns_through (pass_view c.args.pass.now) (pass_view c.loop.pass) (pass_view c.try_under.new.pass) c.loop.invariant.1.0
        c.in-Again.ensures.tried.0,
    record {
      event = c.in-Again.ensures.tried.1.event ∙ c.loop.invariant.1.1.event;
      seen = c.in-Again.ensures.tried.1.seen ∙ c.loop.invariant.1.1.seen;
    },
  ),
)
