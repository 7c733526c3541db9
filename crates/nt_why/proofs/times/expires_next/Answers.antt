use Rattle.std.proofs.Common.{◌∙◌}
use Rattle.nt_event.specs.declared.events.Turn.TheVariants.{Next}
use Rattle.nt_event.specs.Step.{step}
use Rattle.nt_why.specs.Courses.{past_on}
use Rattle.nt_why.proofs.TimerLines.{expiry_same}
use Rattle.nt_why.proofs.times.expires_next.Goals as goal

pub returns-in-Ok : goal.returns-in-Ok
returns-in-Ok c =
    let q = c.args.course.now in
    c.gives_expiry.ensures
    ∙ expiry_same c.args.t (step q.script.now q.turns (Next c.args.p) (past_on q)) c.in-Ok.place.next c.in-Ok.ensures.comes
