use Rattle.std.proofs.Common.{ap, subst, sym, ◌∙◌}
use Rattle.std.specs.Prelude.{◌≡◌}
use Rattle.nt_event.specs.Timers.{Timers, timers_after}
use Rattle.nt_states.specs.Timed.{MayTime, timed}
use Rattle.nt_states.proofs.TimersLeft.{sized_after, timers_left}
use Rattle.nt_timer.specs.Laws.{IsSized}
use Rattle.nt_lane_record.proofs.states.Clock.leave.Goals as goal

pub leave_timers-requires-clause-may : goal.leave_timers-requires-clause-may
leave_timers-requires-clause-may c = (
  c.args.script.now,
  subst (λ (t : Timers). MayTime c.args.script.now t c.args.event.now c.args.event.now.what) (sym c.self.view_is) c.requires.may,
)

pub returns-clause-timers : goal.returns-clause-timers
returns-clause-timers c =
    let s = c.args.script.now in
    let st = c.args.stand.now in
    let e = c.args.event.now in
    c.leave_timers.ensures.timers ∙ (ap (λ (t : Timers). timed c.args.n st e.thread e.what t) c.self.view_is
    ∙ sym (timers_left s st e c.args.n c.args.self.now c.requires.sized c.requires.may))

pub returns-clause-sized : goal.returns-clause-sized
returns-clause-sized c =
    let s = c.args.script.now in
    let st = c.args.stand.now in
    let e = c.args.event.now in
    let x : Timers = c.args.self.now in
    let left : c.leave_timers.new.timers ≡ timers_after s c.args.n st e x = c.leave_timers.ensures.timers
    ∙ (ap (λ (t : Timers). timed c.args.n st e.thread e.what t) c.self.view_is ∙ sym (timers_left s st e c.args.n x c.requires.sized c.requires.may)) in
    subst (λ (t : Timers). IsSized s t) (sym left) (sized_after s st e c.args.n x)
