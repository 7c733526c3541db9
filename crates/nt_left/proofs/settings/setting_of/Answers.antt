use Rattle.std.proofs.Common.{arith, ap, sym, ◌∙◌, ◌≤◌}
use Rattle.std.specs.Prelude.{List, Option, length, ℕ}
use Rattle.nt_event.specs.declared.events.Event.{Event}
use Rattle.nt_event.specs.declared.inserts.Setting.{Setting}
use Rattle.nt_event.specs.Frames.{time, time_after}
use Rattle.nt_event.specs.Timers.{timer_after, timer_setting}
use Rattle.nt_history.proofs.Lists.{as_many}
use Rattle.nt_left.specs.Walks.{lent, past_at}
use Rattle.nt_left.proofs.Pasts.{past_length, past_more}
use Rattle.nt_left.proofs.settings.setting_of.Goals as goal

pub loop-number-preserved : goal.loop-number-preserved
loop-number-preserved c =
    let events : List Event = lent c.args.events.now in
    let k : ℕ = c.loop-number.number in
    let many = as_many c.args.events.now.briefs.now c.args.events.now.rises.now in
    let low : k ≤ length events = omega (arith, c.loop-number-test.true, many) in
    let e : Event = c.event-event.result in
    let past : List Event = past_at k events in
    let more = past_more events k e c.event-event.ensures in
    let i = c.loop-number.invariant in
    record {
      time = c.time_after-now.ensures.time ∙ (ap (λ (n : ℕ). time_after e.what n) i.time ∙ ap (λ (es : List Event). time es) (sym more));
      bound = (let a = c.time_after-now.ensures.bound in let b = i.bound in omega (arith, a, b));
      setting =
          c.timer_after-setting.ensures
          ∙ (ap (λ (o : Option Setting). timer_after c.args.timer k c.loop-number.now e.what o) i.setting
          ∙ (ap (λ (n : ℕ). timer_after c.args.timer k n e.what (timer_setting c.args.timer past)) i.time
          ∙ (ap (λ (n : ℕ). timer_after c.args.timer n (time past) e.what (timer_setting c.args.timer past)) (sym (past_length events k low))
          ∙ ap (λ (es : List Event). timer_setting c.args.timer es) (sym more))));
    }
