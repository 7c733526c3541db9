use Rattle.std.proofs.Common.{ap, arith, length, reverse, sym, ◌∙◌, ◌≡◌}
use Rattle.std.proofs.lemmas.List.{length-reverse, length-take-le, take-map}
use Rattle.std.specs.Prelude.{List, take}
use Rattle.nt_event.specs.declared.events.Event.{Event}
use Rattle.nt_event.specs.Timers.{timer_setting}
use Rattle.nt_history.specs.Briefs.{event_in, events_in}
use Rattle.nt_history.proofs.Lists.{as_many}
use Rattle.nt_laws.proofs.Counts.{run_bounded}
use Rattle.nt_why.specs.Courses.{events_on}
use Rattle.nt_why.proofs.times.setting_then.Goals as goal

pub setting_of-requires : goal.setting_of-requires
setting_of-requires c =
    let q = c.args.course.now in
    let briefs = q.events.briefs.now in
    let rises = q.events.rises.now in
    let many = as_many briefs rises in
    let few : length (events_in (take q.end briefs) rises) ≡ q.end = as_many (take q.end briefs) rises ∙ length-take-le q.end briefs c.requires.end in
    let back = length-reverse (events_on q) in
    let bound = run_bounded q.script.now q.turns (reverse (events_on q)) c.requires.run in
    omega (arith, many, few, back, bound, c.requires.all, c.requires.end)

pub returns : goal.returns
returns c =
    let q = c.args.course.now in
    let t = c.args.t in
    c.setting_of.ensures
    ∙ ap (λ (es : List Event). timer_setting t (reverse es)) (sym (take-map (event_in q.events.rises.now) q.end q.events.briefs.now))
