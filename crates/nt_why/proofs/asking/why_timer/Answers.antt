use Rattle.nt_why.specs.declared.things.Thing.TheVariants as thing
use Rattle.nt_why.proofs.Courses.{told_of, whole_of}
use Rattle.nt_why.proofs.asking.why_timer.Goals as goal

pub returns-clause-told : goal.returns-clause-told
returns-clause-told c =
    let k = c.course_of-course.ensures in
    told_of c.course_of-course.result _ _ _ _ (thing.Timer c.args.t) _ k.script k.turns k.events k.end c.in_ok-explain_timer.ensures.told

pub returns-clause-whole : goal.returns-clause-whole
returns-clause-whole c =
    let k = c.course_of-course.ensures in
    whole_of c.course_of-course.result _ _ _ _ (thing.Timer c.args.t) _ k.script k.turns k.events k.end c.in_ok-explain_timer.ensures.whole
