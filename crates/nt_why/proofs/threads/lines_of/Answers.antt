use Rattle.nt_why.specs.Courses.{IsTrueOf}
use Rattle.nt_why.specs.declared.things.Thing.TheVariants as thing
use Rattle.nt_why.proofs.ThreadLines.{true_with, true_with_two}
use Rattle.nt_why.proofs.threads.lines_of.Goals as goal

pub returns-clause-told : goal.returns-clause-told
returns-clause-told c =
    let P = IsTrueOf c.args.course.now (thing.Thread c.args.t) in
    let on = c.requires.on in
    let place = c.requires.place in
    record {
      first = tt;
      runs = true_with P _ _ _ c.state_line.result on place c.requires.since c.state_line.ensures;
      regions = true_with_two P _ _ c.robin_line.result on place c.robin_line.ensures;
      level = true_with P _ _ _ c.own_line.result on place c.requires.stood c.own_line.ensures;
      cut = true_with_two P _ _ c.cut_line.result on place c.cut_line.ensures;
      insert = true_with_two P _ _ c.must_line.result on place c.must_line.ensures;
      asked = true_with_two P _ _ c.refused_line.result place c.requires.refused c.refused_line.ensures.told;
    }
