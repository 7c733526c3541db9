use Rattle.std.proofs.Common.{◌∙◌}
use Rattle.nt_why.proofs.Courses.{is_on}
use Rattle.nt_why.proofs.threads.tell.Goals as goal

pub put_lines-requires-clause-on : goal.put_lines-requires-clause-on
put_lines-requires-clause-on c =
    let n = c.follow-since.new.processors in
    let t = c.follow-since.ensures in
    is_on c.args.course.now c.args.p n c.follow-since.new.floor _ t.after (t.script ∙ c.requires.script) (t.limit ∙ c.requires.limit) c.requires.cpu
    (c.cpu_of-cpu.ensures _ t.after.every)
