use Rattle.std.proofs.Common.{sym, ◌∙◌}
use Rattle.nt_thread.specs.Replies.{reply_of}
use Rattle.nt_thread_lanes.proofs.Over.{rewait_left}
use Rattle.nt_thread_lanes.proofs.making.rewait.Goals as goal

pub returns-in-Some : goal.returns-in-Some
returns-in-Some c s f =
    let answer = rw (c.reached.ensures, c.is_some.ensures, c.regions.ensures, c.level.ensures) at c.wait.ensures.answer in
    let after = rw (c.reached.ensures, c.is_some.ensures, c.regions.ensures, c.level.ensures) at c.wait.ensures.after in
    rewait_left c.args.stand.now c.args.state.now c.wait.new.self c.args.n c.in-Some.wait c.args.reply.now
    (reply_of c.wait.result) (sym c.again.ensures ∙ c.in-Some.is) c.requires answer after
