use Rattle.nt_thread.specs.Replies.{reply_of}
use Rattle.nt_states.specs.ThreadFits.{Delays}
use Rattle.nt_thread_lanes.proofs.Over.{delay_left}
use Rattle.nt_thread_lanes.proofs.making.call.Goals as goal

pub returns-in-Delay : goal.returns-in-Delay
returns-in-Delay c s f =
    let d : Delays c.args.stand.now c.in-Delay.mode c.in-Delay.alertable c.args.reply.now c.args.state.now = rw c.in-Delay.is at c.requires in
    let answer = rw (c.is_over.ensures, c.regions-in-Delay.ensures, c.level-in-Delay.ensures) at c.wait-in-Delay.ensures.answer in
    let after = rw (c.regions-in-Delay.ensures, c.level-in-Delay.ensures) at c.wait-in-Delay.ensures.after in
    rw c.in-Delay.is
    (delay_left c.args.state.now c.wait-in-Delay.new.self c.args.n c.args.stand.now.regions c.args.stand.now.level c.in-Delay.mode c.in-Delay.alertable
    d.reached c.args.reply.now (reply_of c.wait-in-Delay.result) d.reply answer after)
