use Rattle.std.proofs.Common.{◌∙◌, ap}
use Rattle.nt_work.specs.declared.passes.WorkPass.{WorkPass}
use Rattle.nt_work.specs.Queue.{pass_view}
use Rattle.nt_work.specs.Rule.{met_by}
use Rattle.nt_work.proofs.Workers.{met_one, rest_worked}
use Rattle.nt_work.proofs.auditing.met.Goals as goal

pub loop-worker-preserved : goal.loop-worker-preserved
loop-worker-preserved g c =
    let q = c.args.desk.now.queue.now in
    let counts = c.args.desk.now.counts.now in
    let items = c.args.desk.now.items.now in
    let before = c.loop-worker.invariant in
    record {
      met =
          met_one q counts items c.args.desk.now.workers c.loop-worker.team.items c.pop.new.self.items c.loop-worker.told c.tell.new.told c.loop-worker.pass
          c.meet.new.pass c.in-Some.worker before.met before.each c.in-Some.ensures.items c.in_ok-tell.ensures.worked c.in_ok-tell.ensures.told
          c.meet.ensures.queue (c.meet.ensures.met ∙ ap (λ (p : WorkPass). met_by (pass_view c.loop-worker.pass) (pass_view p)) c.into_pass.ensures);
      each =
          rest_worked q counts items c.args.desk.now.workers c.loop-worker.team.items c.pop.new.self.items c.in-Some.worker before.each c.in-Some.ensures.items;
    }
