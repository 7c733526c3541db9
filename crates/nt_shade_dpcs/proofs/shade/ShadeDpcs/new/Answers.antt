use Rattle.std.proofs.Common.{sym, ◌∙◌}
use Rattle.nt_shade_dpcs.proofs.Following.{objects_start, queues_start}
use Rattle.nt_shade_dpcs.proofs.TimersFollowing.{timers_start}
use Rattle.nt_shade_dpcs.proofs.shade.ShadeDpcs.new.Goals as goal

pub returns : goal.returns
returns c = record {
  objects = c.in_ok-objects.ensures ∙ sym (objects_start c.args.script.now);
  locks = c.in_ok-locks.ensures;
  timers = timers_start c.args.script.now c.new.result c.new.ensures.now c.new.ensures.keys;
  queues = c.in_ok-queues.ensures ∙ sym (queues_start c.args.script.now);
}
