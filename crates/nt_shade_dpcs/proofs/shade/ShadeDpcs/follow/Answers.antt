use Rattle.std.proofs.Common.{arith, sym, ◌∙◌}
use Rattle.std.proofs.lemmas.Bool.{ltb-true}
use Rattle.nt_shade_dpcs.proofs.Following.{few_objects, few_queues, objects_follow, objects_size, queues_follow, queues_size}
use Rattle.nt_shade_dpcs.proofs.LocksFollowing.{few_locks, locks_follow, locks_have_flags, locks_size}
use Rattle.nt_shade_dpcs.proofs.TimersFollowing.{timers_follow}
use Rattle.nt_shade_dpcs.proofs.shade.ShadeDpcs.follow.Goals as goal

pub follow_queues-requires : goal.follow_queues-requires
follow_queues-requires c =
    let n = queues_size c.args.script.now c.requires.shade.0 c.args.self.now c.requires.shade.1 in
    let few = few_queues c.args.script.now c.requires.script in
    omega (arith, n, few)

pub follow_objects-requires : goal.follow_objects-requires
follow_objects-requires c =
    let n = objects_size c.args.script.now c.requires.shade.0 c.args.self.now c.requires.shade.1 in
    let few = few_objects c.args.script.now c.requires.script in
    omega (arith, n, few)

pub returns : goal.returns
returns c past is again = record {
  objects = rw (c.follow_objects.ensures, c.change_of-change.ensures, is.objects) (sym (objects_follow c.args.script.now c.args.event.now past));
  queues = rw (c.in_ok-follow_queues.ensures, c.as_slice.ensures.value, c.change_of-change.ensures, is.objects, is.queues)
      (sym (queues_follow c.args.script.now c.args.event.now past));
  locks = rw is.locks at (c.follow_locks.ensures c.args.script.now (rw is.locks (locks_have_flags c.args.script.now past)))
      ∙ sym (locks_follow c.args.script.now c.args.event.now past);
  timers = timers_follow c.args.script.now c.args.event.now past c.args.self.now.timers c.follow.new.self is.timers c.args.due again c.in_ok-follow.ensures.now
      c.in_ok-follow.ensures.keys;
}

pub follow_locks-requires-clause-count : goal.follow_locks-requires-clause-count
follow_locks-requires-clause-count c =
    let n = locks_size c.args.script.now c.requires.shade.0 c.args.self.now c.requires.shade.1 in
    let few = few_locks c.args.script.now c.requires.script in
    omega (arith, n, few)

pub follow_locks-requires-clause-flags : goal.follow_locks-requires-clause-flags
follow_locks-requires-clause-flags c = (
  c.args.script.now,
  ltb-true c.args.event.now.cpu.0 c.args.script.now.cpus c.requires.cpu,
  rw c.requires.shade.1.locks (locks_have_flags c.args.script.now c.requires.shade.0),
)
