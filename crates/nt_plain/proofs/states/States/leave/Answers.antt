-- What the parts leave is what the event leaves.
use Rattle.std.proofs.Common.{refl}
use Rattle.nt_plain.proofs.AllLeft.{all_left, kept_after, may_leave_dpcs, may_leave_threads, may_leave_timers, may_move_locks}
use Rattle.nt_plain.proofs.states.States.leave.Goals as goal

pub leave-requires-clause-event : goal.leave-requires-clause-event
leave-requires-clause-event c =
    rw c.cpu.ensures
    (may_leave_dpcs c.self.inside c.args.self.now c.args.stand.now c.args.event.now.what c.self.invariant c.self.view_is c.requires.given)

pub leave-requires-2 : goal.leave-requires-2
leave-requires-2 c =
    may_leave_threads c.self.inside c.args.self.now c.args.stand.now c.args.event.now c.self.invariant c.self.view_is c.requires.given c.requires.event

pub leave_timers-requires-clause-may : goal.leave_timers-requires-clause-may
leave_timers-requires-clause-may c = (
  c.self.inside.script.now,
  may_leave_timers c.self.inside c.args.self.now c.args.stand.now c.args.event.now c.self.invariant c.self.view_is c.requires.given c.requires.event,
)

pub invariant_of-self : goal.invariant_of-self
invariant_of-self c =
    let dpcs = rw c.cpu.ensures at c.leave.ensures in
    let may = may_move_locks c.self.inside c.args.self.now c.args.stand.now c.args.event.now.what c.self.invariant c.self.view_is c.requires.given in
    let locks = (rw c.cpu-2.ensures at c.leave-3.ensures) c.self.inside.script.now may in
    kept_after c.self.inside (record {
      script = c.self.inside.script;
      dpcs = c.leave.new.self;
      threads = c.leave-2.new.self;
      timers = c.leave_timers.new.timers;
      locks = c.leave-3.new.self;
    }) c.args.self.now c.args.n c.args.stand.now c.args.event.now c.self.invariant c.self.view_is c.requires.given
    c.requires.event (record { script = refl; dpcs = dpcs; threads = c.leave-2.ensures; timers = c.leave_timers.ensures.timers; locks = locks })

pub returns-clause-lanes : goal.returns-clause-lanes
returns-clause-lanes c =
    let dpcs = rw c.cpu.ensures at c.leave.ensures in
    let may = may_move_locks c.self.inside c.args.self.now c.args.stand.now c.args.event.now.what c.self.invariant c.self.view_is c.requires.given in
    let locks = (rw c.cpu-2.ensures at c.leave-3.ensures) c.self.inside.script.now may in
    all_left c.self.inside (record {
      script = c.self.inside.script;
      dpcs = c.leave.new.self;
      threads = c.leave-2.new.self;
      timers = c.leave_timers.new.timers;
      locks = c.leave-3.new.self;
    }) c.args.self.now c.args.n c.args.stand.now c.args.event.now c.self.invariant c.self.view_is c.requires.given
    c.requires.event (record { script = refl; dpcs = dpcs; threads = c.leave-2.ensures; timers = c.leave_timers.ensures.timers; locks = locks })

pub leave-requires-3 : goal.leave-requires-3
leave-requires-3 c = record {
  may = (
    c.self.inside.script.now,
    rw c.cpu-2.ensures
        (may_move_locks c.self.inside c.args.self.now c.args.stand.now c.args.event.now.what c.self.invariant c.self.view_is c.requires.given),
  );
}
