use Rattle.std.proofs.Common.{subst, ◌≡◌}
use Rattle.nt_event.specs.Lists.{when}
use Rattle.nt_event.specs.Robin.{robin_of}
use Rattle.nt_event.specs.Script.{has_cpu}
use Rattle.nt_core.specs.States.{CoreState}
use Rattle.nt_core.proofs.Choosing.{none_of, taken_of}
use Rattle.nt_core.proofs.machine.Core.robin_of.Goals as goal

pub returns-clause-none : goal.returns-clause-none
returns-clause-none c =
    let e = subst (λ (x : CoreState). c.robin_of.result ≡ when (has_cpu x.script c.args.p) (robin_of x.script x.limit c.args.p x.past)) c.self.view_is
    (c.robin_of.ensures _ c.self.invariant.sound) in
    none_of _ _ c.args.p _ c.robin_of.result c.is_run.ensures.run e

pub returns-clause-taken : goal.returns-clause-taken
returns-clause-taken c =
    let e = subst (λ (x : CoreState). c.robin_of.result ≡ when (has_cpu x.script c.args.p) (robin_of x.script x.limit c.args.p x.past)) c.self.view_is
    (c.robin_of.ensures _ c.self.invariant.sound) in
    taken_of _ _ c.args.p _ c.robin_of.result c.is_run.ensures.run e
