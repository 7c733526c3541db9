use Rattle.std.proofs.Common.{arith}
use Rattle.std.proofs.lemmas.List.{length-reverse}
use Rattle.nt_laws.proofs.Counts.{run_bounded}
use Rattle.nt_top.proofs.threads.audit_run.Goals as goal

pub audit_text-requires-clause-events : goal.audit_text-requires-clause-events
audit_text-requires-clause-events g c =
    let few = c.few_events.ensures in
    let bound = run_bounded c.args.input.now.script c.args.turns _ c.in_ok-history.ensures.run in
    let same = length-reverse c.in_ok-history.history.events in
    omega (arith, few, bound, same)
