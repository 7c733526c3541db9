use Rattle.std.proofs.Common.{subst}
use Rattle.std.specs.Prelude.{IsTrue}
use Rattle.nt_expect.specs.declared.expectations.Expectation.{Expectation}
use Rattle.nt_expect.specs.Expectations.{expectation_fits}
use Rattle.nt_shows.proofs.Left.{dpc_tells, spins_tell}
use Rattle.nt_shows.proofs.ends.shows_at_end.Goals as goal

pub returns-in-NeverWaitsDpc : goal.returns-in-NeverWaitsDpc
returns-in-NeverWaitsDpc c =
    let s = c.args.script.now in
    let named = subst (λ (x : Expectation). IsTrue (expectation_fits s x)) c.in-NeverWaitsDpc.is c.requires.named in
    rw c.in-NeverWaitsDpc.is
    (λ past came lanes. dpc_tells s c.args.floor.now.lanes past lanes c.in-NeverWaitsDpc.dpc c.dpc_waits.result named c.dpc_waits.ensures)

pub returns-in-NeverSpins : goal.returns-in-NeverSpins
returns-in-NeverSpins c =
    let s = c.args.script.now in
    let named = subst (λ (x : Expectation). IsTrue (expectation_fits s x)) c.in-NeverSpins.is c.requires.named in
    rw c.in-NeverSpins.is
    (λ past came lanes. spins_tell s c.args.floor.now.lanes past lanes c.in-NeverSpins.lock c.is_spun_on.result named c.is_spun_on.ensures)
