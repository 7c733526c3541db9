use Rattle.std.proofs.Common.{subst}
use Rattle.std.proofs.lemmas.List.{take_all}
use Rattle.nt_ranges.specs.Looks.{LooksAreWhole}
use Rattle.nt_top.proofs.Looks.{AreWhole, all_whole}
use Rattle.nt_top.proofs.threads.looks_are_whole.Goals as goal

pub returns-clause-looks : goal.returns-clause-looks
returns-clause-looks c =
    subst LooksAreWhole c.lend-events.ensures.events
    (all_whole c.lend-events.result.briefs.now c.lend-events.result.rises.now
    (subst AreWhole (take_all c.loop-rises.rises-index c.lend-events.result.rises.now c.loop-rises-test.false) c.loop-rises.invariant.looks))
