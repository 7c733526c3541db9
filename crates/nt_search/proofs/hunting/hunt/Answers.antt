use Rattle.nt_search.proofs.Hunts.{hunted, known}
use Rattle.nt_search.proofs.Verdict.{fails_known}
use Rattle.nt_search.proofs.hunting.hunt.Goals as goal

pub returns-clause-hunted : goal.returns-clause-hunted
returns-clause-hunted c = hunted _ _ (known _ _ c.hunt_all-hunted.result c.hunt_all-hunted.ensures.more c.hunt_all-hunted.ensures.stopped)

pub returns-clause-fails : goal.returns-clause-fails
returns-clause-fails c = fails_known _ _ (known _ _ c.hunt_all-hunted.result c.hunt_all-hunted.ensures.more c.hunt_all-hunted.ensures.stopped)
