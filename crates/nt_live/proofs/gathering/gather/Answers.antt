use Rattle.nt_live.proofs.gathering.gather.Goals as goal

pub returns-clause-gathered : goal.returns-clause-gathered
returns-clause-gathered g c = c.in_ok-history.ensures.gathered.0
