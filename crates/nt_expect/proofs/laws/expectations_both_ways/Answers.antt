use Rattle.nt_expect.proofs.Walks.{walk_again, walk_takes}
use Rattle.nt_expect.proofs.laws.expectations_both_ways.Goals as goal

pub returns-clause-read : goal.returns-clause-read
returns-clause-read c = walk_takes

pub returns-clause-printed : goal.returns-clause-printed
returns-clause-printed c = walk_again
