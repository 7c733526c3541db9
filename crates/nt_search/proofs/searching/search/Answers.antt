use Rattle.nt_search.proofs.Verdict.{all_inside, fails_known, holds, known, shown, tells, whole}
use Rattle.nt_search.proofs.searching.search.Goals as goal

pub end_of-end-requires-clause-inside : goal.end_of-end-requires-clause-inside
end_of-end-requires-clause-inside c = all_inside _ _ c.expand_all-expanded.result c.expand_all-expanded.ensures.searched

pub returns-clause-shown : goal.returns-clause-shown
returns-clause-shown c =
    shown _ _ c.in_ok-watch.ensures c.expand_all-expanded.result c.end_of-end.result c.expand_all-expanded.ensures.searched
    c.expand_all-expanded.ensures.stopped c.end_of-end.ensures

pub returns-clause-fails : goal.returns-clause-fails
returns-clause-fails c = fails_known _ _ (known _ _ c.expand_all-expanded.result c.expand_all-expanded.ensures.searched c.expand_all-expanded.ensures.stopped)

pub returns-clause-holds : goal.returns-clause-holds
returns-clause-holds c q =
    holds _ (record {
      fit = c.requires.fit;
      named = c.requires.named;
      turns = c.requires.turns;
      all = c.requires.all;
      most = c.requires.most;
      watched = c.in_ok-watch.ensures;
    }) _ (whole _ _ c.expand_all-expanded.result c.end_of-end.result c.expand_all-expanded.ensures.searched c.end_of-end.ensures q)

pub returns-clause-ends : goal.returns-clause-ends
returns-clause-ends c = tells _ _ c.expand_all-expanded.result c.end_of-end.result c.expand_all-expanded.ensures.searched c.end_of-end.ensures
