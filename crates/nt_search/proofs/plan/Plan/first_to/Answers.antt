use Rattle.nt_search.proofs.plan.Plan.first_to.Goals as goal

pub returns-then-branch : goal.returns-then-branch
returns-then-branch c all past are after = c.in_ok-leads_to.ensures c.if-branch.true all past are after
