use Rattle.nt_search.proofs.Listing.{if_ok}
use Rattle.nt_search.proofs.plan.Plan.leads_to.Goals as goal

pub comes_to-comes-requires-clause-after : goal.comes_to-comes-requires-clause-after
comes_to-comes-requires-clause-after c =
    let x = c.args.self.now in
    let past = c.requires.after.0 in
    let after = c.requires.after.1 in
    (past, record { stands = c.in_ok-next.ensures x.script.now x.limit x.watched.items past after.stands; short = after.short })

pub returns : goal.returns
returns c =
    let x = c.args.self.now in
    if_ok c.comes_to-comes.result
    (λ comes h yes all past are after.
    h yes all past are (record { stands = c.in_ok-next.ensures x.script.now x.limit x.watched.items past after.stands; short = after.short }))
    c.comes_to-comes.ensures
