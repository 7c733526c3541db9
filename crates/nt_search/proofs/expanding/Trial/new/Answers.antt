use Rattle.nt_search.proofs.expanding.Trial.new.Goals as goal

pub returns : goal.returns
returns c x all n at q =
    record { state = at.state; stands = c.in_ok-copy.ensures x.script.now x.limit x.watched.items _ at.stands; short = at.short }
