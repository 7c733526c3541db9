use Rattle.nt_search.proofs.expanding.Trial.stand_as.Goals as goal

pub returns-in_ok-renew : goal.returns-in_ok-renew
returns-in_ok-renew c x all n at is =
    record { state = at.state; stands = c.in_ok-renew.ensures x.script.now x.limit x.watched.items _ at.stands; short = at.short }
