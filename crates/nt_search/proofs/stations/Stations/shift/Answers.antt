use Rattle.std.proofs.Common.{ap, ◌∙◌}
use Rattle.std.specs.Global.{Vec}
use Rattle.nt_search.specs.declared.stations.Station.{Station}
use Rattle.nt_search.proofs.Beginning.{shifted}
use Rattle.nt_search.proofs.stations.Stations.shift.Goals as goal

pub returns-else-self : goal.returns-else-self
returns-else-self c x all are =
    shifted x all c.args.self.now _ (ap (λ (v : Vec Station). v.items) c.replace.ensures.value)
    (ap (λ (v : Vec Station). v.items) c.replace.ensures.after ∙ c.new.ensures.items) are
