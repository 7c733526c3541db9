use Rattle.nt_search.proofs.stations.Stations.deepen.Goals as goal

pub returns-then-self-depth : goal.returns-then-self-depth
returns-then-self-depth c x all are = c.shift.ensures x all (record { kept = are.kept; next = are.next })
