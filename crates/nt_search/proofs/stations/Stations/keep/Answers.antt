use Rattle.nt_search.proofs.stations.Stations.keep.Goals as goal

pub returns-then-room-len : goal.returns-then-room-len
returns-then-room-len c x all are is = c.give_up.ensures x all (c.deepen.ensures x all are)

pub returns-else-room-len : goal.returns-else-room-len
returns-else-room-len c x all are is = c.add.ensures x all (c.deepen.ensures x all are) is
