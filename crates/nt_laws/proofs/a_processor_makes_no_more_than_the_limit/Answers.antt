use Rattle.nt_laws.proofs.Counts.{made_limit, run_bounded, uncut_room}
use Rattle.nt_laws.proofs.a_processor_makes_no_more_than_the_limit.Goals as goal

pub returns-clause-each : goal.returns-clause-each
returns-clause-each c = made_limit

pub returns-clause-all : goal.returns-clause-all
returns-clause-all c = run_bounded

pub returns-clause-room : goal.returns-clause-room
returns-clause-room c = uncut_room
