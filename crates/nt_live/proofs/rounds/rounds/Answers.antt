use Rattle.nt_live.proofs.GoingOn.{go_same, go_through}
use Rattle.nt_live.proofs.rounds.rounds.Goals as goal

pub loop-init : goal.loop-init
loop-init g c = go_same c.args.workers.now

pub returns-then-some_starved : goal.returns-then-some_starved
returns-then-some_starved g c = go_through c.args.workers.now c.loop.workers c.round.new.workers c.loop.invariant c.round.ensures

pub returns-then-not-some_moved : goal.returns-then-not-some_moved
returns-then-not-some_moved g c = go_through c.args.workers.now c.loop.workers c.round.new.workers c.loop.invariant c.round.ensures

pub loop-preserved : goal.loop-preserved
loop-preserved g c = go_through c.args.workers.now c.loop.workers c.round.new.workers c.loop.invariant c.round.ensures
