use Rattle.std.proofs.Common.{length}
use Rattle.nt_rounds.proofs.Knowing.{targets_within}
use Rattle.nt_rounds.proofs.path.next.Goals as goal

pub depth_over-requires-clause-inside : goal.depth_over-requires-clause-inside
depth_over-requires-clause-inside c =
    targets_within c.args.graph.now.closed c.requires.inside c.args.state (length c.args.depths.now) c.after.result.now c.after.ensures
    c.requires.states
