use Rattle.nt_thread_lanes.specs.Insides.{lanes_in}
use Rattle.nt_thread_lanes.proofs.Whole.{mark_tells}
use Rattle.nt_thread_lanes.proofs.answering.ThreadsThreadAnswers.is_inserted.Goals as goal

pub returns : goal.returns
returns c =
    mark_tells
    (lanes_in c.self.inside) c.args.self.now c.self.inside.inserted.items c.args.a c.index.result.now c.self.view_is c.self.invariant.marked c.requires.object
    c.index.ensures
