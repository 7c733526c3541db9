use Rattle.std.proofs.Common.{◌≡◌, rules}
use Rattle.nt_dpc.specs.Queues.{without_entry}
use Rattle.nt_dpc.proofs.Fewer.{fewer_taken}
use Rattle.nt_dpc.proofs.Once.{holds-without_same}
use Rattle.nt_dpc.proofs.queues.DpcQueue.take.Goals as goal

pub returns-clause-fewer : goal.returns-clause-fewer
returns-clause-fewer c =
    let e : c.take_out.new.self ≡ without_entry c.args.d.now.dpc c.args.self.now = search rules in
    rw e (fewer_taken c.args.part c.args.self.now c.args.d.now.dpc c.requires)

pub returns-clause-stands : goal.returns-clause-stands
returns-clause-stands c =
    let e : c.take_out.new.self ≡ without_entry c.args.d.now.dpc c.args.self.now = search rules in
    rw (e, c.leave.ensures) (holds-without_same c.args.d.now.dpc c.args.self.now.state.pending)
