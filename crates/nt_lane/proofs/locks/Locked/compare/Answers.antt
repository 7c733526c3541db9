use Rattle.std.proofs.Common.{subst}
use Rattle.nt_mark.specs.Names.{pass_view}
use Rattle.nt_lane.specs.Locks.{AreLongest, HeldLanes}
use Rattle.nt_lane.proofs.Learned.{all_longest}
use Rattle.nt_lane.proofs.locks.Locked.compare.Goals as goal

pub returns-clause-longest : goal.returns-clause-longest
returns-clause-longest g c =
    subst (λ (h : HeldLanes). AreLongest h (pass_view c.compare_one-5.new.pass)) c.self.view_is
    (all_longest _ (pass_view c.compare_one.new.pass) (pass_view c.compare_one-2.new.pass) (pass_view c.compare_one-3.new.pass)
    (pass_view c.compare_one-4.new.pass) (pass_view c.compare_one-5.new.pass) c.compare_one-2.ensures.pass c.compare_one-3.ensures.pass
    c.compare_one-4.ensures.pass c.compare_one-5.ensures.pass c.compare_one.ensures.longest c.compare_one-2.ensures.longest
    c.compare_one-3.ensures.longest c.compare_one-4.ensures.longest c.compare_one-5.ensures.longest)
