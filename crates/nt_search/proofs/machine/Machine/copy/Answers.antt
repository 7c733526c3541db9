use Rattle.std.proofs.Common.{refl, rules, ◌≡◌}
use Rattle.nt_shade.proofs.Cloned.{dpcs_cloned}
use Rattle.nt_search.proofs.Machines.{stands_same}
use Rattle.nt_search.proofs.machine.Machine.copy.Goals as goal

pub returns : goal.returns
returns c s limit watched past h =
    let came : c.in_ok-to_vec.field-0.items ≡ c.args.self.now.came.items = search rules in
    stands_same s limit watched past c.args.self.now _ h refl c.in_ok-copy.ensures c.in_ok-copy-2.ensures
    (dpcs_cloned s past c.args.self.now.dpcs c.in_ok-clone.field-0 c.in_ok-clone.ensures.cases h.dpcs) came refl
