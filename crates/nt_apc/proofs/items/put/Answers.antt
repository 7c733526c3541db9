use Rattle.std.proofs.Common.{List, arith, length, subst, sym, ◌<◌}
use Rattle.nt_event.specs.declared.inserts.Pick.{Pick}
use Rattle.nt_apc.proofs.Inserts.{objects-push, objects-room}
use Rattle.nt_apc.specs.Objects.{AreObjects}
use Rattle.nt_apc.proofs.items.put.Goals as goal

pub unreachable-requires : goal.unreachable-requires
unreachable-requires c =
    let room : length c.args.items.now.items < 256 = objects-room c.args.pick.apc c.args.items.now.items c.requires.objects c.requires.fresh c.requires.below in
    omega (arith, c.in-Err.ensures.full, c.args.items.now.ok.0)

pub returns-clause-kept : goal.returns-clause-kept
returns-clause-kept c =
    subst (λ (xs : List Pick). AreObjects xs) (sym c.in-Ok.ensures.items) (objects-push _ _ c.requires.objects c.requires.fresh c.requires.below)
