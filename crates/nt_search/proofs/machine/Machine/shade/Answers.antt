use Rattle.std.proofs.Common.{subst}
use Rattle.nt_event.specs.declared.scripts.Script.{Script}
use Rattle.nt_shade.specs.Shade.{IsShadeOf}
use Rattle.nt_shade_asks.specs.Follows.{IsOf}
use Rattle.nt_search.proofs.Machines.{of_script, stand_after}
use Rattle.nt_search.proofs.machine.Machine.shade.Goals as goal

pub shade_of-requires : goal.shade_of-requires
shade_of-requires c =
    let m = c.args.self.now in
    let u = c.in_ok-unnoticed.unnoticed in
    let h = c.requires in
    let of = of_script h.0 h.1 h.2 h.3 m (λ z. IsOf z u) h.4 c.in_ok-unnoticed.ensures.of in
    (h.3, stand_after h.0 h.1 h.2 h.3 m u h.4 of (c.in_ok-unnoticed.ensures.asked h.0 h.1 h.2 h.3 h.4))

pub returns : goal.returns
returns c s limit watched past h =
    let m = c.args.self.now in
    let u = c.in_ok-unnoticed.unnoticed in
    let of = of_script s limit watched past m (λ z. IsOf z u) h c.in_ok-unnoticed.ensures.of in
    let stand = stand_after s limit watched past m u h of (c.in_ok-unnoticed.ensures.asked s limit watched past h) in
    subst (λ (z : Script). IsShadeOf z past c.in_ok-shade.shade) h.of (c.in_ok-shade.ensures past stand)
