use Rattle.std.proofs.Common.{◌≡◌, ap, arith, length, ℕ, ◌++◌, ◌∙◌}
use Rattle.std.specs.List.{flat_map}
use Rattle.nt_event.specs.Lists.{table}
use Rattle.nt_event.specs.Numbers.{apc}
use Rattle.nt_verify.proofs.Lists.{pieces_begun, pieces_grown}
use Rattle.nt_verify.specs.Sites.{apc_sites}
use Rattle.nt_verify.proofs.site.add_apcs.Goals as goal

pub loop-a-init : goal.loop-a-init
loop-a-init c = pieces_begun (apc_sites c.args.script.now) apc c.args.sites.now.items

pub loop-a-preserved : goal.loop-a-preserved
loop-a-preserved c = pieces_grown (apc_sites c.args.script.now) c.loop-a.a apc c.args.sites.now.items _ _ c.in_ok-add_apc.ensures c.loop-a.invariant

pub returns : goal.returns
returns c =
    let n = c.apc_count-a-end.ensures in
    let t = c.loop-a-test.false in
    let u = c.loop-a.auto.a-end in
    let e : c.loop-a.a ≡ length c.args.script.now.apcs = omega (arith, n, t, u) in
    c.loop-a.invariant ∙ ap (λ (n : ℕ). c.args.sites.now.items ++ flat_map (apc_sites c.args.script.now) (table n apc)) e
