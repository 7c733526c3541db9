use Rattle.std.proofs.Common.{◌≡◌, ap, arith, length, ℕ, ◌++◌, ◌∙◌}
use Rattle.nt_event.specs.Lists.{table}
use Rattle.nt_event.specs.Numbers.{dpc}
use Rattle.nt_verify.specs.Sites.{dpc_site}
use Rattle.nt_verify.proofs.Lists.{behind_grown, behind_none}
use Rattle.nt_verify.proofs.site.add_dpcs.Goals as goal

pub loop-d-init : goal.loop-d-init
loop-d-init c = behind_none c.args.sites.now.items (λ d. dpc_site c.args.script.now (dpc d))

pub loop-d-preserved : goal.loop-d-preserved
loop-d-preserved c =
    behind_grown c.loop-d.d (λ d. dpc_site c.args.script.now (dpc d)) c.args.sites.now.items _ _ _ c.in_ok-push.ensures.items c.loop-d.invariant
    c.dpc_site.ensures

pub returns : goal.returns
returns c =
    let n = c.dpc_count-d-end.ensures in
    let t = c.loop-d-test.false in
    let u = c.loop-d.auto.d-end in
    let e : c.loop-d.d ≡ length c.args.script.now.dpcs = omega (arith, n, t, u) in
    c.loop-d.invariant ∙ ap (λ (n : ℕ). c.args.sites.now.items ++ table n (λ d. dpc_site c.args.script.now (dpc d))) e
