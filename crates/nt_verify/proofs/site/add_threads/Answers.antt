use Rattle.std.proofs.Common.{◌≡◌, ap, arith, length, refl, ℕ, ◌++◌, ◌∙◌}
use Rattle.nt_event.specs.Lists.{table}
use Rattle.nt_event.specs.Numbers.{thread}
use Rattle.nt_verify.specs.declared.site.Site.TheVariants.{Base}
use Rattle.nt_verify.proofs.Lists.{behind_grown, behind_none}
use Rattle.nt_verify.proofs.site.add_threads.Goals as goal

pub loop-t-init : goal.loop-t-init
loop-t-init c = behind_none c.args.sites.now.items (λ t. Base (thread t))

pub loop-t-preserved : goal.loop-t-preserved
loop-t-preserved c = behind_grown c.loop-t.t (λ t. Base (thread t)) c.args.sites.now.items _ _ _ c.in_ok-push.ensures.items c.loop-t.invariant refl

pub returns : goal.returns
returns c =
    let n = c.thread_count-t-end.ensures in
    let t = c.loop-t-test.false in
    let u = c.loop-t.auto.t-end in
    let e : c.loop-t.t ≡ length c.args.script.now.threads = omega (arith, n, t, u) in
    c.loop-t.invariant ∙ ap (λ (n : ℕ). c.args.sites.now.items ++ table n (λ t. Base (thread t))) e
