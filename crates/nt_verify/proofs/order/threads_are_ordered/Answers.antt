use Rattle.std.proofs.Common.{◌≡◌, ap, arith, length, sym, ℕ, ◌∙◌}
use Rattle.std.specs.List.{list_all}
use Rattle.nt_event.specs.Lists.{table}
use Rattle.nt_event.specs.Numbers.{thread}
use Rattle.nt_verify.specs.declared.site.Site.TheVariants.{Base}
use Rattle.nt_verify.proofs.Lists.{none_passes, table_fails, table_passes}
use Rattle.nt_verify.specs.Findings.{is_ordered_at}
use Rattle.nt_verify.proofs.order.threads_are_ordered.Goals as goal

pub loop-t-init : goal.loop-t-init
loop-t-init c = none_passes (is_ordered_at c.args.script.now) (λ t. Base (thread t))

pub returns-then-not-is_ordered : goal.returns-then-not-is_ordered
returns-then-not-is_ordered c =
    let n = c.thread_count-t-end.ensures in
    let t = c.loop-t-test.true in
    sym (table_fails (is_ordered_at c.args.script.now) (length c.args.script.now.threads) c.loop-t.t (λ t. Base (thread t)) (omega (arith, n, t))
    ((sym c.is_ordered.ensures ∙ c.if-not-is_ordered.true)))

pub loop-t-preserved : goal.loop-t-preserved
loop-t-preserved c =
    table_passes (is_ordered_at c.args.script.now) c.loop-t.t (λ t. Base (thread t)) c.loop-t.invariant
    ((sym c.is_ordered.ensures ∙ c.if-not-is_ordered.false))

pub returns : goal.returns
returns c =
    let n = c.thread_count-t-end.ensures in
    let t = c.loop-t-test.false in
    let u = c.loop-t.auto.t-end in
    let e : length c.args.script.now.threads ≡ c.loop-t.t = omega (arith, n, t, u) in
    sym (ap (λ (n : ℕ). list_all (is_ordered_at c.args.script.now) (table n (λ t. Base (thread t)))) e ∙ c.loop-t.invariant)
