use Rattle.std.proofs.Common.{◌≡◌, ap, arith, length, sym, ℕ, ◌∙◌}
use Rattle.std.specs.List.{list_all}
use Rattle.nt_event.specs.Lists.{table}
use Rattle.nt_event.specs.Numbers.{dpc}
use Rattle.nt_verify.specs.Sites.{dpc_site}
use Rattle.nt_verify.proofs.Lists.{none_passes, table_fails, table_passes}
use Rattle.nt_verify.specs.Findings.{is_ordered_at}
use Rattle.nt_verify.proofs.order.dpcs_are_ordered.Goals as goal

pub loop-d-init : goal.loop-d-init
loop-d-init c = none_passes (is_ordered_at c.args.script.now) (λ d. dpc_site c.args.script.now (dpc d))

pub returns-then-not-is_ordered : goal.returns-then-not-is_ordered
returns-then-not-is_ordered c =
    let n = c.dpc_count-d-end.ensures in
    let t = c.loop-d-test.true in
    sym (table_fails (is_ordered_at c.args.script.now) (length c.args.script.now.dpcs) c.loop-d.d (λ d. dpc_site c.args.script.now (dpc d))
    (omega (arith, n, t))
    (ap (is_ordered_at c.args.script.now) (sym c.dpc_site.ensures) ∙ (sym c.is_ordered.ensures ∙ c.if-not-is_ordered.true)))

pub loop-d-preserved : goal.loop-d-preserved
loop-d-preserved c =
    table_passes (is_ordered_at c.args.script.now) c.loop-d.d (λ d. dpc_site c.args.script.now (dpc d)) c.loop-d.invariant
    (ap (is_ordered_at c.args.script.now) (sym c.dpc_site.ensures) ∙ (sym c.is_ordered.ensures ∙ c.if-not-is_ordered.false))

pub returns : goal.returns
returns c =
    let n = c.dpc_count-d-end.ensures in
    let t = c.loop-d-test.false in
    let u = c.loop-d.auto.d-end in
    let e : length c.args.script.now.dpcs ≡ c.loop-d.d = omega (arith, n, t, u) in
    sym (ap (λ (n : ℕ). list_all (is_ordered_at c.args.script.now) (table n (λ d. dpc_site c.args.script.now (dpc d)))) e ∙ c.loop-d.invariant)
