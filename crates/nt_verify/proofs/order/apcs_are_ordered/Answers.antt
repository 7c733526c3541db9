use Rattle.std.proofs.Common.{◌≡◌, List, ap, arith, length, sym, ℕ, ◌∙◌}
use Rattle.std.specs.List.{flat_map, list_all}
use Rattle.nt_event.specs.Lists.{table}
use Rattle.nt_event.specs.Numbers.{apc}
use Rattle.nt_verify.proofs.Lists.{flat_fails, flat_passes, pieces_none, table_contains}
use Rattle.nt_verify.specs.declared.site.Site.{Site}
use Rattle.nt_verify.specs.Findings.{is_ordered_at}
use Rattle.nt_verify.specs.Sites.{apc_sites}
use Rattle.nt_verify.proofs.order.apcs_are_ordered.Goals as goal

pub loop-a-init : goal.loop-a-init
loop-a-init c = ap (λ (xs : List Site). list_all (is_ordered_at c.args.script.now) xs) (pieces_none (apc_sites c.args.script.now) apc)

pub returns-then-not-apc_is_ordered : goal.returns-then-not-apc_is_ordered
returns-then-not-apc_is_ordered c =
    let n = c.apc_count-a-end.ensures in
    let t = c.loop-a-test.true in
    sym (flat_fails (is_ordered_at c.args.script.now) (apc_sites c.args.script.now) (table (length c.args.script.now.apcs) apc) (apc c.loop-a.a)
    (table_contains (length c.args.script.now.apcs) c.loop-a.a apc (omega (arith, n, t)))
    (sym c.apc_is_ordered.ensures ∙ c.if-not-apc_is_ordered.true))

pub loop-a-preserved : goal.loop-a-preserved
loop-a-preserved c =
    flat_passes (is_ordered_at c.args.script.now) (apc_sites c.args.script.now) c.loop-a.a apc c.loop-a.invariant
    (sym c.apc_is_ordered.ensures ∙ c.if-not-apc_is_ordered.false)

pub returns : goal.returns
returns c =
    let n = c.apc_count-a-end.ensures in
    let t = c.loop-a-test.false in
    let u = c.loop-a.auto.a-end in
    let e : length c.args.script.now.apcs ≡ c.loop-a.a = omega (arith, n, t, u) in
    sym (ap (λ (n : ℕ). list_all (is_ordered_at c.args.script.now) (flat_map (apc_sites c.args.script.now) (table n apc))) e ∙ c.loop-a.invariant)
