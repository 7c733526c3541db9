use Rattle.std.proofs.Common.{List, ap, map, sym, ◌∙◌}
use Rattle.std.specs.List.{list_all}
use Rattle.nt_event.proofs.Elements.{contains_mapped}
use Rattle.nt_event.specs.declared.scripts.Isr.{Isr}
use Rattle.nt_verify.proofs.Lists.{all_more, fails_in, mapped_more, take_all, there}
use Rattle.nt_verify.specs.declared.site.Site.{Site}
use Rattle.nt_verify.specs.Findings.{is_ordered_at}
use Rattle.nt_verify.specs.Sites.{isr_site}
use Rattle.nt_verify.proofs.order.isrs_are_ordered.Goals as goal

pub returns-then-not-is_ordered : goal.returns-then-not-is_ordered
returns-then-not-is_ordered c =
    sym (fails_in (is_ordered_at c.args.script.now) (map isr_site c.args.isrs.now) (isr_site c.isr-item.result)
    (contains_mapped isr_site c.args.isrs.now c.isr-item.result
    (there c.args.isrs.now c.loop-isr.isr-index c.isr-item.result c.loop-isr-test.true c.isr-item.is))
    (sym c.is_ordered.ensures ∙ c.if-not-is_ordered.true))

pub loop-isr-preserved : goal.loop-isr-preserved
loop-isr-preserved c =
    ap (λ (xs : List Site). list_all (is_ordered_at c.args.script.now) xs) (mapped_more isr_site c.args.isrs.now c.loop-isr.isr-index c.isr-item.result
    c.loop-isr-test.true c.isr-item.is)
    ∙ all_more (is_ordered_at c.args.script.now) _ (isr_site c.isr-item.result) c.loop-isr.invariant (sym c.is_ordered.ensures ∙ c.if-not-is_ordered.false)

pub returns : goal.returns
returns c =
    sym (ap (λ (xs : List Isr). list_all (is_ordered_at c.args.script.now) (map isr_site xs)) (sym (take_all c.loop-isr.isr-index c.args.isrs.now
    c.loop-isr-test.false)) ∙ c.loop-isr.invariant)
