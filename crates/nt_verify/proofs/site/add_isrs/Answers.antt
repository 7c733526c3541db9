use Rattle.std.proofs.Common.{List, ap, map, sym, ◌++◌, ◌∙◌}
use Rattle.nt_event.specs.declared.scripts.Isr.{Isr}
use Rattle.nt_verify.proofs.Lists.{append_nil, mapped_grown, take_all}
use Rattle.nt_verify.specs.Sites.{isr_site}
use Rattle.nt_verify.proofs.site.add_isrs.Goals as goal

pub loop-isr-init : goal.loop-isr-init
loop-isr-init c = sym (append_nil c.args.sites.now.items)

pub loop-isr-preserved : goal.loop-isr-preserved
loop-isr-preserved c =
    mapped_grown isr_site _ c.loop-isr.isr-index c.isr-item.result c.args.sites.now.items _ _ c.in_ok-push.ensures.items c.loop-isr.invariant
    c.loop-isr-test.true
    c.isr-item.is

pub returns : goal.returns
returns c =
    c.loop-isr.invariant
    ∙ ap (λ (xs : List Isr). c.args.sites.now.items ++ map isr_site xs)
    (take_all c.loop-isr.isr-index c.as_slice-isrs.result.now c.loop-isr-test.false ∙ c.as_slice-isrs.ensures)
