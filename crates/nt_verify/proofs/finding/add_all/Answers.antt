use Rattle.std.proofs.Common.{List, ap, sym, ◌++◌, ◌∙◌}
use Rattle.std.specs.List.{flat_map}
use Rattle.nt_verify.proofs.Lists.{append_nil, flat_grown, take_all}
use Rattle.nt_verify.specs.declared.site.Site.{Site}
use Rattle.nt_verify.specs.Findings.{findings_at}
use Rattle.nt_verify.proofs.finding.add_all.Goals as goal

pub loop-site-init : goal.loop-site-init
loop-site-init c = sym (append_nil c.args.found.now.items)

pub loop-site-preserved : goal.loop-site-preserved
loop-site-preserved c =
    flat_grown (findings_at c.args.script.now) c.args.sites.now c.loop-site.site-index c.site-item.result c.args.found.now.items _ _
    c.in_ok-add_findings.ensures c.loop-site.invariant c.loop-site-test.true c.site-item.is

pub returns : goal.returns
returns c =
    c.loop-site.invariant
    ∙ ap (λ (xs : List Site). c.args.found.now.items ++ flat_map (findings_at c.args.script.now) xs)
    (take_all c.loop-site.site-index c.args.sites.now c.loop-site-test.false)
