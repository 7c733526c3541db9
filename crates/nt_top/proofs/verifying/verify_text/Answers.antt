use Rattle.std.proofs.Common.{◌∙◌, subst, sym}
use Rattle.std.specs.List.{All}
use Rattle.nt_top.specs.Verified.{IsNamed}
use Rattle.nt_top.proofs.Named.{findings_named}
use Rattle.nt_top.proofs.verifying.verify_text.Goals as goal

pub found_text-requires : goal.found_text-requires
found_text-requires c =
    subst (λ fs. All (λ f. IsNamed c.args.input.now.names f.site) fs) (sym (c.as_slice.ensures.value ∙ c.in_ok-findings.ensures))
    (findings_named c.args.input.now c.requires)
