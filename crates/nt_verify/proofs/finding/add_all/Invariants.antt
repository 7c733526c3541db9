use Rattle.std.proofs.Common.{◌≡◌, ◌++◌, take}
use Rattle.std.specs.List.{flat_map}
use Rattle.nt_verify.specs.Findings.{findings_at}
use Rattle.nt_verify.proofs.finding.add_all.Given as goal

abbrev pub invariant-loop-site : goal.invariant-loop-site
invariant-loop-site l = l.found.items ≡ l.fn.found.items ++ flat_map (findings_at l.script) (take l.site-index l.sites)
