use Rattle.std.proofs.Common.{◌≡◌, ◌++◌, drop}
use Rattle.std.specs.List.{flat_map}
use Rattle.nt_top.specs.Verified.{finding_line}
use Rattle.nt_top.proofs.verifying.put_findings.Given as goal

-- what was put and what is left is all of it
abbrev pub invariant-loop-finding : goal.invariant-loop-finding
invariant-loop-finding l = l.out.items ++ flat_map (finding_line l.names) (drop l.finding-index l.findings) ≡ l.fn.out.items
    ++ flat_map (finding_line l.names) l.findings
