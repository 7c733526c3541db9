use Rattle.std.proofs.Common.{◌≡◌, ◌++◌, drop}
use Rattle.std.specs.List.{flat_map}
use Rattle.nt_top.specs.Audited.{audit_line}
use Rattle.nt_top.proofs.auditing.put_audits.Given as goal

-- what was put and what is left is all of it
abbrev pub invariant-loop-audited : goal.invariant-loop-audited
invariant-loop-audited l = l.out.items ++ flat_map audit_line (drop l.audited-index l.audits) ≡ l.fn.out.items ++ flat_map audit_line l.audits
