use Rattle.std.proofs.Common.{◌≡◌, ◌++◌, take}
use Rattle.std.specs.List.{filter_map}
use Rattle.nt_event.specs.Lists.{table}
use Rattle.nt_verify.specs.Findings.{finding_at}
use Rattle.nt_verify.specs.Sites.{commands_at, first_frame}
use Rattle.nt_verify.specs.Walks.{walked}
use Rattle.nt_verify.proofs.finding.add_findings.Given as goal

abbrev pub invariant-loop-command : goal.invariant-loop-command
invariant-loop-command l = record {
  commands : l.commands ≡ commands_at l.script l.site;
  walk : l.walk ≡ walked (first_frame l.script l.site) (take l.command-index l.commands);
  found : l.found.items ≡ l.fn.found.items ++ filter_map (finding_at l.script l.site) (table l.command-index (λ k. k));
}
