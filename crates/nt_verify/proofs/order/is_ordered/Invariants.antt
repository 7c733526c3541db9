use Rattle.std.proofs.Common.{◌≡◌, take, true}
use Rattle.std.specs.List.{list_all}
use Rattle.nt_event.specs.Lists.{table}
use Rattle.nt_verify.specs.Findings.{rises_at}
use Rattle.nt_verify.specs.Sites.{commands_at, first_frame}
use Rattle.nt_verify.specs.Walks.{walked}
use Rattle.nt_verify.proofs.order.is_ordered.Given as goal

abbrev pub invariant-loop-command : goal.invariant-loop-command
invariant-loop-command l = record {
  commands : l.commands ≡ commands_at l.script l.site;
  walk : l.walk ≡ walked (first_frame l.script l.site) (take l.command-index l.commands);
  passed : list_all (rises_at l.script l.site) (table l.command-index (λ k. k)) ≡ true;
}
