use Rattle.std.proofs.Common.{◌≡◌, true}
use Rattle.std.specs.List.{list_all}
use Rattle.nt_event.specs.Lists.{table}
use Rattle.nt_event.specs.Numbers.{dpc}
use Rattle.nt_verify.specs.Findings.{is_ordered_at}
use Rattle.nt_verify.specs.Sites.{dpc_site}
use Rattle.nt_verify.proofs.order.dpcs_are_ordered.Given as goal

abbrev pub invariant-loop-d : goal.invariant-loop-d
invariant-loop-d l = list_all (is_ordered_at l.script) (table l.d (λ d. dpc_site l.script (dpc d))) ≡ true
