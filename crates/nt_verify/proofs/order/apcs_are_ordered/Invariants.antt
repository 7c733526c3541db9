use Rattle.std.proofs.Common.{◌≡◌, true}
use Rattle.std.specs.List.{flat_map, list_all}
use Rattle.nt_event.specs.Lists.{table}
use Rattle.nt_event.specs.Numbers.{apc}
use Rattle.nt_verify.specs.Findings.{is_ordered_at}
use Rattle.nt_verify.specs.Sites.{apc_sites}
use Rattle.nt_verify.proofs.order.apcs_are_ordered.Given as goal

abbrev pub invariant-loop-a : goal.invariant-loop-a
invariant-loop-a l = list_all (is_ordered_at l.script) (flat_map (apc_sites l.script) (table l.a apc)) ≡ true
