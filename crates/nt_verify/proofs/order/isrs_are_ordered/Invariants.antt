use Rattle.std.proofs.Common.{◌≡◌, map, take, true}
use Rattle.std.specs.List.{list_all}
use Rattle.nt_verify.specs.Findings.{is_ordered_at}
use Rattle.nt_verify.specs.Sites.{isr_site}
use Rattle.nt_verify.proofs.order.isrs_are_ordered.Given as goal

abbrev pub invariant-loop-isr : goal.invariant-loop-isr
invariant-loop-isr l = list_all (is_ordered_at l.script) (map isr_site (take l.isr-index l.isrs)) ≡ true
