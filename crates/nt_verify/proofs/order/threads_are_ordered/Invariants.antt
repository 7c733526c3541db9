use Rattle.std.proofs.Common.{◌≡◌, true}
use Rattle.std.specs.List.{list_all}
use Rattle.nt_event.specs.Lists.{table}
use Rattle.nt_event.specs.Numbers.{thread}
use Rattle.nt_verify.specs.declared.site.Site.TheVariants.{Base}
use Rattle.nt_verify.specs.Findings.{is_ordered_at}
use Rattle.nt_verify.proofs.order.threads_are_ordered.Given as goal

abbrev pub invariant-loop-t : goal.invariant-loop-t
invariant-loop-t l = list_all (is_ordered_at l.script) (table l.t (λ t. Base (thread t))) ≡ true
