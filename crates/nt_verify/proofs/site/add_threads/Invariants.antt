use Rattle.std.proofs.Common.{◌≡◌, ◌++◌}
use Rattle.nt_event.specs.Lists.{table}
use Rattle.nt_event.specs.Numbers.{thread}
use Rattle.nt_verify.specs.declared.site.Site.TheVariants.{Base}
use Rattle.nt_verify.proofs.site.add_threads.Given as goal

abbrev pub invariant-loop-t : goal.invariant-loop-t
invariant-loop-t l = l.sites.items ≡ l.fn.sites.items ++ table l.t (λ t. Base (thread t))
