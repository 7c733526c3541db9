use Rattle.std.proofs.Common.{◌≡◌, ◌++◌}
use Rattle.nt_event.specs.Lists.{table}
use Rattle.nt_event.specs.Numbers.{dpc}
use Rattle.nt_verify.specs.Sites.{dpc_site}
use Rattle.nt_verify.proofs.site.add_dpcs.Given as goal

abbrev pub invariant-loop-d : goal.invariant-loop-d
invariant-loop-d l = l.sites.items ≡ l.fn.sites.items ++ table l.d (λ d. dpc_site l.script (dpc d))
