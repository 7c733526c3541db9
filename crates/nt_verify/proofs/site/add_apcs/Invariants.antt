use Rattle.std.proofs.Common.{◌≡◌, ◌++◌}
use Rattle.std.specs.List.{flat_map}
use Rattle.nt_event.specs.Lists.{table}
use Rattle.nt_event.specs.Numbers.{apc}
use Rattle.nt_verify.specs.Sites.{apc_sites}
use Rattle.nt_verify.proofs.site.add_apcs.Given as goal

abbrev pub invariant-loop-a : goal.invariant-loop-a
invariant-loop-a l = l.sites.items ≡ l.fn.sites.items ++ flat_map (apc_sites l.script) (table l.a apc)
