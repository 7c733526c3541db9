use Rattle.std.proofs.Common.{◌≡◌, ◌++◌}
use Rattle.nt_event.specs.Lists.{table}
use Rattle.nt_load.specs.Load.{apc_decl, normal_of}
use Rattle.nt_load.proofs.declarations.add_apcs.Given as goal

abbrev pub invariant-loop-i : goal.invariant-loop-i
invariant-loop-i l = (l.normal ≡ normal_of l.kind) × l.apcs ≡ l.fn.apcs ++ table l.i (apc_decl l.kind)
