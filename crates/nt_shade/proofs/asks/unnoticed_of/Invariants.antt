use Rattle.std.proofs.Common.{◌*◌, ◌+◌}
use Rattle.nt_shade.proofs.Rows.{AreRows}
use Rattle.nt_shade.proofs.asks.unnoticed_of.Given as goal

abbrev pub invariant-loop-class : goal.invariant-loop-class
invariant-loop-class l = AreRows l.processors.cpus l.floor (l.number * 16 + l.class) l.classes.items

abbrev pub invariant-loop-number : goal.invariant-loop-number
invariant-loop-number l = AreRows l.processors.cpus l.floor (l.number * 16) l.classes.items
