use Rattle.std.proofs.Common.{◌-◌, ◌≡◌, ◌≤◌}
use Rattle.nt_plain.specs.States.{view_of}
use Rattle.nt_shade.specs.Asks.{marked_from}
use Rattle.nt_shade.proofs.asks.values_above.Given as goal

abbrev pub invariant-loop-number : goal.invariant-loop-number
invariant-loop-number l =
    (l.values.items ≡ marked_from l.floor l.cpu l.class l.seen (l.number - l.seen))
    × (l.number - l.seen ≤ (view_of l.floor).value l.cpu l.class - l.seen)
