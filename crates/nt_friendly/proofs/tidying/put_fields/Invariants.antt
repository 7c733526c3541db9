use Rattle.std.proofs.Common.{◌≡◌, ◌++◌, length}
use Rattle.nt_text.specs.Lines.{spaced}
use Rattle.nt_friendly.specs.Levels.{replaced}
use Rattle.nt_friendly.proofs.tidying.put_fields.Given as goal

-- what was put and what is left is all of it
abbrev pub invariant-loop-next : goal.invariant-loop-next
invariant-loop-next l = l.out.items ++ spaced (replaced l.next l.fields) ≡ l.fn.out.items ++ spaced (replaced l.fn.first l.fn.fields)

abbrev pub decreases-loop-next : goal.decreases-loop-next
decreases-loop-next l = length l.fields
