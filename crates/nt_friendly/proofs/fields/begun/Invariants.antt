use Rattle.std.proofs.Common.{◌≡◌, length}
use Rattle.nt_friendly.specs.Fields.{begun}
use Rattle.nt_friendly.proofs.fields.begun.Given as goal

-- what is left begins as the whole does
abbrev pub invariant-loop-more : goal.invariant-loop-more
invariant-loop-more l = begun 0 l.fn.bytes ≡ begun 0 l.rest

abbrev pub decreases-loop-more : goal.decreases-loop-more
decreases-loop-more l = length l.rest
