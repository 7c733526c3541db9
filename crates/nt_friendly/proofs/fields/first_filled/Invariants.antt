use Rattle.std.proofs.Common.{◌≡◌, [], length}
use Rattle.std.specs.Prelude.{filter}
use Rattle.std.specs.Option.{option_map_or}
use Rattle.nt_friendly.specs.Fields.{blank_parts, is_filled}
use Rattle.nt_friendly.proofs.fields.first_filled.Given as goal

-- the parts that are passed are empty
abbrev pub invariant-loop-left : goal.invariant-loop-left
invariant-loop-left l = filter is_filled (option_map_or (λ r. blank_parts r.now) l.left [])
    ≡ filter is_filled (option_map_or (λ r. blank_parts r.now) l.fn.bytes [])

abbrev pub decreases-loop-left : goal.decreases-loop-left
decreases-loop-left l = length (option_map_or (λ r. blank_parts r.now) l.left [])
