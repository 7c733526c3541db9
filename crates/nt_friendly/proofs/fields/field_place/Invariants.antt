use Rattle.std.proofs.Common.{◌≡◌, ◌≤◌, ◌+◌, [], length}
use Rattle.std.specs.Prelude.{slice_get}
use Rattle.std.specs.Option.{option_map_or}
use Rattle.nt_friendly.specs.Fields.{blank_parts, field_place, places_from}
use Rattle.nt_friendly.proofs.Cuts.{bytes_of}
use Rattle.nt_friendly.proofs.fields.field_place.Given as goal

abbrev pub invariant-loop-rest : goal.invariant-loop-rest
invariant-loop-rest l = record {
  place : slice_get (places_from l.column (option_map_or (λ r. blank_parts r.now) l.rest [])) l.left ≡ field_place l.fn.line l.fn.index;
  within : l.column + bytes_of (option_map_or (λ r. blank_parts r.now) l.rest []) ≤ length l.fn.line + 2;
}

abbrev pub decreases-loop-rest : goal.decreases-loop-rest
decreases-loop-rest l = length (option_map_or (λ r. blank_parts r.now) l.rest [])
