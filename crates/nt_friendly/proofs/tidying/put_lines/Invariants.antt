use Rattle.std.proofs.Common.{◌≡◌, ◌≤◌, ◌+◌, ◌++◌, length}
use Rattle.std.specs.List.{flat_map}
use Rattle.nt_text.specs.declared.lines.TheConstants.{INPUT_LIMIT}
use Rattle.nt_friendly.specs.Text.{line_numbers, numbers_from, strict_line, strict_text}
use Rattle.nt_friendly.proofs.tidying.put_lines.Given as goal

-- what was put and what is left is all of it
abbrev pub invariant-loop-line : goal.invariant-loop-line
invariant-loop-line l = record {
  text : l.text.items ++ flat_map strict_line l.lines ≡ l.fn.text.items ++ strict_text l.bytes;
  numbers : l.numbers.items ++ numbers_from l.number l.lines ≡ l.fn.numbers.items ++ line_numbers l.bytes;
  few : l.number + length l.lines ≤ INPUT_LIMIT + 1;
}

abbrev pub decreases-loop-line : goal.decreases-loop-line
decreases-loop-line l = length l.lines
