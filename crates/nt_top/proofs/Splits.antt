-- Where the second part of an input begins.
use Rattle.std.proofs.Common.{arith, ℕ, ◌+◌, ◌≤◌, List, length, take}
use Rattle.std.proofs.lemmas.List.{length-take}
use Rattle.std.proofs.Math.Nat.{min-le_right}
use Rattle.nt_text.specs.declared.lines.TheConstants.{INPUT_LIMIT}
use Rattle.nt_text.proofs.Cuts.{few_lines}
use Rattle.nt_script.specs.Splitting.{Splits}

-- the second part of an input that is not too long begins at a line from 1 to one after the input limit
pub line_within : (word bytes : List ℕ) (at line : ℕ) → length bytes ≤ INPUT_LIMIT → Splits word bytes at line → (1 ≤ line) × (line ≤ INPUT_LIMIT + 1)
line_within word bytes at line few s =
    let lines = few_lines (take at bytes) in
    let size = length-take at bytes in
    let least = min-le_right at (length bytes) in
    let number = s.number in (omega (arith, number), omega (arith, number, lines, size, least, few))
