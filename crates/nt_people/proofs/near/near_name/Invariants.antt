use Rattle.std.proofs.Common.{IfSome, List, ℕ, Bool, length}
use Rattle.std.specs.Prelude.{Contains}
use Rattle.nt_text.specs.Lines.{lines}
use Rattle.nt_people.specs.Near.{StandsAs}
use Rattle.nt_people.proofs.near.near_name.Given as goal

-- the lines that are left are lines of the text, and the nearest name so far is declared in it
abbrev pub invariant-loop-line : goal.invariant-loop-line
invariant-loop-line l = record {
  rest : (line : List ℕ × Bool) → Contains l.lines line → Contains (lines l.text) line;
  near : IfSome l.near (λ n. StandsAs l.kind n.now l.text);
}

abbrev pub decreases-loop-line : goal.decreases-loop-line
decreases-loop-line l = length l.lines
