use Rattle.std.proofs.Common.{◌≡◌, ◌+◌, ◌++◌, drop}
use Rattle.nt_ask.specs.Answers.{verdict_lines}
use Rattle.nt_ask.proofs.answer.put_lines.Given as goal

-- what was put and what is left is all of it
abbrev pub invariant-loop-place : goal.invariant-loop-place
invariant-loop-place l = l.out.items ++ verdict_lines l.input.names (l.place + 1) (drop l.place l.expectations) (drop l.place l.verdicts)
    ≡ l.fn.out.items ++ verdict_lines l.input.names 1 l.expectations l.verdicts
