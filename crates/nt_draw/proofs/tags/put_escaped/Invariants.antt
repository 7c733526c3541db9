use Rattle.std.proofs.Common.{◌≡◌, ◌++◌, drop}
use Rattle.nt_draw.specs.Tags.{escaped}
use Rattle.nt_draw.proofs.tags.put_escaped.Given as goal

-- what was put and what is left is all of it
abbrev pub invariant-loop-byte : goal.invariant-loop-byte
invariant-loop-byte l = l.out.items ++ escaped (drop l.byte-index l.text) ≡ l.fn.out.items ++ escaped l.text
