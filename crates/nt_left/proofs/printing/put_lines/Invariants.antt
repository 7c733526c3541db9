use Rattle.std.proofs.Common.{◌≡◌, ◌++◌, take}
use Rattle.std.specs.List.{flat_map}
use Rattle.nt_left.specs.Lines.{thing_line}
use Rattle.nt_left.proofs.printing.put_lines.Given as goal

abbrev pub invariant-loop-thing : goal.invariant-loop-thing
invariant-loop-thing l = l.out.items ≡ l.fn.out.items ++ flat_map (thing_line l.input) (take l.thing-index l.left)
