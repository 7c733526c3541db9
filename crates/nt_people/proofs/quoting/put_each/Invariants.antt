use Rattle.std.proofs.Common.{◌≡◌, ◌++◌, map, take}
use Rattle.nt_people.specs.Messages.{shown_byte}
use Rattle.nt_people.proofs.quoting.put_each.Given as goal

abbrev pub invariant-loop-byte : goal.invariant-loop-byte
invariant-loop-byte l = l.out.items ≡ l.fn.out.items ++ map shown_byte (take l.byte-index l.bytes)
