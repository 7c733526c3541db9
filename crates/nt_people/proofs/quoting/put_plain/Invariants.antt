use Rattle.std.proofs.Common.{◌≡◌, ◌++◌, map, take}
use Rattle.nt_people.specs.Messages.{plain_byte}
use Rattle.nt_people.proofs.quoting.put_plain.Given as goal

abbrev pub invariant-loop-byte : goal.invariant-loop-byte
invariant-loop-byte l = l.out.items ≡ l.fn.out.items ++ map (plain_byte) (take l.byte-index l.byte-items)
