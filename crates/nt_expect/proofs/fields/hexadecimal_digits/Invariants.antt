use Rattle.std.proofs.Common.{◌≡◌, drop}
use Rattle.nt_expect.specs.Fields.{hexadecimal_after}
use Rattle.nt_expect.proofs.fields.hexadecimal_digits.Given as goal

abbrev pub invariant-loop-byte : goal.invariant-loop-byte
invariant-loop-byte l = hexadecimal_after l.value (drop l.byte-index l.field) ≡ hexadecimal_after 0 l.field
