use Rattle.std.proofs.Common.{string_bytes, ◌≡◌, encode_utf8_all, map}
use Rattle.nt_people.specs.Messages.{shown_char}
use Rattle.nt_people.proofs.quoting.shown_text.Given as goal

abbrev pub invariant-loop-sign : goal.invariant-loop-sign
invariant-loop-sign l = string_bytes l.shown ≡ encode_utf8_all (map shown_char l.yielded)
