use Rattle.std.proofs.Common.{◌≡◌, false}
use Rattle.nt_print.specs.Flags.{AreClear}
use Rattle.nt_print.proofs.flags.are_clear.Given as goal

abbrev pub invariant-loop-flag : goal.invariant-loop-flag
invariant-loop-flag l = l.any ≡ false → AreClear l.flags 0 l.flag-index
