use Rattle.std.specs.Prelude.{take, true, ◌≡◌}
use Rattle.nt_top.proofs.Looks.{AreWhole}
use Rattle.nt_top.proofs.threads.looks_are_whole.Given as goal

-- the values so far are whole, and found so
abbrev pub invariant-loop-rises : goal.invariant-loop-rises
invariant-loop-rises l = record {
  answer : l.whole ≡ true;
  looks : AreWhole (take l.rises-index l.rises-items);
}
