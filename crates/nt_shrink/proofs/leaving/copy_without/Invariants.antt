use Rattle.std.proofs.Common.{drop, take, ◌≡◌}
use Rattle.nt_shrink.specs.Shorter.{without}
use Rattle.nt_shrink.proofs.leaving.copy_without.Given as goal

abbrev pub invariant-loop-number : goal.invariant-loop-number
invariant-loop-number l = record {
  rest : l.walk ≡ drop l.number l.list;
  shorter : l.shorter ≡ without l.at (take l.number l.list);
}
