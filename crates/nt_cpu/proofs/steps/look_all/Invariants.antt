use Rattle.nt_cpu.specs.Steps.{LooksBelow}
use Rattle.std.proofs.Common.{length, ◌≡◌}
use Rattle.nt_cpu.proofs.steps.look_all.Given as goal

abbrev pub invariant-loop-class : goal.invariant-loop-class
invariant-loop-class g l = record {
  len : length l.answers ≡ 16;
  looks : LooksBelow l.class l.cpu l.answers (g.W.Words.view l.initial.words) (g.W.Words.view l.words);
  grows : g.W.Words.grows l.initial.words l.words;
}
