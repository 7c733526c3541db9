use Rattle.std.proofs.Common.{◌≡◌, length, replicate}
use Rattle.nt_log.specs.Reading.{rises_from}
use Rattle.nt_log.proofs.turns.rises.Given as goal

abbrev pub invariant-loop-field : goal.invariant-loop-field
invariant-loop-field l = record {
  rest : rises_from l.version l.value l.least l.args ≡ rises_from l.version (replicate 16 0) 0 l.fn.args;
  size : length l.value ≡ 16;
}

abbrev pub decreases-loop-field : goal.decreases-loop-field
decreases-loop-field l = length l.args
