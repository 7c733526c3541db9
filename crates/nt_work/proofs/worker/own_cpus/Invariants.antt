use Rattle.std.proofs.Common.{false, get_or, ◌<◌, ◌≡◌, ◌≤◌, ℕ}
use Rattle.std.specs.Prelude.{◌%◌, ◌==◌, length}
use Rattle.nt_work.proofs.worker.own_cpus.Given as goal

abbrev pub invariant-loop-cpu : goal.invariant-loop-cpu
invariant-loop-cpu l = record {
  own : (q : ℕ) → q < l.cpu → get_or l.own q false ≡ ((q % l.workers) == l.number);
  many : length l.own ≡ 256;
  within : l.cpu ≤ 256;
}
