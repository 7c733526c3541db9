use Rattle.std.proofs.Common.{◌≡◌, ◌-◌, ◌≤◌, List, ℕ, Option, length, take}
use Rattle.std.specs.Io.KnownBytes.{append_known}
use Rattle.nt_outside.specs.Counts.{last_count}
use Rattle.nt_outside.proofs.writing.write_all.Given as goal

-- the sink has got the first `count` bytes, and its count of faults has not fallen
pub record Written (held_before held_now : Option (List ℕ)) (bytes : List ℕ) (count faults_before faults_now : ℕ) : Type 0 where
  pub within : count ≤ length bytes
  pub added : held_now ≡ append_known held_before (take count bytes)
  pub never_falls : faults_before ≤ faults_now
  pub capped : faults_before ≤ last_count → faults_now ≤ last_count

abbrev pub invariant-loop-count : goal.invariant-loop-count
invariant-loop-count g l = Written (g.K.Sink.held l.initial.sink) (g.K.Sink.held l.sink) l.bytes l.count (g.K.Sink.faults l.initial.sink)
    (g.K.Sink.faults l.sink)

abbrev pub decreases-loop-count : goal.decreases-loop-count
decreases-loop-count g l = length l.bytes - l.count
