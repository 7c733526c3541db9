use Rattle.std.proofs.Common.{◌≡◌, ◌+◌, ◌-◌, ◌≤◌, List, ℕ, Option, take, vec_len}
use Rattle.std.specs.Io.KnownBytes.{prepend_known}
use Rattle.nt_outside.specs.Counts.{last_count, counted}
use Rattle.nt_outside.proofs.reading.read_all.Given as goal

-- the first `count` bytes of the buffer are those that the source has given since the start
pub record Taken (left_before left_now : Option (List ℕ)) (buffer : List ℕ) (count taken_before taken_now faults_before faults_now : ℕ) : Type 0 where
  pub bytes : left_before ≡ prepend_known (take count buffer) left_now
  pub taken : counted taken_now 0 ≡ counted taken_before count
  pub taken_at_most : taken_now ≤ taken_before + count
  pub never_falls : faults_before ≤ faults_now
  pub capped : faults_before ≤ last_count → faults_now ≤ last_count

-- the buffer has room for one byte more than the limit at most, and what was read is within the limit
pub record InRoom (count length limit : ℕ) : Type 0 where
  pub read : count ≤ length
  pub room : length ≤ limit + 1
  pub within : count ≤ limit

abbrev pub invariant-loop-count : goal.invariant-loop-count
invariant-loop-count g l =
    Taken (g.S.Source.left l.initial.source) (g.S.Source.left l.source) l.bytes.items l.count (g.S.Source.taken l.initial.source) (g.S.Source.taken l.source)
    (g.S.Source.faults l.initial.source) (g.S.Source.faults l.source)
    × InRoom l.count (vec_len l.bytes) l.limit

abbrev pub decreases-loop-count : goal.decreases-loop-count
decreases-loop-count g l = l.limit + 1 - l.count
