-- What a machine keeps of the asks for a class of a processor.
use Rattle.std.specs.Prelude.{List, [], length, suc, zero, ℕ, ◌++◌, ◌+◌, ◌-◌, ◌<◌, ◌≡◌}
use Rattle.nt_event.specs.declared.numbers.CpuNo.{CpuNo}
use Rattle.nt_event.specs.Lanes.{lane_count}
use Rattle.nt_event.specs.Lists.{table, value_at}
use Rattle.nt_event.specs.Own.{Own}
use Rattle.nt_plain.specs.Places.{told_at}
use Rattle.nt_plain.specs.States.{PlainState, view_of}
use Rattle.nt_shade_asks.specs.declared.class_asks.ClassAsks.{ClassAsks}
use Rattle.nt_shade_asks.specs.Values.{value_if}

-- of so many numbers from this one on, those of the events that were marked for the class, each with one added
abbrev pub marked_from : PlainState → CpuNo → ℕ → ℕ → ℕ → List ℕ
marked_from f p c low zero = []
marked_from f p c low (suc n) =
    marked_from f p c low n ++ value_if ((view_of f).marked (low + n) p c) (low + n + 1)

-- the values above this one by which the processor was asked
abbrev pub marked_above : PlainState → CpuNo → ℕ → ℕ → List ℕ
marked_above f p c low = marked_from f p c low ((view_of f).value p c - low)

-- what each lane tells
abbrev pub all_told : PlainState → CpuNo → ℕ → List ℕ
all_told f p c = table (lane_count f.script) (λ n. told_at f.script.cpus f.told n p c)

-- what the processor of this number keeps of the class, and the floor has of it; what lanes tell only where any value
-- is ahead
pub record IsRead (x : Own) (f : PlainState) (p : CpuNo) (c : ℕ) (row : ClassAsks) : Type 0 where
  pub cpu : row.cpu ≡ p
  pub class : row.class ≡ c
  pub seen : row.seen ≡ value_at x.seen c
  pub served : row.served ≡ value_at x.served c
  pub ahead : row.ahead.items ≡ marked_above f p c row.seen
  pub told : 0 < length row.ahead.items → row.told.items ≡ all_told f p c
