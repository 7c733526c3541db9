-- Where the value of a processor and class, the marks of an event, and the value that a lane tells stand in the lists.
use Rattle.std.specs.Int.{bit_at}
use Rattle.std.specs.Prelude.{Bool, List, get_or, if◌then◌else◌, ℕ, ◌*◌, ◌+◌, ◌==◌}
use Rattle.nt_event.specs.declared.jobs.Lane.{Lane}
use Rattle.nt_event.specs.declared.numbers.CpuNo.{CpuNo}
use Rattle.nt_event.specs.declared.scripts.Script.{Script}
use Rattle.nt_event.specs.Lanes.{lane_number}
use Rattle.nt_states.specs.LaneLists.{lane_fits}

abbrev pub word_place : CpuNo → ℕ → ℕ
word_place p c = 16 * p.0 + c

-- the row of a processor among those of an event, or of a lane
abbrev pub row_of : ℕ → ℕ → CpuNo → ℕ
row_of cpus n p = n * cpus + p.0

abbrev pub value_in : List ℕ → CpuNo → ℕ → ℕ
value_in asked p c = get_or asked (word_place p c) 0

-- each row of marks is a number with a bit for each class
abbrev pub is_marked : ℕ → List ℕ → ℕ → CpuNo → ℕ → Bool
is_marked cpus marks n p c = bit_at (get_or marks (row_of cpus n p) 0) c == 1

abbrev pub told_place : Script → Lane → CpuNo → ℕ → ℕ
told_place s x p c = row_of s.cpus (lane_number s x) p * 16 + c

abbrev pub row_value : Script → List ℕ → Lane → CpuNo → ℕ → ℕ
row_value s told x p c = get_or told (told_place s x p c) 0

-- what the lane of this number tells
abbrev pub told_at : ℕ → List ℕ → ℕ → CpuNo → ℕ → ℕ
told_at cpus told n p c = get_or told (row_of cpus n p * 16 + c) 0

-- what a lane tells; one that isn't the script's tells nothing
abbrev pub told_in : Script → List ℕ → Lane → CpuNo → ℕ → ℕ
told_in s told x p c = if lane_fits s x then row_value s told x p c else 0
