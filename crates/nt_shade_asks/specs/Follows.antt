-- What is kept of the classes of processors, and when it is what a history says.
use Rattle.std.specs.Prelude.{All, List, get_or, length, map, true, ℕ, ◌*◌, ◌+◌, ◌<◌, ◌≡◌}
use Rattle.nt_event.specs.declared.events.Event.{Event}
use Rattle.nt_event.specs.declared.jobs.Lane.{Lane}
use Rattle.nt_event.specs.declared.numbers.CpuNo.{CpuNo}
use Rattle.nt_event.specs.declared.scripts.Script.{Script}
use Rattle.nt_event.specs.Lanes.{lane_count, lane_number}
use Rattle.nt_event.specs.Lists.{table}
use Rattle.nt_event.specs.Requests.{told_by}
use Rattle.nt_event.specs.Requests as requests
use Rattle.nt_alike.specs.Declared.{has_lane}
use Rattle.nt_shade_asks.specs.declared.class_asks.ClassAsks.{ClassAsks}
use Rattle.nt_shade_asks.specs.declared.unnoticed.Unnoticed.{Unnoticed}
use Rattle.nt_shade_asks.specs.Values.{values_above}

-- what a lane tells, by its number; the same of each processor and class for whom the list is
abbrev pub tells : Script → List ℕ → Lane → CpuNo → ℕ → ℕ
tells s told x p c = get_or told (lane_number s x) 0

abbrev pub HasLane : Script → Lane → Type 0
HasLane s x = has_lane s x ≡ true

-- a class, and a value for each lane, where any value is ahead
pub record HasRoom (s : Script) (x : ClassAsks) : Type 0 where
  pub class : x.class < 16
  pub told : 0 < length x.ahead.items → length x.told.items ≡ lane_count s

-- classes stand by processors, and those of a processor in their order
abbrev pub place_of : ClassAsks → ℕ
place_of x = x.cpu.0 * 16 + x.class

-- what is kept of a class of a processor is what the history says; of what lanes tell only where any value is ahead
pub record IsClassAsked (s : Script) (past : List Event) (x : ClassAsks) : Type 0 where
  pub seen : x.seen ≡ requests.seen s x.cpu x.class past
  pub served : x.served ≡ requests.served s x.cpu x.class past
  pub ahead : x.ahead.items ≡ values_above s x.cpu x.class (requests.seen s x.cpu x.class past) past
  pub told : 0 < length x.ahead.items → (l : Lane) → HasLane s l →
      tells s x.told.items l x.cpu x.class ≡ told_by s l x.cpu x.class past

-- a class for each of the 16 of each processor of the script, in order, with room for what is kept of it
pub record IsOf (s : Script) (x : Unnoticed) : Type 0 where
  pub places : map place_of x.classes.items ≡ table (s.cpus * 16) (λ place. place)
  pub room : All (HasRoom s) x.classes.items

-- what is kept of each class of each processor is what the history says
abbrev pub IsAsked : Script → List Event → Unnoticed → Type 0
IsAsked s past x = All (IsClassAsked s past) x.classes.items
