-- What stands before the workers begin.
use Rattle.std.specs.Prelude.{List, [], get_or, length, ℕ, ◌<◌, ◌≡◌}
use Rattle.nt_event.specs.declared.numbers.CpuNo.{CpuNo}
use Rattle.nt_event.specs.declared.scripts.Script.{Script}
use Rattle.nt_event.specs.Lanes.{lane_count}
use Rattle.nt_event.specs.Numbers.{cpu}
use Rattle.nt_event.specs.Own.{own_of}
use Rattle.nt_mark.specs.declared.marks.Made.{Made}
use Rattle.nt_mark.specs.declared.view.View.{View}
use Rattle.nt_mark.specs.Closing.{AreNewKeepers}
use Rattle.nt_mark.specs.Names.{cpus_of, lanes_of, limit_of, parts_of, pass_table, pass_view, table_of}
use Rattle.nt_mark.specs.Views.{spent}
use Rattle.nt_live.specs.Workers.{WorkerState}

-- a pass with this many parts that did nothing and knows nothing
abbrev pub fresh : ℕ → View
fresh parts = record spent { parts = parts }

-- marks for the processors and lanes of the script, with a part for each processor and the limit for each part; a pass
-- with all parts; and the keeper of each lane
pub record IsPrepared (s : Script) (limit : ℕ) (made : Made) : Type 0 where
  pub cpus : cpus_of made.marks ≡ s.cpus
  pub lanes : lanes_of made.marks ≡ lane_count s
  pub parts : parts_of made.marks ≡ s.cpus
  pub limit_is : limit_of made.marks ≡ limit
  pub at : pass_table made.pass ≡ table_of made.marks
  pub pass : pass_view made.pass ≡ fresh s.cpus
  pub count : length made.keepers.items ≡ lane_count s
  pub keepers : AreNewKeepers (table_of made.marks) made.keepers.items

-- a processor that made nothing, with a pass of one part that knows nothing
abbrev pub new_worker : Script → ℕ → CpuNo → WorkerState
new_worker s limit p =
    record { cpu = record { script = s; cpu = p; limit = limit; own = own_of s p [] }; view = fresh 1 }

-- one worker for each processor of the script, in order, none of which made anything
pub record AreOpened (s : Script) (limit : ℕ) (ws : List WorkerState) : Type 0 where
  pub count : length ws ≡ s.cpus
  pub each : (k : ℕ) (d : WorkerState) → k < s.cpus → get_or ws k d ≡ new_worker s limit (cpu k)
