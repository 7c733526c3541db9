-- How many events a run has.
use Rattle.std.specs.Prelude.{List, false, length, ℕ, ◌*◌, ◌<◌, ◌≡◌, ◌≤◌}
use Rattle.nt_event.specs.declared.events.Event.{Event}
use Rattle.nt_event.specs.declared.numbers.CpuNo.{CpuNo}
use Rattle.nt_event.specs.declared.scripts.Script.{Script}
use Rattle.nt_event.specs.Own.{made, own_of}
use Rattle.nt_event.specs.Step.{IsRun, is_cut}

-- in a run each processor makes at most as many events as the turn limit
abbrev pub MakesAtMostTheLimit : Type 0
MakesAtMostTheLimit = (s : Script) (limit : ℕ) (p : CpuNo) (past : List Event) → IsRun s limit past → made p past
    ≤ limit

-- so a run has at most as many as its processors may make
abbrev pub RunIsBounded : Type 0
RunIsBounded = (s : Script) (limit : ℕ) (past : List Event) → IsRun s limit past → length past ≤ s.cpus * limit

-- and less, where one of them isn't cut
abbrev pub UncutHasRoom : Type 0
UncutHasRoom = (s : Script) (limit : ℕ) (p : CpuNo) (past : List Event) → IsRun s limit past → p.0 < s.cpus →
    is_cut limit (own_of s p past) ≡ false → length past < s.cpus * limit
