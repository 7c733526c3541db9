-- The cycle of processors.
use Rattle.std.specs.Prelude.{List, None, Option, Some, [], if◌then◌else◌, suc, ℕ, ◌==◌, ◌∷◌}
use Rattle.nt_event.specs.declared.events.Event.{Event}
use Rattle.nt_event.specs.declared.numbers.CpuNo.{CpuNo}
use Rattle.nt_event.specs.declared.scripts.Script.{Script}

-- the processor after p, and after the last one the first
abbrev pub next_cpu : Script → ℕ → ℕ
next_cpu s p = if suc p == s.cpus then 0 else suc p

-- the processor of the last event; none of the empty history
abbrev pub last_cpu : List Event → Option CpuNo
last_cpu [] = None
last_cpu (e ∷ past) = Some e.cpu
