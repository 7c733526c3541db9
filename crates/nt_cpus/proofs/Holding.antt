-- The processors that a machine holds.
use Rattle.std.proofs.Common.{ap, ◌∙◌}
use Rattle.std.specs.Prelude.{List, get_or, length, ℕ, ◌<◌, ◌≡◌}
use Rattle.nt_event.specs.declared.events.Event.{Event}
use Rattle.nt_event.specs.declared.numbers.CpuNo.{CpuNo}
use Rattle.nt_event.specs.declared.scripts.Script.{Script}
use Rattle.nt_event.specs.Numbers.{cpu}
use Rattle.nt_event.proofs.Tables.{get_or-table, length-table_from}
use Rattle.nt_cpu.specs.Runs.{state_of}
use Rattle.nt_cpu.specs.States.{CpuState}
use Rattle.nt_cpus.specs.Following.{cpus_of}

-- the states of the processors after a history are as many as the script has processors
pub cpus_held : (s : Script) (limit : ℕ) (past : List Event) (xs : List CpuState) → xs ≡ cpus_of s limit past → length xs ≡ s.cpus
cpus_held s limit past xs h = ap length h ∙ length-table_from 0 s.cpus (λ q. state_of s (cpu q) limit past)

-- among the states after a history, the one at a processor's number is that processor's state
pub cpu_held : (s : Script) (limit : ℕ) (past : List Event) (xs : List CpuState) (p : CpuNo) (d : CpuState) → xs ≡ cpus_of s limit past → p.0 < s.cpus →
    get_or xs p.0 d ≡ state_of s p limit past
cpu_held s limit past xs p d h b = ap (λ (ys : List CpuState). get_or ys p.0 d) h ∙ get_or-table s.cpus p.0 (λ q. state_of s (cpu q) limit past) d b
