-- The next ready thread is one of the script's and of the processor.
use Rattle.std.proofs.Common.{ap}
use Rattle.std.proofs.lemmas.Bool.{and_parts, eqb-true}
use Rattle.std.specs.Prelude.{IfSome, None, Option, Some, true, ℕ, ◌&&◌, ◌==◌, ◌≡◌}
use Rattle.nt_event.specs.declared.numbers.CpuNo.{CpuNo}
use Rattle.nt_event.specs.declared.numbers.ThreadNo.{ThreadNo}
use Rattle.nt_event.specs.declared.scripts.Script.{Script}
use Rattle.nt_event.specs.Jobs.{may_take, next_ready}
use Rattle.nt_event.specs.Lanes.{Lanes, facts_at}
use Rattle.nt_event.specs.Routines.{cpu_of}
use Rattle.nt_event.specs.Script.{has_thread}
use Rattle.nt_event.specs.Threads.{is_ready}
use Rattle.nt_event.proofs.Options.{Holds}
use Rattle.nt_event.proofs.Ready.{next_ready_taken}
use Rattle.nt_states.specs.Given.{IsTaken}

-- a thread that a processor may take is one of the script's and of that processor
taken : (s : Script) (p : CpuNo) (l : Lanes) (t : ThreadNo) → may_take s p t l ≡ true → IsTaken s p t
taken s p l t h =
    let a = and_parts (has_thread s t) (((cpu_of s t).0 == p.0) && is_ready (facts_at l t)) h in
    let b = and_parts ((cpu_of s t).0 == p.0) (is_ready (facts_at l t)) a.1 in
    record { named = a.0; own = ap (λ (n : ℕ). record { 0 = n }) (eqb-true (cpu_of s t).0 p.0 b.0) }

-- case: an optional thread that the processor may take
each_taken : (s : Script) (p : CpuNo) (l : Lanes) (o : Option ThreadNo) → Holds (λ t. may_take s p t l ≡ true) o → IfSome o (IsTaken s p)
each_taken s p l None h = tt
each_taken s p l (Some t) h = taken s p l t h

-- the next ready thread of a processor, if there is one, is of the script and of that processor
pub next_taken : (s : Script) (p : CpuNo) (last : Option ThreadNo) (l : Lanes) (o : Option ThreadNo) → o ≡ next_ready s p last l → IfSome o (IsTaken s p)
next_taken s p last l o e = rw e (each_taken s p l (next_ready s p last l) (next_ready_taken s p last l))
