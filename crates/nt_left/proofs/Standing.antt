-- What the processors and the lanes of a machine tell behind a run.
use Rattle.std.proofs.Common.{ap, arith, ◌∙◌}
use Rattle.std.proofs.lemmas.Bool.{ltb-true}
use Rattle.std.proofs.lemmas.Grind.{common_steps}
use Rattle.std.specs.Prelude.{IsTrue, List, get_or, length, true, ℕ, ◌<◌, ◌≡◌, ◌≤◌}
use Rattle.nt_event.specs.declared.events.Event.{Event}
use Rattle.nt_event.specs.declared.numbers.CpuNo.{CpuNo}
use Rattle.nt_event.specs.declared.numbers.DpcNo.{DpcNo}
use Rattle.nt_event.specs.declared.numbers.ThreadNo.{ThreadNo}
use Rattle.nt_event.specs.declared.scripts.Script.{Script}
use Rattle.nt_event.specs.Frames.{frames_in, frames_of, thread_frames}
use Rattle.nt_event.specs.Lanes.{lanes_at, object_at}
use Rattle.nt_event.specs.Numbers.{cpu, dpc, thread}
use Rattle.nt_event.specs.Objects.{object_of, start_object}
use Rattle.nt_event.specs.Own.{own_of}
use Rattle.nt_event.specs.Script.{fits, has_cpu, has_dpc, has_thread}
use Rattle.nt_event.specs.Threads.{ThreadFacts}
use Rattle.nt_event.specs.Waits.{facts}
use Rattle.nt_event.proofs.Tables.{get_or-table, length-table_from}
use Rattle.nt_cpu.specs.Runs.{state_of}
use Rattle.nt_cpu.specs.States.{CpuState}
use Rattle.nt_cpus.specs.Following.{cpus_of}

-- ---- processors

-- there are as many as the script has
pub cpu_count : (s : Script) (limit : ℕ) (past : List Event) (cpus : List CpuState) → cpus ≡ cpus_of s limit past → length cpus ≡ s.cpus
cpu_count s limit past cpus h = ap length h ∙ length-table_from 0 s.cpus (λ p. state_of s (cpu p) limit past)

-- the one at a place keeps what the run says
pub own_at : (s : Script) (limit : ℕ) (past : List Event) (cpus : List CpuState) (p : CpuNo) (k : ℕ) (d : CpuState) → cpus ≡ cpus_of s limit past →
    has_cpu s p ≡ true → k ≡ p.0 → (get_or cpus k d).own ≡ own_of s p past
own_at s limit past cpus p k d h has same =
    ap (λ (y : CpuState). y.own)
    (ap (λ (i : ℕ). get_or cpus i d) same
    ∙ (ap (λ (xs : List CpuState). get_or xs p.0 d) h
    ∙ get_or-table s.cpus p.0 (λ p. state_of s (cpu p) limit past) d (ltb-true p.0 s.cpus has)))

-- a processor of the script has a place
pub cpu_place : (s : Script) (limit : ℕ) (past : List Event) (cpus : List CpuState) (p : CpuNo) (k : ℕ) → cpus ≡ cpus_of s limit past →
    has_cpu s p ≡ true → k ≡ p.0 → k < length cpus
cpu_place s limit past cpus p k h has same =
    let count = cpu_count s limit past cpus h in
    let low : p.0 < s.cpus = ltb-true p.0 s.cpus has in
    omega (arith, count, low, same)

-- the frames of a thread are those of the thread's part
pub part_is : (s : Script) (past : List Event) (p : CpuNo) (t : ThreadNo) → t.0 < length s.threads →
    frames_in (frames_of s p past).threads t ≡ thread_frames s p t past
part_is s past p t low = get_or-table (length s.threads) t.0 (λ t. thread_frames s p (thread t) past) _ low

-- there are as many parts as the script has threads
pub part_count : (s : Script) (past : List Event) (p : CpuNo) → length (frames_of s p past).threads ≡ length s.threads
part_count s past p = length-table_from 0 (length s.threads) (λ t. thread_frames s p (thread t) past)

-- ---- threads

-- there are as many as the script has
pub thread_count : (s : Script) (past : List Event) (xs : List ThreadFacts) → xs ≡ (lanes_at s past).threads → length xs ≡ length s.threads
thread_count s past xs h = ap length h ∙ length-table_from 0 (length s.threads) (λ t. facts s (thread t) past)

-- the facts at a place are those of the thread
pub facts_here : (s : Script) (past : List Event) (xs : List ThreadFacts) (t : ThreadNo) (k : ℕ) (d : ThreadFacts) → xs ≡ (lanes_at s past).threads →
    has_thread s t ≡ true → k ≡ t.0 → get_or xs k d ≡ facts s t past
facts_here s past xs t k d h has same =
    ap (λ (i : ℕ). get_or xs i d) same
    ∙ (ap (λ (ys : List ThreadFacts). get_or ys t.0 d) h
    ∙ get_or-table (length s.threads) t.0 (λ t. facts s (thread t) past) d (ltb-true t.0 (length s.threads) has))

-- ---- DPC objects

-- the state of an object of the script is what the run says
pub object_is : (s : Script) (past : List Event) (d : DpcNo) → has_dpc s d ≡ true → object_at (lanes_at s past) d ≡ object_of d past
object_is s past d h = get_or-table (length s.dpcs) d.0 (λ d. object_of (dpc d) past) start_object (ltb-true d.0 (length s.dpcs) h)

-- ---- a script that fits has few things

-- at most 64 threads
pub few_threads : (s : Script) → IsTrue (fits s) → length s.threads ≤ 64
few_threads s h = grind (arith, common_steps)

-- at most 64 timers
pub few_timers : (s : Script) → IsTrue (fits s) → length s.timers ≤ 64
few_timers s h = grind (arith, common_steps)

-- at most 256 DPC objects
pub few_dpcs : (s : Script) → IsTrue (fits s) → length s.dpcs ≤ 256
few_dpcs s h = grind (arith, common_steps)

-- at most 64 processors
pub few_cpus : (s : Script) → IsTrue (fits s) → s.cpus ≤ 64
few_cpus s h = grind (arith, common_steps)
