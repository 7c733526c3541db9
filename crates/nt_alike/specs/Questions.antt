-- Questions about a state: what each processor of the script keeps and what stands in the lanes, but for numbers. They
-- are answered alike after histories that are alike.
use Rattle.std.specs.Prelude.{List, ℕ, ◌≡◌}
use Rattle.nt_event.specs.declared.events.Event.{Event}
use Rattle.nt_event.specs.declared.numbers.ApcNo.{ApcNo}
use Rattle.nt_event.specs.declared.numbers.CpuNo.{CpuNo}
use Rattle.nt_event.specs.declared.numbers.DpcNo.{DpcNo}
use Rattle.nt_event.specs.declared.numbers.LockNo.{LockNo}
use Rattle.nt_event.specs.declared.numbers.ThreadNo.{ThreadNo}
use Rattle.nt_event.specs.declared.numbers.TimerNo.{TimerNo}
use Rattle.nt_event.specs.declared.scripts.Script.{Script}
use Rattle.nt_event.specs.Apcs.{is_inserted}
use Rattle.nt_event.specs.Frames.{frames_of, running, time}
use Rattle.nt_event.specs.Jobs.{level_at, rests, spins_still}
use Rattle.nt_event.specs.Lanes.{Lanes, facts_at, lanes_at, lock_at, object_at}
use Rattle.nt_event.specs.Lists.{table}
use Rattle.nt_event.specs.Numbers.{cpu}
use Rattle.nt_event.specs.Objects.{is_queued}
use Rattle.nt_event.specs.Own.{Own, own_of}
use Rattle.nt_event.specs.Routines.{owner_of}
use Rattle.nt_event.specs.Timers.{is_set_timer}
use Rattle.nt_alike.specs.Alike.{Alike}
use Rattle.nt_alike.specs.Bare.{bare_doing, bare_facts, bare_frames, bare_lanes, bare_own}

-- a question is any function of these; its answer is a number
abbrev pub Question : Type 0
Question = List Own → Lanes → ℕ

abbrev pub answer : Script → Question → List Event → ℕ
answer s question past =
    question (table s.cpus (λ p. bare_own (own_of s (cpu p) past))) (bare_lanes (lanes_at s past))

abbrev pub AlikeAnswerAlike : Type 0
AlikeAnswerAlike = (s : Script) (question : Question) (h k : List Event) → Alike s h k →
    answer s question h ≡ answer s question k

-- The questions that a reader asks, of any processor, thread, object and lock: at which level it is, whether it rests
-- or spins still, which thread runs, the open frames without their names; what a thread does (runs, is ready, is
-- blocked in which wait, is gone) and the rest of its facts; which DPC and APC objects are inserted; which timers are
-- set, and the time; which processor holds a spin lock, and which ones spin on it.
pub record StandAlike (s : Script) (h k : List Event) : Type 0 where
  pub level : (p : CpuNo) → level_at (own_of s p h) ≡ level_at (own_of s p k)
  pub rests : (p : CpuNo) → rests (own_of s p h) ≡ rests (own_of s p k)
  pub spins : (p : CpuNo) → spins_still (own_of s p h) ≡ spins_still (own_of s p k)
  pub running : (p : CpuNo) → running p h ≡ running p k
  pub frames : (p : CpuNo) → bare_frames (frames_of s p h) ≡ bare_frames (frames_of s p k)
  pub doing : (t : ThreadNo) →
      bare_doing (facts_at (lanes_at s h) t).doing ≡ bare_doing (facts_at (lanes_at s k) t).doing
  pub facts : (t : ThreadNo) → bare_facts (facts_at (lanes_at s h) t) ≡ bare_facts (facts_at (lanes_at s k) t)
  pub dpcs : (d : DpcNo) → is_queued (object_at (lanes_at s h) d) ≡ is_queued (object_at (lanes_at s k) d)
  pub apcs : (a : ApcNo) → is_inserted a (facts_at (lanes_at s h) (owner_of s a)).apcs
      ≡ is_inserted a (facts_at (lanes_at s k) (owner_of s a)).apcs
  pub timers : (t : TimerNo) → is_set_timer (lanes_at s h).timers t ≡ is_set_timer (lanes_at s k).timers t
  pub time : time h ≡ time k
  pub holder : (x : LockNo) → (lock_at (lanes_at s h) x).holder ≡ (lock_at (lanes_at s k) x).holder
  pub spinners : (x : LockNo) → (lock_at (lanes_at s h) x).spinners ≡ (lock_at (lanes_at s k) x).spinners

abbrev pub AlikeStandAlike : Type 0
AlikeStandAlike = (s : Script) (h k : List Event) → Alike s h k → StandAlike s h k
