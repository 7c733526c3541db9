-- What it means that a thing is left at the end of a run.
use Rattle.std.specs.List.{Contains}
use Rattle.std.specs.Prelude.{List, None, Option, Some, false, not, true, ℕ, ◌<◌, ◌≡◌}
use Rattle.nt_event.specs.declared.events.Event.{Event}
use Rattle.nt_event.specs.declared.frames.Held.{Held}
use Rattle.nt_event.specs.declared.frames.Region.{Region}
use Rattle.nt_event.specs.declared.frames.Region.TheVariants.{Crit, Guard}
use Rattle.nt_event.specs.declared.inserts.Pick.{Pick}
use Rattle.nt_event.specs.declared.numbers.CpuNo.{CpuNo}
use Rattle.nt_event.specs.declared.numbers.ThreadNo.{ThreadNo}
use Rattle.nt_event.specs.declared.scripts.Script.{Script}
use Rattle.nt_event.specs.declared.threads.Doing.TheVariants as doings
use Rattle.nt_event.specs.Fate.{ApcThing, DpcThing, Thing}
use Rattle.nt_event.specs.Frame.{Frame}
use Rattle.nt_event.specs.Frames.{base_of, frames_of, own_frames, running, thread_frames}
use Rattle.nt_event.specs.Jobs.{level_at, spins_still}
use Rattle.nt_event.specs.Lists.{is_null}
use Rattle.nt_event.specs.Objects.{standing}
use Rattle.nt_event.specs.Own.{own_of}
use Rattle.nt_event.specs.Routines.{cpu_of}
use Rattle.nt_event.specs.Script.{has_cpu, has_dpc, has_thread, has_timer}
use Rattle.nt_event.specs.Step.{is_cut}
use Rattle.nt_event.specs.Threads.{is_ready}
use Rattle.nt_event.specs.Timers.{timer_setting}
use Rattle.nt_event.specs.Waits.{facts}
use Rattle.nt_frame.specs.Rules.{spinning_in}
use Rattle.nt_left.specs.declared.kinds.ApcCause.{ApcCause}
use Rattle.nt_left.specs.declared.kinds.CpuCause.{CpuCause}
use Rattle.nt_left.specs.declared.kinds.Left.{Left}
use Rattle.nt_left.specs.declared.kinds.Left.TheVariants as left
use Rattle.nt_left.specs.Causes.{ApcHolds, CpuHolds, apc_cause, cpu_cause}
use Rattle.nt_left.specs.Items.{due_in, frames_at, innermost_name}

-- the frame stands on the processor's own part, or on the thread's part there
abbrev pub StandsOn : Script → List Event → CpuNo → Option ThreadNo → Frame → Type 0
StandsOn s past p None f = (has_cpu s p ≡ true) × Contains (own_frames p past) f
StandsOn s past p (Some t) f = (has_cpu s p ≡ true) × (has_thread s t ≡ true) × Contains (thread_frames s p t past) f

abbrev pub entered : Region → Frame → ℕ
entered Crit f = f.crit
entered Guard f = f.guard

-- a frame of this name stands there, and is so
abbrev pub IsFrame : Script → List Event → CpuNo → Option ThreadNo → ℕ → (Frame → Type 0) → Type 0
IsFrame s past p o n P = (f : Frame) × StandsOn s past p o f × (f.name ≡ n) × P f

-- the thing is left
abbrev pub IsLeft : Script → ℕ → List Event → Left → Type 0
IsLeft s limit past (left.Cut p t level frame) =
    (has_cpu s p ≡ true) × (is_cut limit (own_of s p past) ≡ true) × (t ≡ running p past)
    × (level ≡ level_at (own_of s p past)) × (frame ≡ innermost_name (frames_of s p past))
IsLeft s limit past (left.Spins p k) =
    (has_cpu s p ≡ true) × (is_cut limit (own_of s p past) ≡ false) × (spins_still (own_of s p past) ≡ true)
    × (spinning_in (frames_of s p past) ≡ Some k)
IsLeft s limit past (left.Blocked t w due) =
    (has_thread s t ≡ true) × ((facts s t past).doing ≡ doings.Blocked w) × (due ≡ due_in (frames_at s t past))
IsLeft s limit past (left.Ready t begun) =
    (has_thread s t ≡ true) × (is_ready (facts s t past) ≡ true) × (begun ≡ not (is_null (frames_at s t past)))
IsLeft s limit past (left.Timer t x) = (has_timer s t ≡ true) × (timer_setting t past ≡ Some x)
IsLeft s limit past (left.Raised p o n level base) =
    IsFrame s past p o n (λ f. (f.level ≡ level) × (base_of f ≡ base) × (base < level))
IsLeft s limit past (left.Inside p o n r count) =
    IsFrame s past p o n (λ f. (entered r f ≡ count) × (0 < count))
IsLeft s limit past (left.Holds p o n k) =
    IsFrame s past p o n (λ f. (h : Held) × Contains f.held h × (h.lock ≡ k))
IsLeft s limit past (left.Dpc d n q cause) =
    (has_dpc s d ≡ true) × (standing d past ≡ Some (record { queue = q; number = n }))
    × (cause ≡ cpu_cause limit (own_of s q past))
IsLeft s limit past (left.Apc a n t cause) =
    (has_thread s t ≡ true)
    × ((i : Pick) × Contains (facts s t past).apcs.pending i × (i.apc ≡ a) × (i.number ≡ n)
    × (cause ≡ apc_cause limit (own_of s (cpu_of s t) past) (facts s t past).doing i.kind))

-- what is told of a pending insert holds it back
abbrev pub HasCause : Script → ℕ → List Event → Left → Type 0
HasCause s limit past (left.Dpc d n q cause) = CpuHolds s limit past q cause
HasCause s limit past (left.Apc a n t cause) =
    (i : Pick) × Contains (facts s t past).apcs.pending i × (i.apc ≡ a) × (i.number ≡ n)
    × ApcHolds s limit past t i.kind cause
HasCause s limit past (left.Cut p t level frame) = Unit {0}
HasCause s limit past (left.Spins p k) = Unit {0}
HasCause s limit past (left.Blocked t w due) = Unit {0}
HasCause s limit past (left.Ready t begun) = Unit {0}
HasCause s limit past (left.Timer t x) = Unit {0}
HasCause s limit past (left.Raised p o n level base) = Unit {0}
HasCause s limit past (left.Inside p o n r count) = Unit {0}
HasCause s limit past (left.Holds p o n k) = Unit {0}

-- a pending insert of this number is among these things
abbrev pub IsTold : List Left → Thing → ℕ → Type 0
IsTold xs (DpcThing d) n = (q : CpuNo) × (cause : CpuCause) × Contains xs (left.Dpc d n q cause)
IsTold xs (ApcThing a) n = (t : ThreadNo) × (cause : ApcCause) × Contains xs (left.Apc a n t cause)
