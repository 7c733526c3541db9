-- Regions and deliverable APCs, by positions: accepted enters less accepted leaves, in the present phase of each open
-- frame.
use Rattle.std.specs.Prelude.{Bool, List, Some, [], false, if◌then◌else◌, length, nat_lt, suc, sum_by, true, ℕ, ◌&&◌}
use Rattle.std.specs.Prelude.{◌+◌, ◌-◌, ◌==◌, ◌∷◌, ◌↔◌, ◌≡◌}
use Rattle.nt_event.specs.declared.commands.ApcKind.TheVariants.{Normal as NormalApc}
use Rattle.nt_event.specs.declared.commands.Command.{Command}
use Rattle.nt_event.specs.declared.commands.Command.TheVariants.{EnterCrit, EnterGuard, LeaveCrit, LeaveGuard}
use Rattle.nt_event.specs.declared.events.Event.{Event}
use Rattle.nt_event.specs.declared.events.What.{What}
use Rattle.nt_event.specs.declared.events.What.TheVariants.{Call, End, Normal}
use Rattle.nt_event.specs.declared.frames.Body.{Body}
use Rattle.nt_event.specs.Frame.{Frame}
use Rattle.nt_event.specs.declared.frames.Region.{Region}
use Rattle.nt_event.specs.declared.frames.Region.TheVariants.{Crit, Guard}
use Rattle.nt_event.specs.declared.inserts.Pick.{Pick}
use Rattle.nt_event.specs.declared.numbers.ThreadNo.{ThreadNo}
use Rattle.nt_event.specs.declared.scripts.Script.{Script}
use Rattle.nt_event.specs.Apcs.{deliverable, first_kernel, same_kind}
use Rattle.nt_event.specs.Frames.{is_normal_apc_body, thread_frames}
use Rattle.nt_runs.specs.Laws.{level_of}
use Rattle.nt_event.specs.Regions.{busy_of, crit_of, guard_of, regions_of}
use Rattle.nt_event.specs.Routines.{cpu_of}
use Rattle.nt_event.specs.Step.{IsRun}
use Rattle.nt_event.specs.Waits.{facts}
use Rattle.nt_event.specs.Replies.{is_done}
use Rattle.nt_readings.specs.Frames.{IsOpenOn}

-- ---- phases and calls of a frame

-- the event begins the frame's phase anew: its Normal or, of a base frame that stays, its End
abbrev pub renews : ℕ → What → Bool
renews n (Normal f) = f == n
renews n (End f) = f == n
renews n w = false

-- the number of the event that began the frame's present phase: the last later one that renews it, else its own
abbrev pub phase_of : ℕ → List Event → ℕ
phase_of n [] = n
phase_of n (e ∷ past) = if nat_lt n (length past) && renews n e.what then length past else phase_of n past

-- how many events after event m pass the test
abbrev pub count_after : (What → Bool) → ℕ → List Event → ℕ
count_after test m [] = 0
count_after test m (e ∷ past) =
    if nat_lt m (length past) && test e.what then suc (count_after test m past) else count_after test m past

-- the frame calls a command that passes the test, and the call is done
abbrev pub has_done : (Command → Bool) → ℕ → What → Bool
has_done test n (Call f c y) = (f == n) && (test c && is_done y)
has_done test n w = false

abbrev pub is_enter : Region → Command → Bool
is_enter Crit EnterCrit = true
is_enter Guard EnterGuard = true
is_enter r c = false

abbrev pub is_leave : Region → Command → Bool
is_leave Crit LeaveCrit = true
is_leave Guard LeaveGuard = true
is_leave r c = false

-- how often the frame has entered regions of the kind in its present phase
abbrev pub entered : Region → ℕ → List Event → ℕ
entered r n past = count_after (has_done (is_enter r) n) (phase_of n past) past

-- how often it has left them
abbrev pub exited : Region → ℕ → List Event → ℕ
exited r n past = count_after (has_done (is_leave r) n) (phase_of n past) past

-- ---- counts

-- k is the enters less the leaves of the frame, and there are no more leaves than enters
abbrev pub IsNet : Region → ℕ → ℕ → List Event → Type 0
IsNet r k n past = k + exited r n past ≡ entered r n past

-- the frame's counts are the enters less the leaves in its present phase
abbrev pub IsCounted : List Event → Frame → Type 0
IsCounted past f = IsNet Crit f.crit f.name past × IsNet Guard f.guard f.name past

abbrev pub EachFrame : (Frame → Type 0) → List Frame → Type 0
EachFrame P [] = Unit {0}
EachFrame P (f ∷ fs) = P f × EachFrame P fs

-- the enters less the leaves, summed over the frames
abbrev pub net_of : Region → List Event → List Frame → ℕ
net_of r past fs = sum_by (λ f. entered r f.name past - exited r f.name past) fs

-- the counts of the thread's frames, and that a frame of a normal kernel APC is open
pub record RegionsCounted (s : Script) (t : ThreadNo) (past : List Event) (fs : List Frame) : Type 0 where
  pub each : EachFrame (IsCounted past) fs
  pub crit : crit_of fs ≡ net_of Crit past fs
  pub guard : guard_of fs ≡ net_of Guard past fs
  pub busy : (busy_of fs ≡ true) ↔ ((n : ℕ) × (b : Body) × IsOpenOn s t past n b × (is_normal_apc_body b ≡ true))

-- in a run the regions of a thread are the accepted enters less the accepted leaves of its open frames, each in its
-- present phase
abbrev pub RegionsAreCounted : Type 0
RegionsAreCounted = (s : Script) (limit : ℕ) (t : ThreadNo) (past : List Event) → IsRun s limit past →
    RegionsCounted s t past (thread_frames s (cpu_of s t) t past)

-- ---- deliverable

-- x is the first kernel APC, the thread's innermost frame has level 0, no guarded region is entered and, for a normal
-- one, no critical region is, and no normal kernel APC is in progress
abbrev pub IsDeliverable : Script → ThreadNo → List Event → List Frame → Pick → Type 0
IsDeliverable s t past fs x = (first_kernel (facts s t past).apcs ≡ Some x) × (level_of fs ≡ 0) × (guard_of fs ≡ 0) ×
    (same_kind NormalApc x.kind ≡ true → (crit_of fs ≡ 0) × (busy_of fs ≡ false))

abbrev pub DeliverableByRegions : Type 0
DeliverableByRegions = (s : Script) (t : ThreadNo) (past : List Event) (fs : List Frame) (x : Pick) →
    (deliverable (facts s t past).apcs (regions_of fs) (level_of fs) ≡ Some x) ↔ IsDeliverable s t past fs x
