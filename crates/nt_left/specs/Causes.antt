-- What holds back a pending insert at the end of a run.
use Rattle.std.specs.Prelude.{List, if◌then◌else◌, false, not, true, ℕ, ◌==◌, ◌<◌, ◌≡◌}
use Rattle.nt_event.specs.declared.commands.ApcKind.{ApcKind}
use Rattle.nt_event.specs.declared.commands.ApcKind.TheVariants as kinds
use Rattle.nt_event.specs.declared.events.Event.{Event}
use Rattle.nt_event.specs.declared.numbers.CpuNo.{CpuNo}
use Rattle.nt_event.specs.declared.numbers.ThreadNo.{ThreadNo}
use Rattle.nt_event.specs.declared.scripts.Script.{Script}
use Rattle.nt_event.specs.declared.threads.Doing.{Doing}
use Rattle.nt_event.specs.declared.threads.Doing.TheVariants as doings
use Rattle.nt_event.specs.declared.threads.Waiting.{Waiting}
use Rattle.nt_event.specs.Jobs.{spins_still}
use Rattle.nt_event.specs.Own.{Own, own_of}
use Rattle.nt_event.specs.Quiet.{takes_user}
use Rattle.nt_event.specs.Routines.{cpu_of}
use Rattle.nt_event.specs.Step.{is_cut}
use Rattle.nt_event.specs.Waits.{facts}
use Rattle.nt_left.specs.declared.kinds.ApcCause.{ApcCause}
use Rattle.nt_left.specs.declared.kinds.ApcCause.TheVariants as why
use Rattle.nt_left.specs.declared.kinds.CpuCause.{CpuCause}
use Rattle.nt_left.specs.declared.kinds.CpuCause.TheVariants as stop

-- ---- which cause is told

-- of a processor that does nothing more
abbrev pub cpu_cause : ℕ → Own → CpuCause
cpu_cause limit x = if is_cut limit x then stop.Cut else stop.Spins

-- of a kernel APC at a wait
abbrev pub kernel_cause : Waiting → ApcCause
kernel_cause w =
    if not (w.level == 0) then why.Level else
    if not (w.regions.guard == 0) then why.Guarded else
    if not (w.regions.crit == 0) then why.Critical else why.InProgress

abbrev pub wait_cause : Waiting → ApcKind → ApcCause
wait_cause w kinds.Special = kernel_cause w
wait_cause w kinds.Normal = kernel_cause w
wait_cause w kinds.User = why.Wait

-- of an APC of this kind of a thread that does so, on a processor that keeps this
abbrev pub apc_cause : ℕ → Own → Doing → ApcKind → ApcCause
apc_cause limit x doings.Gone kind = why.Gone
apc_cause limit x (doings.Blocked w) kind = wait_cause w kind
apc_cause limit x (doings.Ready level status) kind = why.Stopped (cpu_cause limit x)
apc_cause limit x doings.Running kind = why.Stopped (cpu_cause limit x)

-- ---- when a cause holds

-- the processor does nothing more, though it doesn't rest
abbrev pub CpuHolds : Script → ℕ → List Event → CpuNo → CpuCause → Type 0
CpuHolds s limit past p stop.Cut = is_cut limit (own_of s p past) ≡ true
CpuHolds s limit past p stop.Spins =
    (is_cut limit (own_of s p past) ≡ false) × (spins_still (own_of s p past) ≡ true)

-- the thread is blocked in a wait that is so
abbrev pub IsBlockedIn : Script → List Event → ThreadNo → (Waiting → Type 0) → Type 0
IsBlockedIn s past t P = (w : Waiting) × ((facts s t past).doing ≡ doings.Blocked w) × P w

-- the cause holds of an APC of this kind of the thread
abbrev pub ApcHolds : Script → ℕ → List Event → ThreadNo → ApcKind → ApcCause → Type 0
ApcHolds s limit past t kind why.Gone = (facts s t past).doing ≡ doings.Gone
ApcHolds s limit past t kind (why.Stopped cause) = CpuHolds s limit past (cpu_of s t) cause
ApcHolds s limit past t kind why.Wait =
    (kind ≡ kinds.User) × IsBlockedIn s past t (λ w. takes_user w ≡ false)
ApcHolds s limit past t kind why.Level = IsBlockedIn s past t (λ w. 0 < w.level)
ApcHolds s limit past t kind why.Guarded = IsBlockedIn s past t (λ w. 0 < w.regions.guard)
ApcHolds s limit past t kind why.Critical =
    (kind ≡ kinds.Normal) × IsBlockedIn s past t (λ w. 0 < w.regions.crit)
ApcHolds s limit past t kind why.InProgress =
    (kind ≡ kinds.Normal) × IsBlockedIn s past t (λ w. w.regions.busy ≡ true)
