-- Threads: the facts that their events leave, and what ends a wait.
use Rattle.std.specs.Option.{option_map_or}
use Rattle.std.specs.Prelude.{Bool, None, Option, Some, false, if◌then◌else◌, is_some, not, true, ℕ, ◌&&◌, ◌==◌, ◌||◌}
use Rattle.nt_event.specs.declared.commands.Mode.{Mode}
use Rattle.nt_event.specs.declared.commands.Mode.TheVariants.{Kernel as KernelMode, User as UserMode}
use Rattle.nt_event.specs.declared.inserts.Pick.{Pick}
use Rattle.nt_event.specs.declared.threads.Doing.{Doing}
use Rattle.nt_event.specs.declared.threads.Doing.TheVariants.{Blocked as IsBlocked, Gone as IsGone, Ready as IsReady}
use Rattle.nt_event.specs.declared.threads.Waiting.{Waiting}
use Rattle.nt_event.specs.Apcs.{ApcQueues, deliverable, start_apcs, with_apc}
use Rattle.nt_event.specs.Routines.{is_kernel_kind}
use Rattle.nt_event.specs.Replies.{is_user}

-- what the thread is doing, its alerted flags, the user-pending mark, the released mark, whether its base routine has
-- ended, and its APCs
pub record ThreadFacts : Type 0 where
  pub doing : Doing
  pub alerted_kernel : Bool
  pub alerted_user : Bool
  pub user_pending : Bool
  pub released : Bool
  pub leaving : Bool
  pub apcs : ApcQueues

abbrev pub start_facts : ThreadFacts
start_facts =
    record {
      doing = IsReady 0 None;
      alerted_kernel = false;
      alerted_user = false;
      user_pending = false;
      released = false;
      leaving = false;
      apcs = start_apcs;
    }

abbrev pub ready_doing : Doing → Bool
ready_doing (IsReady level status) = true
ready_doing _ = false

abbrev pub is_ready : ThreadFacts → Bool
is_ready x = ready_doing x.doing

abbrev pub gone_doing : Doing → Bool
gone_doing IsGone = true
gone_doing _ = false

abbrev pub is_gone : ThreadFacts → Bool
is_gone x = gone_doing x.doing

-- the wait in which it is blocked
abbrev pub waiting_of : Doing → Option Waiting
waiting_of (IsBlocked w) = Some w
waiting_of _ = None

abbrev pub waiting : ThreadFacts → Option Waiting
waiting x = waiting_of x.doing

-- the status of its ended wait
abbrev pub status_of : Doing → Option ℕ
status_of (IsReady level status) = status
status_of _ = None

abbrev pub ended_status : ThreadFacts → Option ℕ
ended_status x = status_of x.doing

-- the level of a thread that doesn't run: the one at which it last blocked or gave way
abbrev pub doing_level : Doing → ℕ
doing_level (IsReady level status) = level
doing_level (IsBlocked w) = w.level
doing_level _ = 0

abbrev pub is_alerted : Mode → ThreadFacts → Bool
is_alerted KernelMode x = x.alerted_kernel
is_alerted UserMode x = x.alerted_user

abbrev pub set_alerted : Mode → Bool → ThreadFacts → ThreadFacts
set_alerted KernelMode b x = record x { alerted_kernel = b }
set_alerted UserMode b x = record x { alerted_user = b }

-- ---- what ends the wait of a blocked thread

abbrev pub waits_as : (Waiting → Bool) → ThreadFacts → Bool
waits_as test x = option_map_or test (waiting x) false

-- `release` ends a wait and no delay (profile)
abbrev pub ends_by_release : ThreadFacts → Bool
ends_by_release x = waits_as (λ w. not w.delay) x

-- the expiry that names the set event of its present delay (driver documentation, "KeDelayExecutionThread")
abbrev pub ends_by_expiry : ℕ → ThreadFacts → Bool
ends_by_expiry from x = waits_as (λ w. w.delay && (w.event == from)) x

-- the mode of a wait is not below that of an alert; kernel is below user
abbrev pub not_below : Mode → Mode → Bool
not_below KernelMode UserMode = false
not_below _ _ = true

-- an alert whose flag was clear ends an alertable wait whose mode isn't below its own (driver documentation, "Waits and
-- APCs")
abbrev pub ends_by_alert : Mode → ThreadFacts → Bool
ends_by_alert m x = not (is_alerted m x) && waits_as (λ w. w.alertable && not_below w.mode m) x

-- a user APC ends a user wait that is alertable, or where the user-pending mark is set (profile)
abbrev pub ends_by_user : ThreadFacts → Bool
ends_by_user x = waits_as (λ w. is_user w.mode && (w.alertable || x.user_pending)) x

-- a kernel APC ends a wait inwardly where, with it among the pending ones, the first one is deliverable
abbrev pub ends_by_kernel : ApcQueues → ThreadFacts → Bool
ends_by_kernel q x = waits_as (λ w. is_some (deliverable q w.regions w.level)) x

abbrev pub ends_by_apc : Pick → ThreadFacts → Bool
ends_by_apc pick x =
    if is_kernel_kind pick.kind then ends_by_kernel (with_apc pick x.apcs) x else ends_by_user x

-- the wait is ended with this status: the thread is ready, and its next Switch carries it
abbrev pub ended : ℕ → ThreadFacts → ThreadFacts
ended st x = record x { doing = IsReady (doing_level x.doing) (Some st) }
