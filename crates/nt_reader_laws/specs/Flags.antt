-- The flags and marks of a thread, by positions: each is set exactly where an event set it and no later one cleared it.
use Rattle.nt_event.specs.Apcs.{has_user, same_kind}
use Rattle.nt_event.specs.Frames.{is_base_body, is_user_apc_body}
use Rattle.nt_event.specs.Lists.{when}
use Rattle.nt_event.specs.Regions.{stand_at}
use Rattle.nt_event.specs.Replies.{alerted, is_answer, satisfied, user_apc}
use Rattle.nt_event.specs.Routines.{is_kernel_kind, kind_of, owner_of}
use Rattle.nt_event.specs.Threads.{ThreadFacts, ends_by_alert, ends_by_release, ends_by_user, is_alerted, is_gone}
use Rattle.nt_event.specs.Waits.{facts, is_of_thread}
use Rattle.nt_event.specs.declared.commands.ApcKind.TheVariants.{User as UserApc}
use Rattle.nt_event.specs.declared.commands.Command.TheVariants.{Alert, Delay, InsertApc, Release, StartWait, TestAlert}
use Rattle.nt_event.specs.declared.commands.Mode.{Mode}
use Rattle.nt_event.specs.declared.commands.Mode.TheVariants.{Kernel as KernelMode, User as UserMode}
use Rattle.nt_event.specs.declared.commands.Reply.TheVariants.{Status, Yes}
use Rattle.nt_event.specs.declared.events.Begun.TheVariants.{Apc}
use Rattle.nt_event.specs.declared.events.Event.{Event}
use Rattle.nt_event.specs.declared.events.What.{What}
use Rattle.nt_event.specs.declared.events.What.TheVariants.{Begin, Call, End, Gone, Rewait}
use Rattle.nt_event.specs.declared.frames.Again.{Again}
use Rattle.nt_event.specs.declared.frames.Body.{Body}
use Rattle.nt_event.specs.declared.numbers.ThreadNo.{ThreadNo}
use Rattle.nt_event.specs.declared.scripts.Script.{Script}
use Rattle.nt_readings.specs.Positions.{At, EachAfter}
use Rattle.nt_thread.specs.Rows.{same_mode}
use Rattle.std.specs.Option.{option_map_or}
use Rattle.std.specs.Prelude.{Bool, List, None, Option, Some, false, if◌then◌else◌, is_none, not, option_and_then}
use Rattle.std.specs.Prelude.{option_map, true, ℕ, ◌&&◌, ◌==◌, ◌||◌, ◌↔◌, ◌≡◌}

-- event n sets the flag, and no later event clears it
abbrev pub IsSetAndKept : (Event → List Event → Bool) → (Event → List Event → Bool) → List Event → Type 0
IsSetAndKept sets clears past = (n : ℕ) × At (λ e before. sets e before ≡ true) n past ×
    EachAfter (λ e before. clears e before ≡ false) n past

-- the wait that a frame of the processor would take up, before the event
abbrev pub again_before : Script → Event → List Event → Option Again
again_before s e before = (stand_at s e.cpu before).again

-- ---- the released mark

-- a release of the thread that is answered
abbrev pub releases : ThreadNo → What → Bool
releases t (Call f (Release u) y) = is_answer y && (u.0 == t.0)
releases t w = false

-- a release that ends no wait sets the mark of a thread that isn't gone. (Without the test of a wait a release would do
-- double duty; with a delay counted as a wait it would be lost.)
abbrev pub sets_released : Script → ThreadNo → Event → List Event → Bool
sets_released s t e before =
    releases t e.what && (not (ends_by_release (facts s t before)) && not (is_gone (facts s t before)))

-- a wait, and no delay, is satisfied at its call or as it is taken up again
abbrev pub satisfies : Option Again → What → Bool
satisfies again (Call f (StartWait m a) (Status st)) = st == satisfied
satisfies again (Rewait f (Status st)) = (st == satisfied) && option_map_or (λ w. is_none w.due) again false
satisfies again w = false

abbrev pub clears_released : Script → ThreadNo → Event → List Event → Bool
clears_released s t e before = is_of_thread s t e && satisfies (again_before s e before) e.what

-- ---- the alerted flags

-- an alert of the thread for this mode that is answered
abbrev pub alerts : ThreadNo → Mode → What → Bool
alerts t m (Call f (Alert u k) y) = (is_answer y && (u.0 == t.0)) && same_mode m k
alerts t m w = false

-- an alert that ends no wait sets the flag of a thread that isn't gone
abbrev pub sets_alerted : Script → ThreadNo → Mode → Event → List Event → Bool
sets_alerted s t m e before =
    alerts t m e.what && (not (is_gone (facts s t before)) && not (ends_by_alert m (facts s t before)))

-- the mode of the wait or delay that the event answers with STATUS_ALERTED
abbrev pub alerted_wait : Option Again → What → Option Mode
alerted_wait again (Call f (StartWait m a) (Status st)) = when (st == alerted) (Some m)
alerted_wait again (Call f (Delay m a units) (Status st)) = when (st == alerted) (Some m)
alerted_wait again (Rewait f (Status st)) = when (st == alerted) (option_map (λ w. w.mode) again)
alerted_wait again w = None

-- an alert is tested for this mode: by a command that is answered, or, for user mode, at the end of a user APC
abbrev pub tested_mode : Option Body → What → Option Mode
tested_mode body (Call f (TestAlert m) y) = when (is_answer y) (Some m)
tested_mode body (End f) = option_and_then (λ b. when (is_user_apc_body b) (Some UserMode)) body
tested_mode body w = None

-- the flag that an alerted wait of this mode clears: that of its mode, where it is set, else the kernel one
abbrev pub alert_mode : ThreadFacts → Mode → Mode
alert_mode x m = if is_alerted m x then m else KernelMode

abbrev pub is_mode : Mode → Option Mode → Bool
is_mode m o = option_map_or (same_mode m) o false

-- a wait that was alerted, or a test of an alert, clears the flag
abbrev pub clears_alerted : Script → ThreadNo → Mode → Event → List Event → Bool
clears_alerted s t m e before = is_of_thread s t e &&
    (is_mode m (option_map (alert_mode (facts s t before)) (alerted_wait (again_before s e before) e.what)) ||
    is_mode m (tested_mode (stand_at s e.cpu before).body e.what))

-- ---- the user-pending mark

-- an alertable wait or delay answers STATUS_USER_APC
abbrev pub user_wait : Option Again → What → Bool
user_wait again (Call f (StartWait m a) (Status st)) = (st == user_apc) && a
user_wait again (Call f (Delay m a units) (Status st)) = (st == user_apc) && a
user_wait again (Rewait f (Status st)) = (st == user_apc) && option_map_or (λ w. w.alertable) again false
user_wait again w = false

-- a user APC is inserted at the thread and ends its wait
abbrev pub user_ends : Script → ThreadNo → ThreadFacts → What → Bool
user_ends s t x (Call f (InsertApc a) Yes) =
    ((owner_of s a).0 == t.0) && (not (is_kernel_kind (kind_of s a)) && ends_by_user x)
user_ends s t x w = false

-- the mark is set by an alertable wait that user APCs end, and by a test for user mode with the flag clear and a user
-- APC pending
abbrev pub sets_user_pending : Script → ThreadNo → Event → List Event → Bool
sets_user_pending s t e before = user_ends s t (facts s t before) e.what || (is_of_thread s t e &&
    (user_wait (again_before s e before) e.what ||
    (is_mode UserMode (tested_mode (stand_at s e.cpu before).body e.what) &&
    (not (facts s t before).alerted_user && has_user (facts s t before).apcs))))

-- and cleared where a user APC begins
abbrev pub begins_user : Script → What → Bool
begins_user s (Begin (Apc a) from) = same_kind UserApc (kind_of s a)
begins_user s w = false

abbrev pub clears_user_pending : Script → ThreadNo → Event → List Event → Bool
clears_user_pending s t e before = is_of_thread s t e && begins_user s e.what

-- ---- leaving

-- its base routine ends
abbrev pub ends_base : Option Body → What → Bool
ends_base body (End f) = option_map_or is_base_body body false
ends_base body w = false

abbrev pub sets_leaving : Script → ThreadNo → Event → List Event → Bool
sets_leaving s t e before = is_of_thread s t e && ends_base (stand_at s e.cpu before).body e.what

abbrev pub is_gone_event : What → Bool
is_gone_event (Gone t) = true
is_gone_event w = false

abbrev pub clears_leaving : Script → ThreadNo → Event → List Event → Bool
clears_leaving s t e before = is_of_thread s t e && is_gone_event e.what

-- ---- the law

pub record FlagsRead (s : Script) (t : ThreadNo) (past : List Event) : Type 0 where
  pub released : ((facts s t past).released ≡ true) ↔ IsSetAndKept (sets_released s t) (clears_released s t) past
  pub alerted : (m : Mode) → (is_alerted m (facts s t past) ≡ true) ↔
      IsSetAndKept (sets_alerted s t m) (clears_alerted s t m) past
  pub user_pending : ((facts s t past).user_pending ≡ true) ↔
      IsSetAndKept (sets_user_pending s t) (clears_user_pending s t) past
  pub leaving : ((facts s t past).leaving ≡ true) ↔ IsSetAndKept (sets_leaving s t) (clears_leaving s t) past

-- the released mark, the alerted flags, the user-pending mark and that the thread is leaving are each set exactly where
-- an event set it and no later one cleared it
abbrev pub FlagsAreSetAndKept : Type 0
FlagsAreSetAndKept = (s : Script) (t : ThreadNo) (past : List Event) → FlagsRead s t past
