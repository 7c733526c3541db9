-- What sets and what clears each flag of a thread, and the flag that a whole run of calls leaves.
use Rattle.std.specs.Prelude.{Bool, List, [], false, if◌then◌else◌, is_none, not, true, ◌&&◌, ◌==◌, ◌∷◌, ℕ}
use Rattle.nt_event.specs.declared.commands.Mode.{Mode}
use Rattle.nt_event.specs.declared.commands.Mode.TheVariants.{Kernel as KernelMode, User as UserMode}
use Rattle.nt_event.specs.declared.commands.Reply.{Reply}
use Rattle.nt_event.specs.declared.commands.Reply.TheVariants.{Status}
use Rattle.nt_event.specs.Apcs.{has_user, takes}
use Rattle.nt_event.specs.Routines.{is_kernel_kind}
use Rattle.nt_event.specs.Threads.{ThreadFacts, ends_by_alert, ends_by_apc, ends_by_release, is_alerted, is_gone}
use Rattle.nt_event.specs.Waits.{wait_reply}
use Rattle.nt_event.specs.Replies.{alerted, is_user, satisfied, user_apc}
use Rattle.nt_thread.specs.Runs.{Act, Alerts, Goes, Inserts, Leaves, Releases, Takes, TestsAlert, Wait, Waits, facts_of}

abbrev pub same_mode : Mode → Mode → Bool
same_mode KernelMode KernelMode = true
same_mode UserMode UserMode = true
same_mode _ _ = false

abbrev pub has_status : ℕ → Reply → Bool
has_status n (Status st) = st == n
has_status n _ = false

-- the wait answers this status
abbrev pub answers : ℕ → Wait → ThreadFacts → Bool
answers n w x = has_status n (wait_reply x w.regions w.level w.mode w.alertable w.reached)

-- ---- the alerted flag of a mode

-- set by an alert of the mode that ends no wait, of a thread that isn't gone
abbrev pub sets_alert : Mode → Act → ThreadFacts → Bool
sets_alert m (Alerts k) x = same_mode k m && (not (is_gone x) && not (ends_by_alert k x))
sets_alert m _ x = false

-- cleared by a test of an alert of the mode, and by a wait that it ends: the flag of the wait's mode, else the kernel
-- one
abbrev pub clears_alert : Mode → Act → ThreadFacts → Bool
clears_alert m (TestsAlert k) x = same_mode k m
clears_alert m (Waits w) x = answers alerted w x && same_mode (if is_alerted w.mode x then w.mode else KernelMode) m
clears_alert m _ x = false

-- ---- the user-pending mark

-- set by an alertable wait that a user APC ends at once, by a user APC that ends a blocked wait, and by a test of an
-- alert for user mode whose flag was clear while a user APC is queued
abbrev pub sets_mark : Act → ThreadFacts → Bool
sets_mark (Waits w) x = answers user_apc w x && w.alertable
sets_mark (Inserts pick) x = takes pick.apc x.apcs && (ends_by_apc pick x && not (is_kernel_kind pick.kind))
sets_mark (TestsAlert m) x = not (is_alerted m x) && (is_user m && has_user x.apcs)
sets_mark _ x = false

-- cleared where a user APC begins
abbrev pub clears_mark : Act → ThreadFacts → Bool
clears_mark (Takes pick) x = not (is_kernel_kind pick.kind)
clears_mark _ x = false

-- ---- the released mark

-- set by a release that ends no wait, of a thread that isn't gone
abbrev pub sets_released : Act → ThreadFacts → Bool
sets_released Releases x = not (ends_by_release x) && not (is_gone x)
sets_released _ x = false

-- cleared by a wait, and no delay, that it ends
abbrev pub clears_released : Act → ThreadFacts → Bool
clears_released (Waits w) x = answers satisfied w x && is_none w.reached
clears_released _ x = false

-- ---- leaving

abbrev pub sets_leaving : Act → ThreadFacts → Bool
sets_leaving Leaves x = true
sets_leaving _ x = false

abbrev pub clears_leaving : Act → ThreadFacts → Bool
clears_leaving Goes x = true
clears_leaving _ x = false

-- ---- whole runs

abbrev pub left_by : Bool → Bool → Bool → Bool
left_by sets clears old = if sets then true else (if clears then false else old)

-- what the last act that sets or clears the flag left; at the start it is clear
abbrev pub last_left : (Act → ThreadFacts → Bool) → (Act → ThreadFacts → Bool) → List Act → Bool
last_left sets clears [] = false
last_left sets clears (act ∷ past) = left_by (sets act (facts_of past)) (clears act (facts_of past))
    (last_left sets clears past)
