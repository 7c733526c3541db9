-- Commands: where each is refused, what it replies, and whether it touches a lane.
use Rattle.std.specs.List.{list_any}
use Rattle.std.specs.Option.{option_map_or}
use Rattle.std.specs.Prelude.{Bool, None, Option, Some, false, if◌then◌else◌, is_none, nat_le, nat_lt, not, true, ℕ}
use Rattle.std.specs.Prelude.{◌&&◌, ◌+◌, ◌==◌}
use Rattle.nt_event.specs.declared.commands.Command.{Command}
use Rattle.nt_event.specs.declared.commands.Command.TheVariants as cmd
use Rattle.nt_event.specs.declared.commands.Refusal.{Refusal}
use Rattle.nt_event.specs.declared.commands.Refusal.TheVariants.{BelowBase, HeldHere, LockHeld, NotBase, NotEntered}
use Rattle.nt_event.specs.declared.commands.Refusal.TheVariants.{NotGreater, NotLast, NotLess, NotThread, RegionsOpen}
use Rattle.nt_event.specs.declared.commands.Refusal.TheVariants.{TooHigh}
use Rattle.nt_event.specs.declared.commands.Regions.{Regions}
use Rattle.nt_event.specs.declared.commands.Reply.{Reply}
use Rattle.nt_event.specs.declared.commands.Reply.TheVariants.{Done, Spin}
use Rattle.nt_event.specs.Frame.{Frame}
use Rattle.nt_event.specs.declared.jobs.Stand.{Stand}
use Rattle.nt_event.specs.declared.numbers.LockNo.{LockNo}
use Rattle.nt_event.specs.declared.scripts.Script.{Script}
use Rattle.nt_event.specs.Apcs.{is_inserted, takes}
use Rattle.nt_event.specs.Frames.{base_of, is_base_body}
use Rattle.nt_event.specs.Lanes.{Lanes, facts_at, facts_of, lock_at, object_at}
use Rattle.nt_event.specs.Lists.{head_of, is_null}
use Rattle.nt_event.specs.Objects.{is_queued}
use Rattle.nt_event.specs.Regions.{is_open}
use Rattle.nt_event.specs.Routines.{owner_of}
use Rattle.nt_event.specs.Threads.{ends_by_release, is_alerted, is_gone}
use Rattle.nt_event.specs.Timers.{is_set_timer}
use Rattle.nt_event.specs.Waits.{wait_reply}
use Rattle.nt_event.specs.Replies.{yes_if}
use Rattle.nt_event.specs.Families.{AdvanceTime, EnterUser, Family, ForApc, ForDpc, ForLevel, ForLock, ForOwn, ForPlain}
use Rattle.nt_event.specs.Families.{ForRegion, ForThread, ForTimer, PlainCall, RequestAt, WriteNote, family}

-- the first test that fails
abbrev pub refuse : Bool → Refusal → Option Refusal → Option Refusal
refuse true r next = Some r
refuse false r next = next

-- called at a level not above n
abbrev pub not_above : ℕ → ℕ → Option Refusal → Option Refusal
not_above n level next = refuse (nat_lt n level) TooHigh next

-- the frame holds the lock
abbrev pub holds : LockNo → Frame → Bool
holds k f = list_any (λ h. h.lock.0 == k.0) f.held

-- the lock is the one that the frame acquired last among those that it holds
abbrev pub is_last : LockNo → Frame → Bool
is_last k f = option_map_or (λ h. h.lock.0 == k.0) (head_of f.held) false

-- the refusal of a command at this level, where the innermost frame stands on the processor's own part or not, and its
-- thread is in these regions; the tests are made in the order of the refusals' numbers
abbrev pub refusal : ℕ → Bool → Regions → Frame → Command → Option Refusal
refusal level own r f (cmd.Raise l) = refuse (nat_lt l level) NotGreater None
refusal level own r f (cmd.Lower l) =
    refuse (nat_lt level l) NotLess (refuse (nat_lt l (base_of f)) BelowBase
    (refuse (not (is_null f.held) && nat_lt l 2) LockHeld None))
refusal level own r f (cmd.Queue d) = None
refusal level own r f (cmd.Unqueue d) = None
refusal level own r f (cmd.SetImportance d i) = None
refusal level own r f (cmd.SetTarget d t) = None
refusal level own r f (cmd.SetTimer t due period) = not_above 2 level None
refusal level own r f (cmd.CancelTimer t) = not_above 2 level None
refusal level own r f (cmd.InsertApc a) = not_above 2 level None
refusal level own r f (cmd.RemoveApc a) = not_above 2 level None
refusal level own r f cmd.EnterCrit = refuse own NotThread (not_above 1 level None)
refusal level own r f cmd.EnterGuard = refuse own NotThread (not_above 1 level None)
refusal level own r f cmd.LeaveCrit = refuse own NotThread (not_above 1 level (refuse (f.crit == 0) NotEntered None))
refusal level own r f cmd.LeaveGuard = refuse own NotThread (not_above 1 level (refuse (f.guard == 0) NotEntered None))
refusal level own r f (cmd.StartWait m a) = refuse own NotThread (not_above 1 level None)
refusal level own r f (cmd.Delay m a units) = refuse own NotThread (not_above 1 level None)
refusal level own r f (cmd.Release t) = not_above 2 level None
refusal level own r f (cmd.Alert t m) = not_above 2 level None
refusal level own r f (cmd.TestAlert m) = refuse own NotThread (not_above 2 level None)
refusal level own r f (cmd.Interrupt p l) = None
refusal level own r f (cmd.Clock units) = None
refusal level own r f cmd.ToUser =
    refuse own NotThread (refuse (not (is_base_body f.body)) NotBase
    (not_above 0 level (refuse (is_open r) RegionsOpen None)))
refusal level own r f cmd.Yield = refuse own NotThread (not_above 1 level None)
refusal level own r f (cmd.Acquire k) = not_above 2 level (refuse (holds k f) HeldHere None)
refusal level own r f (cmd.Unlock k) = not_above 2 level (refuse (not (is_last k f)) NotLast None)
refusal level own r f (cmd.Note n) = None

-- a due time is reached
abbrev pub is_reached : ℕ → ℕ → Bool
is_reached now due = nat_le due now

-- the reply to a command that isn't refused, by where the processor stands and the states of the lanes
abbrev pub reply : Script → Stand → Lanes → Command → Reply
reply s st l (cmd.Queue d) = yes_if (not (is_queued (object_at l d)))
reply s st l (cmd.Unqueue d) = yes_if (is_queued (object_at l d))
reply s st l (cmd.SetTimer t due period) = yes_if (is_set_timer l.timers t)
reply s st l (cmd.CancelTimer t) = yes_if (is_set_timer l.timers t)
reply s st l (cmd.InsertApc a) = yes_if (takes a (facts_at l (owner_of s a)).apcs)
reply s st l (cmd.RemoveApc a) = yes_if (is_inserted a (facts_at l (owner_of s a)).apcs)
reply s st l (cmd.StartWait m a) = wait_reply (facts_of l st.thread) st.regions st.level m a None
reply s st l (cmd.Delay m a units) =
    wait_reply (facts_of l st.thread) st.regions st.level m a (Some (is_reached l.timers.now (l.timers.now + units)))
reply s st l (cmd.Release t) = yes_if (ends_by_release (facts_at l t))
reply s st l (cmd.Alert t m) = yes_if (not (is_gone (facts_at l t)) && is_alerted m (facts_at l t))
reply s st l (cmd.TestAlert m) = yes_if (is_alerted m (facts_of l st.thread))
reply s st l (cmd.Raise level) = Done
reply s st l (cmd.Lower level) = Done
reply s st l (cmd.SetImportance d i) = Done
reply s st l (cmd.SetTarget d q) = Done
reply s st l cmd.EnterCrit = Done
reply s st l cmd.EnterGuard = Done
reply s st l cmd.LeaveCrit = Done
reply s st l cmd.LeaveGuard = Done
reply s st l (cmd.Interrupt q level) = Done
reply s st l (cmd.Clock units) = Done
reply s st l cmd.ToUser = Done
reply s st l cmd.Yield = Done
reply s st l (cmd.Acquire k) = if is_none (lock_at l k).holder then Done else Spin
reply s st l (cmd.Unlock k) = Done
reply s st l (cmd.Note n) = Done

abbrev pub plain_needs : PlainCall → Bool
plain_needs (RequestAt q level) = false
plain_needs (WriteNote n) = false
plain_needs (AdvanceTime units) = true
plain_needs EnterUser = true

abbrev pub family_needs : Family → Bool
family_needs (ForLevel k) = false
family_needs (ForRegion k) = false
family_needs (ForDpc k) = true
family_needs (ForTimer k) = true
family_needs (ForApc k) = true
family_needs (ForOwn k) = true
family_needs (ForThread k) = true
family_needs (ForLock k) = true
family_needs (ForPlain k) = plain_needs k

-- the command touches a lane where it isn't refused
abbrev pub needs_lane : Command → Bool
needs_lane c = family_needs (family c)
