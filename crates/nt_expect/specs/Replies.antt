-- Which replies a command may give, as an expectation names them.
use Rattle.std.specs.Prelude.{◌≡◌, ℕ, Bool, true, false, ◌&&◌, ◌||◌, ◌==◌, Some}
use Rattle.nt_event.specs.declared.commands.Command.{Command}
use Rattle.nt_event.specs.declared.commands.Mode.{Mode}
use Rattle.nt_event.specs.declared.commands.Refusal.{Refusal}
use Rattle.nt_event.specs.declared.commands.Regions.{Regions}
use Rattle.nt_event.specs.declared.commands.Reply.{Reply}
use Rattle.nt_event.specs.declared.commands.Reply.TheVariants as reply
use Rattle.nt_event.specs.declared.jobs.Stand.{Stand}
use Rattle.nt_event.specs.declared.scripts.Script.{Script}
use Rattle.nt_event.specs.Commands as commands
use Rattle.nt_event.specs.Frame.{Frame}
use Rattle.nt_event.specs.Lanes.{Lanes}
use Rattle.nt_event.specs.Replies.{alerted, is_user, kernel_apc, satisfied, user_apc}
use Rattle.nt_event.specs.Families.{AcquireLock, AdvanceTime, DelaysIn, DpcCall, EnterUser, Family, ForApc, ForDpc}
use Rattle.nt_event.specs.Families.{ForLevel, ForLock, ForOwn, ForPlain, ForRegion, ForThread, ForTimer, GiveImportance}
use Rattle.nt_event.specs.Families.{GiveTarget, GivesWay, InsertDpc, LockCall, OwnCall, PlainCall, RemoveDpc, RequestAt}
use Rattle.nt_event.specs.Families.{TestsAlert, UnlockLock, WaitsIn, WriteNote, family}
use Rattle.nt_expect.specs.declared.expectations.NamedReply.{NamedReply}
use Rattle.nt_expect.specs.declared.expectations.NamedReply.TheVariants as named
use Rattle.nt_expect.specs.declared.replies.Replies.{Replies}
use Rattle.nt_expect.specs.declared.replies.Replies.TheVariants.{Done, YesOrNo, Waits, DoneOrSpin}

-- ---- what a command may reply where it isn't refused

abbrev pub dpc_replies : DpcCall → Replies
dpc_replies (InsertDpc d) = YesOrNo
dpc_replies (RemoveDpc d) = YesOrNo
dpc_replies (GiveImportance d i) = Done
dpc_replies (GiveTarget d q) = Done

abbrev pub own_replies : OwnCall → Replies
own_replies (WaitsIn mode alertable) = Waits mode alertable
own_replies (DelaysIn mode alertable units) = Waits mode alertable
own_replies (TestsAlert mode) = YesOrNo
own_replies GivesWay = Done

abbrev pub lock_replies : LockCall → Replies
lock_replies (AcquireLock k) = DoneOrSpin
lock_replies (UnlockLock k) = Done

abbrev pub family_replies : Family → Replies
family_replies (ForLevel k) = Done
family_replies (ForDpc k) = dpc_replies k
family_replies (ForTimer k) = YesOrNo
family_replies (ForApc k) = YesOrNo
family_replies (ForRegion k) = Done
family_replies (ForOwn k) = own_replies k
family_replies (ForThread k) = YesOrNo
family_replies (ForLock k) = lock_replies k
family_replies (ForPlain k) = Done

abbrev pub replies_of : Command → Replies
replies_of c = family_replies (family c)

-- ---- whether a command may be refused

abbrev pub plain_may_be_refused : PlainCall → Bool
plain_may_be_refused (RequestAt q level) = false
plain_may_be_refused (AdvanceTime units) = false
plain_may_be_refused EnterUser = true
plain_may_be_refused (WriteNote n) = false

abbrev pub family_may_be_refused : Family → Bool
family_may_be_refused (ForLevel k) = true
family_may_be_refused (ForDpc k) = false
family_may_be_refused (ForTimer k) = true
family_may_be_refused (ForApc k) = true
family_may_be_refused (ForRegion k) = true
family_may_be_refused (ForOwn k) = true
family_may_be_refused (ForThread k) = true
family_may_be_refused (ForLock k) = true
family_may_be_refused (ForPlain k) = plain_may_be_refused k

abbrev pub may_be_refused : Command → Bool
may_be_refused c = family_may_be_refused (family c)

-- ---- whether a command may reply so

abbrev pub may_tell : Replies → Bool
may_tell YesOrNo = true
may_tell Done = false
may_tell (Waits mode alertable) = false
may_tell DoneOrSpin = false

abbrev pub may_be_done : Replies → Bool
may_be_done Done = true
may_be_done DoneOrSpin = true
may_be_done YesOrNo = false
may_be_done (Waits mode alertable) = false

abbrev pub may_spin : Replies → Bool
may_spin DoneOrSpin = true
may_spin Done = false
may_spin YesOrNo = false
may_spin (Waits mode alertable) = false

abbrev pub may_block : Replies → Bool
may_block (Waits mode alertable) = true
may_block Done = false
may_block YesOrNo = false
may_block DoneOrSpin = false

-- a wait in this mode, alertable or not, may end at once with this status: each may by a release and by a kernel APC,
-- an alertable one by an alert, and one in user mode by a user APC
abbrev pub ends_wait : Mode → Bool → ℕ → Bool
ends_wait mode alertable code = code == satisfied || code == kernel_apc || (alertable && code == alerted) ||
    (is_user mode && code == user_apc)

abbrev pub may_end : ℕ → Replies → Bool
may_end code (Waits mode alertable) = ends_wait mode alertable code
may_end code Done = false
may_end code YesOrNo = false
may_end code DoneOrSpin = false

-- a call of the command may reply so
abbrev pub may_reply : Command → NamedReply → Bool
may_reply c named.Yes = may_tell (replies_of c)
may_reply c named.No = may_tell (replies_of c)
may_reply c named.Done = may_be_done (replies_of c)
may_reply c named.Blocked = may_block (replies_of c)
may_reply c (named.Status code) = may_end code (replies_of c)
may_reply c named.Refused = may_be_refused c
may_reply c named.Spin = may_spin (replies_of c)

-- ---- what it has to be

-- a reply as an expectation names it
abbrev pub name_of : Reply → NamedReply
name_of reply.Done = named.Done
name_of reply.Yes = named.Yes
name_of reply.No = named.No
name_of (reply.Status code) = named.Status code
name_of reply.Blocked = named.Blocked
name_of reply.Spin = named.Spin
name_of (reply.Refused r) = named.Refused

-- a command that isn't refused gives only such replies, wherever the processor stands and whatever the lanes hold
abbrev pub RepliesMayBe : Type 0
RepliesMayBe = (s : Script) (st : Stand) (l : Lanes) (c : Command) →
    may_reply c (name_of (commands.reply s st l c)) ≡ true

-- a command that is refused somewhere may be refused
abbrev pub RefusalsMayBe : Type 0
RefusalsMayBe = (level : ℕ) (own : Bool) (r : Regions) (f : Frame) (c : Command) (cause : Refusal) →
    commands.refusal level own r f c ≡ Some cause → may_reply c named.Refused ≡ true
