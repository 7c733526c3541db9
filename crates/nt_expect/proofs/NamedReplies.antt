-- A command gives only replies that an expectation may name of it.
use Rattle.std.proofs.Common.{◌≡◌, ℕ, Bool, true, false, Option, Some, None, ◌+◌, refl}
use Rattle.std.specs.Prelude.{◌&&◌, ◌||◌, ◌==◌, not, is_none, is_some, if◌then◌else◌}
use Rattle.std.proofs.lemmas.Bool.{and_parts, eqb-true}
use Rattle.nt_event.specs.declared.commands.Command.{Command}
use Rattle.nt_event.specs.declared.commands.Command.TheVariants as cmd
use Rattle.nt_event.specs.declared.commands.Mode.{Mode}
use Rattle.nt_event.specs.declared.commands.Mode.TheVariants.{Kernel, User}
use Rattle.nt_event.specs.declared.commands.Regions.{Regions}
use Rattle.nt_event.specs.declared.commands.Reply.{Reply}
use Rattle.nt_event.specs.declared.commands.Reply.TheVariants as reply
use Rattle.nt_event.specs.Apcs.{deliverable, has_user}
use Rattle.nt_event.specs.declared.jobs.Stand.{Stand}
use Rattle.nt_event.specs.declared.scripts.Script.{Script}
use Rattle.nt_event.specs.Commands.{is_reached, reply as reply_to}
use Rattle.nt_event.specs.Lanes.{Lanes, facts_of, lock_at}
use Rattle.nt_event.specs.Replies.{is_user, yes_if}
use Rattle.nt_event.specs.Threads.{ThreadFacts, is_alerted}
use Rattle.nt_event.specs.Waits.{is_satisfied, wait_reply}
use Rattle.nt_expect.specs.declared.replies.Replies.{Replies}
use Rattle.nt_expect.specs.declared.replies.Replies.TheVariants.{Done, YesOrNo, Waits, DoneOrSpin}
use Rattle.nt_expect.specs.Replies.{RefusalsMayBe, RepliesMayBe, ends_wait, may_be_done, may_block, may_end, may_reply, may_spin, may_tell, name_of}
use Rattle.nt_expect.specs.Replies.{replies_of}

-- ---- statuses

-- what holds of each status that ends a wait
pub each_status : (P : ℕ → Type 0) → P 0 → P 256 → P 257 → P 192 → (mode : Mode) (alertable : Bool) (code : ℕ) → ends_wait mode alertable code ≡ true → P code
each_status P p q r s mode alertable code h =
    go (code == 0) (code == 256) (alertable && code == 257) (is_user mode && code == 192) refl refl refl refl h
  where
    go : (a b c d : Bool) → (code == 0) ≡ a → (code == 256) ≡ b → (alertable && code == 257) ≡ c → (is_user mode && code == 192) ≡ d →
        (a || b || c || d) ≡ true → P code
    go true b c d x y z w h = rw (eqb-true code 0 x) p
    go false true c d x y z w h = rw (eqb-true code 256 y) q
    go false false true d x y z w h = rw (eqb-true code 257 (and_parts alertable (code == 257) z).1) r
    go false false false true x y z w h = rw (eqb-true code 192 (and_parts (is_user mode) (code == 192) w).1) s
    go false false false false x y z w h = absurd cc

-- what holds of the statuses 0, 256, 257 and 192 holds of each status that a command may reply
pub each_reply_status : (P : ℕ → Type 0) → P 0 → P 256 → P 257 → P 192 → (code : ℕ) (r : Replies) → may_end code r ≡ true → P code
each_reply_status P p q r s code (Waits mode alertable) h = each_status P p q r s mode alertable code h
each_reply_status P p q r s code Done h = absurd cc
each_reply_status P p q r s code YesOrNo h = absurd cc
each_reply_status P p q r s code DoneOrSpin h = absurd cc

-- ---- whether a reply is one of a command's

-- a named reply is one of these
abbrev Among : Replies → Reply → Bool
Among r reply.Done = may_be_done r
Among r reply.Yes = may_tell r
Among r reply.No = may_tell r
Among r (reply.Status code) = may_end code r
Among r reply.Blocked = may_block r
Among r reply.Spin = may_spin r
Among r (reply.Refused cause) = false

-- yes and no are among the replies of a command that tells yes or no
tells : (b : Bool) → Among YesOrNo (yes_if b) ≡ true
tells true = refl
tells false = refl

-- done and spin are among the replies of a command that is done or spins
tries : (b : Bool) → Among DoneOrSpin (if b then reply.Done else reply.Spin) ≡ true
tries true = refl
tries false = refl

-- a chain of tests, as a wait makes them
waits : (m : Mode) (alertable a b c d e f : Bool) → Among (Waits m alertable)
    (if a then reply.Status 256 else
    if b then reply.Status 0 else
    if alertable && c then reply.Status 257 else
    if alertable && (is_user m && d) then reply.Status 192 else
    if alertable && e then reply.Status 257 else
    if not alertable && (is_user m && f) then reply.Status 192 else reply.Blocked) ≡ true
waits Kernel false true b c d e f = refl
waits Kernel false false true c d e f = refl
waits Kernel false false false c d e f = refl
waits Kernel true true b c d e f = refl
waits Kernel true false true c d e f = refl
waits Kernel true false false true d e f = refl
waits Kernel true false false false d true f = refl
waits Kernel true false false false d false f = refl
waits User false true b c d e f = refl
waits User false false true c d e f = refl
waits User false false false c d e true = refl
waits User false false false c d e false = refl
waits User true true b c d e f = refl
waits User true false true c d e f = refl
waits User true false false true d e f = refl
waits User true false false false true e f = refl
waits User true false false false false true f = refl
waits User true false false false false false f = refl

-- the reply of a wait is among those that a wait of this mode may get
waited : (x : ThreadFacts) (r : Regions) (level : ℕ) (m : Mode) (alertable : Bool) (reached : Option Bool) →
    Among (Waits m alertable) (wait_reply x r level m alertable reached) ≡ true
waited x r level m alertable reached =
    waits m alertable (is_some (deliverable x.apcs r level)) (is_satisfied x reached) (is_alerted m x) (has_user x.apcs) x.alerted_kernel x.user_pending

-- the reply that the rules give to a command is among those of the command
told : (s : Script) (st : Stand) (l : Lanes) (c : Command) → Among (replies_of c) (reply_to s st l c) ≡ true
told s st l (cmd.Raise level) = refl
told s st l (cmd.Lower level) = refl
told s st l (cmd.Queue d) = tells _
told s st l (cmd.Unqueue d) = tells _
told s st l (cmd.SetImportance d i) = refl
told s st l (cmd.SetTarget d q) = refl
told s st l (cmd.SetTimer t due period) = tells _
told s st l (cmd.CancelTimer t) = tells _
told s st l (cmd.InsertApc a) = tells _
told s st l (cmd.RemoveApc a) = tells _
told s st l cmd.EnterCrit = refl
told s st l cmd.EnterGuard = refl
told s st l cmd.LeaveCrit = refl
told s st l cmd.LeaveGuard = refl
told s st l (cmd.StartWait m a) = waited (facts_of l st.thread) st.regions st.level m a None
told s st l (cmd.Delay m a units) = waited (facts_of l st.thread) st.regions st.level m a
    (Some (is_reached l.timers.now (l.timers.now + units)))
told s st l (cmd.Release t) = tells _
told s st l (cmd.Alert t m) = tells _
told s st l (cmd.TestAlert m) = tells _
told s st l (cmd.Interrupt q level) = refl
told s st l (cmd.Clock units) = refl
told s st l cmd.ToUser = refl
told s st l cmd.Yield = refl
told s st l (cmd.Acquire k) = tries (is_none (lock_at l k).holder)
told s st l (cmd.Unlock k) = refl
told s st l (cmd.Note n) = refl

-- a reply among those of a command has a name that an expectation may give it there
among_named : (c : Command) (y : Reply) → Among (replies_of c) y ≡ true → may_reply c (name_of y) ≡ true
among_named c reply.Done h = h
among_named c reply.Yes h = h
among_named c reply.No h = h
among_named c (reply.Status code) h = h
among_named c reply.Blocked h = h
among_named c reply.Spin h = h
among_named c (reply.Refused cause) h = absurd cc

-- what a command replies is a reply that an expectation may name of it
pub replies_may_be : RepliesMayBe
replies_may_be s st l c = among_named c (reply_to s st l c) (told s st l c)

-- a refusal of a command is a reply that an expectation may name of it
pub refusals_may_be : RefusalsMayBe
refusals_may_be level own r f (cmd.Queue d) cause e = absurd cc
refusals_may_be level own r f (cmd.Unqueue d) cause e = absurd cc
refusals_may_be level own r f (cmd.SetImportance d i) cause e = absurd cc
refusals_may_be level own r f (cmd.SetTarget d q) cause e = absurd cc
refusals_may_be level own r f (cmd.Interrupt q l) cause e = absurd cc
refusals_may_be level own r f (cmd.Clock units) cause e = absurd cc
refusals_may_be level own r f (cmd.Note n) cause e = absurd cc
refusals_may_be level own r f (cmd.Raise l) cause e = refl
refusals_may_be level own r f (cmd.Lower l) cause e = refl
refusals_may_be level own r f (cmd.SetTimer t due period) cause e = refl
refusals_may_be level own r f (cmd.CancelTimer t) cause e = refl
refusals_may_be level own r f (cmd.InsertApc a) cause e = refl
refusals_may_be level own r f (cmd.RemoveApc a) cause e = refl
refusals_may_be level own r f cmd.EnterCrit cause e = refl
refusals_may_be level own r f cmd.EnterGuard cause e = refl
refusals_may_be level own r f cmd.LeaveCrit cause e = refl
refusals_may_be level own r f cmd.LeaveGuard cause e = refl
refusals_may_be level own r f (cmd.StartWait m a) cause e = refl
refusals_may_be level own r f (cmd.Delay m a units) cause e = refl
refusals_may_be level own r f (cmd.Release t) cause e = refl
refusals_may_be level own r f (cmd.Alert t m) cause e = refl
refusals_may_be level own r f (cmd.TestAlert m) cause e = refl
refusals_may_be level own r f cmd.ToUser cause e = refl
refusals_may_be level own r f cmd.Yield cause e = refl
refusals_may_be level own r f (cmd.Acquire k) cause e = refl
refusals_may_be level own r f (cmd.Unlock k) cause e = refl
