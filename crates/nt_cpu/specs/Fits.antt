-- Which events the frames of a processor allow.
use Rattle.std.specs.Prelude.{Bool, IsTrue, None, Some, [], false, is_none, length, nat_lt, true, ℕ, ◌&&◌, ◌<◌, ◌||◌}
use Rattle.std.specs.Prelude.{◌≡◌}
use Rattle.nt_event.specs.declared.commands.Command.{Command}
use Rattle.nt_event.specs.declared.commands.Reply.{Reply}
use Rattle.nt_event.specs.declared.commands.Reply.TheVariants.{Blocked, Done, No, Refused, Spin, Status, Yes}
use Rattle.nt_event.specs.declared.events.Begun.{Begun}
use Rattle.nt_event.specs.declared.events.Begun.TheVariants.{Apc, Dpc, Int, Threaded}
use Rattle.nt_event.specs.declared.events.What.{What}
use Rattle.nt_event.specs.declared.events.What.TheVariants.{Begin, Call, Clean, End, Expire, Fire, Flush, Free, Gone}
use Rattle.nt_event.specs.declared.events.What.TheVariants.{Look, Normal, Rest, Rewait, Switch}
use Rattle.nt_event.specs.declared.frames.Body.{Body}
use Rattle.nt_event.specs.declared.frames.Body.TheVariants.{Apc as OnApc, Dpc as OnDpc, Int as OnInt}
use Rattle.nt_event.specs.declared.frames.Body.TheVariants.{Threaded as OnThreaded}
use Rattle.nt_event.specs.Frame.{Frame}
use Rattle.nt_event.specs.declared.scripts.Script.{Script}
use Rattle.nt_event.specs.Frames.{Frames, innermost}
use Rattle.nt_event.specs.Routines.{kind_of}
use Rattle.nt_event.specs.Replies.{is_done, is_refused, is_spin}
use Rattle.nt_frame.specs.Rules.{is_leaving, may_begin, may_go_on, refusal_in}
use Rattle.nt_event.specs.Families.{AcquireLock, DelaysIn, Family, ForApc, ForDpc, ForLevel, ForLock, ForOwn, ForPlain}
use Rattle.nt_event.specs.Families.{ForRegion, ForThread, ForTimer, GivesWay, LockCall, OwnCall, TestsAlert, UnlockLock}
use Rattle.nt_event.specs.Families.{WaitsIn, by_lock_call, family}

-- what a Begin begins
abbrev pub body_of : Script → Begun → Body
body_of s (Int level) = OnInt level
body_of s (Dpc d) = OnDpc d
body_of s (Threaded d) = OnThreaded d
body_of s (Apc a) = OnApc a (kind_of s a)

-- a wait or a delay that isn't refused replies a status or blocks
abbrev pub is_wait_reply : Reply → Bool
is_wait_reply (Status status) = true
is_wait_reply Blocked = true
is_wait_reply Done = false
is_wait_reply Yes = false
is_wait_reply No = false
is_wait_reply Spin = false
is_wait_reply (Refused why) = false

-- only a wait blocks, and only a try of a lock spins
abbrev pub goes_on : Reply → Bool
goes_on Blocked = false
goes_on Spin = false
goes_on Done = true
goes_on Yes = true
goes_on No = true
goes_on (Status status) = true
goes_on (Refused why) = true

-- a try of a lock gets it, or spins on it
abbrev pub is_try_reply : Reply → Bool
is_try_reply y = is_done y || is_spin y

abbrev pub own_may_reply : OwnCall → Reply → Bool
own_may_reply (WaitsIn m a) y = is_wait_reply y
own_may_reply (DelaysIn m a units) y = is_wait_reply y
own_may_reply (TestsAlert m) y = goes_on y
own_may_reply GivesWay y = is_done y

abbrev pub lock_may_reply : LockCall → Reply → Bool
lock_may_reply (AcquireLock k) y = is_try_reply y
lock_may_reply (UnlockLock k) y = is_done y

abbrev pub family_may_reply : Family → Reply → Bool
family_may_reply (ForLevel k) y = is_done y
family_may_reply (ForRegion k) y = is_done y
family_may_reply (ForOwn k) y = own_may_reply k y
family_may_reply (ForLock k) y = lock_may_reply k y
family_may_reply (ForDpc k) y = goes_on y
family_may_reply (ForTimer k) y = goes_on y
family_may_reply (ForApc k) y = goes_on y
family_may_reply (ForThread k) y = goes_on y
family_may_reply (ForPlain k) y = goes_on y

-- what a command that isn't refused may reply
abbrev pub may_reply : Command → Reply → Bool
may_reply c y = family_may_reply (family c) y

-- the command may be called with this reply
abbrev pub may_call : Command → Reply → Frames → Bool
may_call c y x = is_refused y || (is_none (refusal_in c x) && may_reply c y)

abbrev pub acquired_below : ℕ → LockCall → Bool
acquired_below m (AcquireLock k) = nat_lt k.0 m
acquired_below m (UnlockLock k) = true

-- a lock that the command acquires is below this number
abbrev pub lock_below : ℕ → Command → Bool
lock_below m c = by_lock_call (λ k. acquired_below m k) true c

-- the innermost frame has this name
pub record IsAt (n : ℕ) (x : Frames) : Type 0 where
  pub frame : Frame
  pub is : innermost x ≡ Some frame
  pub name : frame.name ≡ n

-- the frames allow the event
abbrev pub Allow : Script → What → Frames → Type 0
Allow s (Call f c y) x = IsAt f x × IsTrue (may_call c y x) × IsTrue (lock_below s.locks c)
Allow s (Begin b from) x = IsTrue (may_begin (body_of s b) x)
Allow s (Normal f) x = IsAt f x × IsTrue (may_go_on x)
Allow s (End f) x = IsAt f x × (is_leaving x ≡ false)
Allow s (Free f k) x = IsAt f x
Allow s (Switch t status) x = (x.own ≡ []) × (x.running ≡ None) × (t.0 < length x.threads)
Allow s (Rewait f y) x = IsAt f x × (x.own ≡ []) × IsTrue (is_wait_reply y)
Allow s (Flush a from) x = IsTrue (is_leaving x)
Allow s (Gone t) x = IsTrue (is_leaving x)
Allow s (Look r) x = Unit {0}
Allow s (Expire key from) x = Unit {0}
Allow s (Fire d y) x = Unit {0}
Allow s (Clean class) x = Unit {0}
Allow s Rest x = Unit {0}
