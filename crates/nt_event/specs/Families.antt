-- Each command and each event once: families of commands, and what is done in an event of one kind or else. A table
-- over one family lists its own commands and has one line for all others; a new command is refused here until it has a
-- family.
use Rattle.std.specs.Prelude.{Bool, Option, ℕ}
use Rattle.nt_event.specs.declared.commands.Command.{Command}
use Rattle.nt_event.specs.declared.commands.Command.TheVariants as cmd
use Rattle.nt_event.specs.declared.commands.Importance.{Importance}
use Rattle.nt_event.specs.declared.commands.Mode.{Mode}
use Rattle.nt_event.specs.declared.commands.Reply.{Reply}
use Rattle.nt_event.specs.declared.commands.TimerKey.{TimerKey}
use Rattle.nt_event.specs.declared.events.Begun.{Begun}
use Rattle.nt_event.specs.declared.events.Rises.{Rises}
use Rattle.nt_event.specs.declared.events.What.{What}
use Rattle.nt_event.specs.declared.events.What.TheVariants as what
use Rattle.nt_event.specs.declared.numbers.ApcNo.{ApcNo}
use Rattle.nt_event.specs.declared.numbers.CpuNo.{CpuNo}
use Rattle.nt_event.specs.declared.numbers.DpcNo.{DpcNo}
use Rattle.nt_event.specs.declared.numbers.LockNo.{LockNo}
use Rattle.nt_event.specs.declared.numbers.ThreadNo.{ThreadNo}
use Rattle.nt_event.specs.declared.numbers.TimerNo.{TimerNo}

-- ---- families of commands

-- of the level of the routine
pub data LevelCall : Type 0 where
  RaiseTo : ℕ → LevelCall
  LowerTo : ℕ → LevelCall

-- of a DPC object
pub data DpcCall : Type 0 where
  InsertDpc : DpcNo → DpcCall
  RemoveDpc : DpcNo → DpcCall
  GiveImportance : DpcNo → Importance → DpcCall
  GiveTarget : DpcNo → Option CpuNo → DpcCall

-- of a timer: its due time from now and its period
pub data TimerCall : Type 0 where
  StartTimer : TimerNo → ℕ → ℕ → TimerCall
  StopTimer : TimerNo → TimerCall

-- of an APC object
pub data ApcCall : Type 0 where
  AddApc : ApcNo → ApcCall
  TakeApc : ApcNo → ApcCall

-- of the regions of the running thread
pub data RegionCall : Type 0 where
  CritEntered : RegionCall
  GuardEntered : RegionCall
  CritLeft : RegionCall
  GuardLeft : RegionCall

-- of the running thread itself: it waits in a mode, alertable or not, tests its alert or gives way
pub data OwnCall : Type 0 where
  WaitsIn : Mode → Bool → OwnCall
  DelaysIn : Mode → Bool → ℕ → OwnCall
  TestsAlert : Mode → OwnCall
  GivesWay : OwnCall

-- of a thread that the command names
pub data ThreadCall : Type 0 where
  ReleaseThread : ThreadNo → ThreadCall
  AlertThread : ThreadNo → Mode → ThreadCall

-- of a spin lock
pub data LockCall : Type 0 where
  AcquireLock : LockNo → LockCall
  UnlockLock : LockNo → LockCall

-- of no object and no thread
pub data PlainCall : Type 0 where
  RequestAt : CpuNo → ℕ → PlainCall
  AdvanceTime : ℕ → PlainCall
  EnterUser : PlainCall
  WriteNote : ℕ → PlainCall

pub data Family : Type 0 where
  ForLevel : LevelCall → Family
  ForDpc : DpcCall → Family
  ForTimer : TimerCall → Family
  ForApc : ApcCall → Family
  ForRegion : RegionCall → Family
  ForOwn : OwnCall → Family
  ForThread : ThreadCall → Family
  ForLock : LockCall → Family
  ForPlain : PlainCall → Family

abbrev pub family : Command → Family
family (cmd.Raise level) = ForLevel (RaiseTo level)
family (cmd.Lower level) = ForLevel (LowerTo level)
family (cmd.Queue d) = ForDpc (InsertDpc d)
family (cmd.Unqueue d) = ForDpc (RemoveDpc d)
family (cmd.SetImportance d i) = ForDpc (GiveImportance d i)
family (cmd.SetTarget d q) = ForDpc (GiveTarget d q)
family (cmd.SetTimer t due period) = ForTimer (StartTimer t due period)
family (cmd.CancelTimer t) = ForTimer (StopTimer t)
family (cmd.InsertApc a) = ForApc (AddApc a)
family (cmd.RemoveApc a) = ForApc (TakeApc a)
family cmd.EnterCrit = ForRegion CritEntered
family cmd.EnterGuard = ForRegion GuardEntered
family cmd.LeaveCrit = ForRegion CritLeft
family cmd.LeaveGuard = ForRegion GuardLeft
family (cmd.StartWait m a) = ForOwn (WaitsIn m a)
family (cmd.Delay m a units) = ForOwn (DelaysIn m a units)
family (cmd.Release t) = ForThread (ReleaseThread t)
family (cmd.Alert t m) = ForThread (AlertThread t m)
family (cmd.TestAlert m) = ForOwn (TestsAlert m)
family (cmd.Interrupt q level) = ForPlain (RequestAt q level)
family (cmd.Clock units) = ForPlain (AdvanceTime units)
family cmd.ToUser = ForPlain EnterUser
family cmd.Yield = ForOwn GivesWay
family (cmd.Acquire k) = ForLock (AcquireLock k)
family (cmd.Unlock k) = ForLock (UnlockLock k)
family (cmd.Note n) = ForPlain (WriteNote n)

-- ---- what a command of a family names

abbrev pub apc_named : ApcCall → ApcNo
apc_named (AddApc a) = a
apc_named (TakeApc a) = a

abbrev pub thread_named : ThreadCall → ThreadNo
thread_named (ReleaseThread t) = t
thread_named (AlertThread t m) = t

abbrev pub lock_named : LockCall → LockNo
lock_named (AcquireLock k) = k
lock_named (UnlockLock k) = k

-- ---- by a command of one family, or else

abbrev pub by_level_family {ℓ} : {A : Type ℓ} → (LevelCall → A) → A → Family → A
by_level_family g x (ForLevel c) = g c
by_level_family g x (ForDpc c) = x
by_level_family g x (ForTimer c) = x
by_level_family g x (ForApc c) = x
by_level_family g x (ForRegion c) = x
by_level_family g x (ForOwn c) = x
by_level_family g x (ForThread c) = x
by_level_family g x (ForLock c) = x
by_level_family g x (ForPlain c) = x

abbrev pub by_level_call {ℓ} : {A : Type ℓ} → (LevelCall → A) → A → Command → A
by_level_call g x c = by_level_family g x (family c)

abbrev pub by_dpc_family {ℓ} : {A : Type ℓ} → (DpcCall → A) → A → Family → A
by_dpc_family g x (ForLevel c) = x
by_dpc_family g x (ForDpc c) = g c
by_dpc_family g x (ForTimer c) = x
by_dpc_family g x (ForApc c) = x
by_dpc_family g x (ForRegion c) = x
by_dpc_family g x (ForOwn c) = x
by_dpc_family g x (ForThread c) = x
by_dpc_family g x (ForLock c) = x
by_dpc_family g x (ForPlain c) = x

abbrev pub by_dpc_call {ℓ} : {A : Type ℓ} → (DpcCall → A) → A → Command → A
by_dpc_call g x c = by_dpc_family g x (family c)

abbrev pub by_timer_family {ℓ} : {A : Type ℓ} → (TimerCall → A) → A → Family → A
by_timer_family g x (ForLevel c) = x
by_timer_family g x (ForDpc c) = x
by_timer_family g x (ForTimer c) = g c
by_timer_family g x (ForApc c) = x
by_timer_family g x (ForRegion c) = x
by_timer_family g x (ForOwn c) = x
by_timer_family g x (ForThread c) = x
by_timer_family g x (ForLock c) = x
by_timer_family g x (ForPlain c) = x

abbrev pub by_timer_call {ℓ} : {A : Type ℓ} → (TimerCall → A) → A → Command → A
by_timer_call g x c = by_timer_family g x (family c)

abbrev pub by_apc_family {ℓ} : {A : Type ℓ} → (ApcCall → A) → A → Family → A
by_apc_family g x (ForLevel c) = x
by_apc_family g x (ForDpc c) = x
by_apc_family g x (ForTimer c) = x
by_apc_family g x (ForApc c) = g c
by_apc_family g x (ForRegion c) = x
by_apc_family g x (ForOwn c) = x
by_apc_family g x (ForThread c) = x
by_apc_family g x (ForLock c) = x
by_apc_family g x (ForPlain c) = x

abbrev pub by_apc_call {ℓ} : {A : Type ℓ} → (ApcCall → A) → A → Command → A
by_apc_call g x c = by_apc_family g x (family c)

abbrev pub by_region_family {ℓ} : {A : Type ℓ} → (RegionCall → A) → A → Family → A
by_region_family g x (ForLevel c) = x
by_region_family g x (ForDpc c) = x
by_region_family g x (ForTimer c) = x
by_region_family g x (ForApc c) = x
by_region_family g x (ForRegion c) = g c
by_region_family g x (ForOwn c) = x
by_region_family g x (ForThread c) = x
by_region_family g x (ForLock c) = x
by_region_family g x (ForPlain c) = x

abbrev pub by_region_call {ℓ} : {A : Type ℓ} → (RegionCall → A) → A → Command → A
by_region_call g x c = by_region_family g x (family c)

abbrev pub by_own_family {ℓ} : {A : Type ℓ} → (OwnCall → A) → A → Family → A
by_own_family g x (ForLevel c) = x
by_own_family g x (ForDpc c) = x
by_own_family g x (ForTimer c) = x
by_own_family g x (ForApc c) = x
by_own_family g x (ForRegion c) = x
by_own_family g x (ForOwn c) = g c
by_own_family g x (ForThread c) = x
by_own_family g x (ForLock c) = x
by_own_family g x (ForPlain c) = x

abbrev pub by_own_call {ℓ} : {A : Type ℓ} → (OwnCall → A) → A → Command → A
by_own_call g x c = by_own_family g x (family c)

abbrev pub by_thread_family {ℓ} : {A : Type ℓ} → (ThreadCall → A) → A → Family → A
by_thread_family g x (ForLevel c) = x
by_thread_family g x (ForDpc c) = x
by_thread_family g x (ForTimer c) = x
by_thread_family g x (ForApc c) = x
by_thread_family g x (ForRegion c) = x
by_thread_family g x (ForOwn c) = x
by_thread_family g x (ForThread c) = g c
by_thread_family g x (ForLock c) = x
by_thread_family g x (ForPlain c) = x

abbrev pub by_thread_call {ℓ} : {A : Type ℓ} → (ThreadCall → A) → A → Command → A
by_thread_call g x c = by_thread_family g x (family c)

abbrev pub by_lock_family {ℓ} : {A : Type ℓ} → (LockCall → A) → A → Family → A
by_lock_family g x (ForLevel c) = x
by_lock_family g x (ForDpc c) = x
by_lock_family g x (ForTimer c) = x
by_lock_family g x (ForApc c) = x
by_lock_family g x (ForRegion c) = x
by_lock_family g x (ForOwn c) = x
by_lock_family g x (ForThread c) = x
by_lock_family g x (ForLock c) = g c
by_lock_family g x (ForPlain c) = x

abbrev pub by_lock_call {ℓ} : {A : Type ℓ} → (LockCall → A) → A → Command → A
by_lock_call g x c = by_lock_family g x (family c)

abbrev pub by_plain_family {ℓ} : {A : Type ℓ} → (PlainCall → A) → A → Family → A
by_plain_family g x (ForLevel c) = x
by_plain_family g x (ForDpc c) = x
by_plain_family g x (ForTimer c) = x
by_plain_family g x (ForApc c) = x
by_plain_family g x (ForRegion c) = x
by_plain_family g x (ForOwn c) = x
by_plain_family g x (ForThread c) = x
by_plain_family g x (ForLock c) = x
by_plain_family g x (ForPlain c) = g c

abbrev pub by_plain_call {ℓ} : {A : Type ℓ} → (PlainCall → A) → A → Command → A
by_plain_call g x c = by_plain_family g x (family c)

-- ---- by an event of one kind, or else

abbrev pub in_call {ℓ} : {A : Type ℓ} → (ℕ → Command → Reply → A) → A → What → A
in_call g x (what.Call f c y) = g f c y
in_call g x (what.Look r) = x
in_call g x (what.Begin b from) = x
in_call g x (what.Normal f) = x
in_call g x (what.End f) = x
in_call g x (what.Expire key from) = x
in_call g x (what.Fire d y) = x
in_call g x (what.Clean class) = x
in_call g x (what.Switch t status) = x
in_call g x (what.Rewait f y) = x
in_call g x (what.Flush a from) = x
in_call g x (what.Gone t) = x
in_call g x (what.Free f k) = x
in_call g x what.Rest = x

abbrev pub in_look {ℓ} : {A : Type ℓ} → (Rises → A) → A → What → A
in_look g x (what.Call f c y) = x
in_look g x (what.Look r) = g r
in_look g x (what.Begin b from) = x
in_look g x (what.Normal f) = x
in_look g x (what.End f) = x
in_look g x (what.Expire key from) = x
in_look g x (what.Fire d y) = x
in_look g x (what.Clean class) = x
in_look g x (what.Switch t status) = x
in_look g x (what.Rewait f y) = x
in_look g x (what.Flush a from) = x
in_look g x (what.Gone t) = x
in_look g x (what.Free f k) = x
in_look g x what.Rest = x

abbrev pub in_begin {ℓ} : {A : Type ℓ} → (Begun → ℕ → A) → A → What → A
in_begin g x (what.Call f c y) = x
in_begin g x (what.Look r) = x
in_begin g x (what.Begin b from) = g b from
in_begin g x (what.Normal f) = x
in_begin g x (what.End f) = x
in_begin g x (what.Expire key from) = x
in_begin g x (what.Fire d y) = x
in_begin g x (what.Clean class) = x
in_begin g x (what.Switch t status) = x
in_begin g x (what.Rewait f y) = x
in_begin g x (what.Flush a from) = x
in_begin g x (what.Gone t) = x
in_begin g x (what.Free f k) = x
in_begin g x what.Rest = x

abbrev pub in_expiry {ℓ} : {A : Type ℓ} → (TimerKey → ℕ → A) → A → What → A
in_expiry g x (what.Call f c y) = x
in_expiry g x (what.Look r) = x
in_expiry g x (what.Begin b from) = x
in_expiry g x (what.Normal f) = x
in_expiry g x (what.End f) = x
in_expiry g x (what.Expire key from) = g key from
in_expiry g x (what.Fire d y) = x
in_expiry g x (what.Clean class) = x
in_expiry g x (what.Switch t status) = x
in_expiry g x (what.Rewait f y) = x
in_expiry g x (what.Flush a from) = x
in_expiry g x (what.Gone t) = x
in_expiry g x (what.Free f k) = x
in_expiry g x what.Rest = x

abbrev pub in_fire {ℓ} : {A : Type ℓ} → (DpcNo → Reply → A) → A → What → A
in_fire g x (what.Call f c y) = x
in_fire g x (what.Look r) = x
in_fire g x (what.Begin b from) = x
in_fire g x (what.Normal f) = x
in_fire g x (what.End f) = x
in_fire g x (what.Expire key from) = x
in_fire g x (what.Fire d y) = g d y
in_fire g x (what.Clean class) = x
in_fire g x (what.Switch t status) = x
in_fire g x (what.Rewait f y) = x
in_fire g x (what.Flush a from) = x
in_fire g x (what.Gone t) = x
in_fire g x (what.Free f k) = x
in_fire g x what.Rest = x

abbrev pub in_clean {ℓ} : {A : Type ℓ} → (ℕ → A) → A → What → A
in_clean g x (what.Call f c y) = x
in_clean g x (what.Look r) = x
in_clean g x (what.Begin b from) = x
in_clean g x (what.Normal f) = x
in_clean g x (what.End f) = x
in_clean g x (what.Expire key from) = x
in_clean g x (what.Fire d y) = x
in_clean g x (what.Clean class) = g class
in_clean g x (what.Switch t status) = x
in_clean g x (what.Rewait f y) = x
in_clean g x (what.Flush a from) = x
in_clean g x (what.Gone t) = x
in_clean g x (what.Free f k) = x
in_clean g x what.Rest = x

abbrev pub in_switch {ℓ} : {A : Type ℓ} → (ThreadNo → Option ℕ → A) → A → What → A
in_switch g x (what.Call f c y) = x
in_switch g x (what.Look r) = x
in_switch g x (what.Begin b from) = x
in_switch g x (what.Normal f) = x
in_switch g x (what.End f) = x
in_switch g x (what.Expire key from) = x
in_switch g x (what.Fire d y) = x
in_switch g x (what.Clean class) = x
in_switch g x (what.Switch t status) = g t status
in_switch g x (what.Rewait f y) = x
in_switch g x (what.Flush a from) = x
in_switch g x (what.Gone t) = x
in_switch g x (what.Free f k) = x
in_switch g x what.Rest = x

abbrev pub in_rewait {ℓ} : {A : Type ℓ} → (ℕ → Reply → A) → A → What → A
in_rewait g x (what.Call f c y) = x
in_rewait g x (what.Look r) = x
in_rewait g x (what.Begin b from) = x
in_rewait g x (what.Normal f) = x
in_rewait g x (what.End f) = x
in_rewait g x (what.Expire key from) = x
in_rewait g x (what.Fire d y) = x
in_rewait g x (what.Clean class) = x
in_rewait g x (what.Switch t status) = x
in_rewait g x (what.Rewait f y) = g f y
in_rewait g x (what.Flush a from) = x
in_rewait g x (what.Gone t) = x
in_rewait g x (what.Free f k) = x
in_rewait g x what.Rest = x

abbrev pub in_rest {ℓ} : {A : Type ℓ} → A → A → What → A
in_rest g x (what.Call f c y) = x
in_rest g x (what.Look r) = x
in_rest g x (what.Begin b from) = x
in_rest g x (what.Normal f) = x
in_rest g x (what.End f) = x
in_rest g x (what.Expire key from) = x
in_rest g x (what.Fire d y) = x
in_rest g x (what.Clean class) = x
in_rest g x (what.Switch t status) = x
in_rest g x (what.Rewait f y) = x
in_rest g x (what.Flush a from) = x
in_rest g x (what.Gone t) = x
in_rest g x (what.Free f k) = x
in_rest g x what.Rest = g

abbrev pub in_flush {ℓ} : {A : Type ℓ} → (ApcNo → ℕ → A) → A → What → A
in_flush g x (what.Call f c y) = x
in_flush g x (what.Look r) = x
in_flush g x (what.Begin b from) = x
in_flush g x (what.Normal f) = x
in_flush g x (what.End f) = x
in_flush g x (what.Expire key from) = x
in_flush g x (what.Fire d y) = x
in_flush g x (what.Clean class) = x
in_flush g x (what.Switch t status) = x
in_flush g x (what.Rewait f y) = x
in_flush g x (what.Flush a from) = g a from
in_flush g x (what.Gone t) = x
in_flush g x (what.Free f k) = x
in_flush g x what.Rest = x
