-- Worked rows: scripts, and what is found in them, worked out by hand.
use Rattle.std.specs.Prelude.{Bool, List, None, Some, [], false, true, ℕ, ◌∷◌, ◌≡◌}
use Rattle.nt_event.specs.declared.commands.ApcKind.TheVariants.{Normal as NormalApc}
use Rattle.nt_event.specs.declared.commands.Command.{Command}
use Rattle.nt_event.specs.declared.commands.Command.TheVariants.{Acquire, EnterCrit, LeaveCrit, Lower, Note, Queue}
use Rattle.nt_event.specs.declared.commands.Command.TheVariants.{Raise, StartWait, Unlock}
use Rattle.nt_event.specs.declared.commands.Mode.TheVariants.{Kernel as KernelMode}
use Rattle.nt_event.specs.declared.commands.Refusal.{Refusal}
use Rattle.nt_event.specs.declared.commands.Refusal.TheVariants.{BelowBase, HeldHere, LockHeld, NotEntered, NotGreater}
use Rattle.nt_event.specs.declared.commands.Refusal.TheVariants.{NotLast, NotLess, TooHigh}
use Rattle.nt_event.specs.declared.scripts.Routine.{Routine}
use Rattle.nt_event.specs.declared.scripts.Script.{Script}
use Rattle.nt_event.specs.declared.scripts.ThreadDecl.{ThreadDecl}
use Rattle.nt_event.specs.Numbers.{apc, cpu, dpc, lock, routine, thread}
use Rattle.nt_event.specs.Script.{fits}
use Rattle.nt_verify.specs.declared.finding.Finding.{Finding}
use Rattle.nt_verify.specs.declared.site.Site.{Site}
use Rattle.nt_verify.specs.declared.site.Site.TheVariants as at
use Rattle.nt_verify.specs.Findings.{findings, is_ordered}

-- ---- parts of scripts

abbrev pub plain : Script
plain =
    record {
      cpus = 1;
      depth = None;
      threaded = None;
      isrs = [];
      dpcs = [];
      timers = [];
      threads = [];
      apcs = [];
      routines = [];
      locks = 0;
    }

abbrev pub runs : List Command → Routine
runs commands = record { commands = commands }

abbrev pub thread_on : ℕ → ℕ → ThreadDecl
thread_on p r = record { cpu = cpu p; routine = routine r }

abbrev pub finding : Site → ℕ → Refusal → ℕ → Finding
finding x k r level = record { site = x; place = k; refusal = r; level = level }

-- ---- what a row says

pub record IsWorked (s : Script) (fs : List Finding) (b : Bool) : Type 0 where
  pub fits : fits s ≡ true
  pub found : findings s ≡ fs
  pub ordered : is_ordered s ≡ b

-- ---- the rows

-- a raise below the level and a lower above it are refused
abbrev pub RefusedLevels : Type 0
RefusedLevels =
    IsWorked (record plain {
      threads = thread_on 0 0 ∷ [];
      routines = runs (Raise 2 ∷ Raise 1 ∷ Lower 3 ∷ []) ∷ runs [] ∷ [];
    }) (finding (at.Base (thread 0)) 1 NotGreater 2 ∷ finding (at.Base (thread 0)) 2 NotLess 2 ∷ []) true

-- a DPC doesn't lower below DISPATCH_LEVEL
abbrev pub LowerBelowBase : Type 0
LowerBelowBase =
    IsWorked (record plain {
      dpcs = record { threaded = false; routine = routine 0 } ∷ [];
      threads = thread_on 0 1 ∷ [];
      routines = runs (Lower 1 ∷ []) ∷ runs (Raise 2 ∷ Queue (dpc 0) ∷ Lower 0 ∷ []) ∷ [];
    }) (finding (at.Dpc (dpc 0)) 0 BelowBase 2 ∷ []) true

-- nothing is refused
abbrev pub RaiseQueueLower : Type 0
RaiseQueueLower =
    IsWorked (record plain {
      dpcs = record { threaded = false; routine = routine 0 } ∷ [];
      threads = thread_on 0 1 ∷ [];
      routines = runs (Note 7 ∷ []) ∷ runs (Raise 2 ∷ Queue (dpc 0) ∷ Lower 0 ∷ []) ∷ [];
    }) [] true

-- two threads acquire two locks the other way round
abbrev pub TwoOrders : Type 0
TwoOrders =
    IsWorked (record plain {
      cpus = 2;
      threads = thread_on 0 0 ∷ thread_on 1 1 ∷ [];
      routines = runs (Acquire (lock 0) ∷ Acquire (lock 1) ∷ []) ∷ runs (Acquire (lock 1) ∷ Acquire (lock 0) ∷ []) ∷ [];
      locks = 2;
    }) [] false

-- a lock that is held is not acquired again, no level below DISPATCH_LEVEL is lowered to, and no other lock is freed
abbrev pub SpinRefusals : Type 0
SpinRefusals =
    IsWorked (record plain {
      threads = thread_on 0 0 ∷ [];
      routines = runs (Acquire (lock 1) ∷ Acquire (lock 1) ∷ Lower 0 ∷ Unlock (lock 0) ∷ []) ∷ [];
      locks = 2;
    }) (finding (at.Base (thread 0)) 1 HeldHere 2
    ∷ finding (at.Base (thread 0)) 2 LockHeld 2
    ∷ finding (at.Base (thread 0)) 3 NotLast 2 ∷ []) true

-- a threaded DPC that is an ordinary one, and a normal routine that begins anew at PASSIVE_LEVEL without the region
-- that the kernel routine entered
abbrev pub PhasesBeginAnew : Type 0
PhasesBeginAnew =
    IsWorked (record plain {
      threaded = Some false;
      dpcs = record { threaded = true; routine = routine 1 } ∷ [];
      threads = thread_on 0 0 ∷ [];
      apcs =
          record { kind = NormalApc; thread = thread 0; kernel = routine 2; normal = Some (routine 3); rundown = None }
          ∷ [];
      routines =
          runs [] ∷
          runs (Lower 0 ∷ []) ∷
          runs (EnterCrit ∷ Lower 0 ∷ []) ∷
          runs (Raise 0 ∷ LeaveCrit ∷ Raise 2 ∷ StartWait KernelMode false ∷ []) ∷
          [];
    }) (finding (at.Dpc (dpc 0)) 0 BelowBase 2
    ∷ finding (at.Kernel (apc 0)) 1 BelowBase 1
    ∷ finding (at.Normal (apc 0)) 1 NotEntered 0
    ∷ finding (at.Normal (apc 0)) 3 TooHigh 2 ∷ []) true
