-- Parts of threads and frames that are found equal are the same.
use Rattle.std.specs.Prelude.{refl}
use mathlib.Core.Bool.{beq}
use denote.Enum.Bare.{same_true}
use Rattle.nt_event.proofs.Options.{both}
use Rattle.nt_event.specs.contracts.commands.ApcKind as kind
use Rattle.nt_event.specs.contracts.commands.ApcKindPartialEq.TheImpl as kind_eq
use Rattle.nt_event.specs.contracts.commands.RegionsPartialEq.TheImpl as regions_eq
use Rattle.nt_event.specs.contracts.frames.AgainPartialEq.TheImpl as again_eq
use Rattle.nt_event.specs.contracts.frames.Body as body
use Rattle.nt_event.specs.contracts.frames.BodyPartialEq.TheImpl as body_eq
use Rattle.nt_event.specs.contracts.frames.HeldPartialEq.TheImpl as held_eq
use Rattle.nt_event.specs.contracts.threads.Doing as doing
use Rattle.nt_event.specs.contracts.threads.DoingPartialEq.TheImpl as doing_eq
use Rattle.nt_event.specs.contracts.threads.WaitingPartialEq.TheImpl as waiting_eq
use Rattle.nt_history.proofs.Same.{Same, bool_same, enum_same, nat_same, none_same, one_same, option_same, two_same}
use Rattle.nt_history.proofs.SameParts.{apc_same, dpc_same, lock_same, mode_same, thread_same}

-- flags
pub flag_same : Same beq
flag_same = bool_same beq refl refl

-- kinds of APCs
pub kind_same : Same kind_eq.ghosts.eq
kind_same = same_true kind.the_type tt

-- what holds back the kernel APCs of a thread
regions_same : Same regions_eq.ghosts.eq
regions_same x y h =
    let a = both _ _ h in
    let b = both _ _ a.1 in
    let crits = nat_same x.crit y.crit a.0 in
    let guards = nat_same x.guard y.guard b.0 in
    let busies = flag_same x.busy y.busy b.1 in
    λ i. record { crit = crits i; guard = guards i; busy = busies i }

-- waits in which threads are blocked
waiting_same : Same waiting_eq.ghosts.eq
waiting_same x y h =
    let a = both _ _ h in
    let b = both _ _ a.1 in
    let c = both _ _ b.1 in
    let d = both _ _ c.1 in
    let e = both _ _ d.1 in
    let events = nat_same x.event y.event a.0 in
    let modes = mode_same x.mode y.mode b.0 in
    let alertables = flag_same x.alertable y.alertable c.0 in
    let delays = flag_same x.delay y.delay d.0 in
    let levels = nat_same x.level y.level e.0 in
    let regions = regions_same x.regions y.regions e.1 in
    λ i. record {
      event = events i;
      mode = modes i;
      alertable = alertables i;
      delay = delays i;
      level = levels i;
      regions = regions i;
    }

-- what threads are doing: Ready, Running, Blocked, Gone
pub doing_same : Same doing_eq.ghosts.eq
doing_same =
    enum_same doing.enum _ (two_same nat_same (option_same nat_same), (none_same, (one_same waiting_same, (none_same, tt))))

-- what runs in frames: Int, Dpc, Threaded, Apc, Base, Rundown
pub body_same : Same body_eq.ghosts.eq
body_same = enum_same body.enum _ (
  one_same nat_same,
  (one_same dpc_same, (one_same dpc_same, (two_same apc_same kind_same, (one_same thread_same, (one_same apc_same, tt))))),
)

-- waits that are to be taken up again
pub again_same : Same again_eq.ghosts.eq
again_same x y h =
    let a = both _ _ h in
    let b = both _ _ a.1 in
    let modes = mode_same x.mode y.mode a.0 in
    let alertables = flag_same x.alertable y.alertable b.0 in
    let dues = option_same nat_same x.due y.due b.1 in
    λ i. record { mode = modes i; alertable = alertables i; due = dues i }

-- locks that are held
pub held_same : Same held_eq.ghosts.eq
held_same x y h =
    let a = both _ _ h in
    let locks = lock_same x.lock y.lock a.0 in
    let levels = nat_same x.kept y.kept a.1 in
    λ i. record { lock = locks i; kept = levels i }
