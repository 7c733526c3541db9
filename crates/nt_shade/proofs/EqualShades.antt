-- Shades that are found equal say the same.
use Rattle.std.proofs.Common.{ap}
use Rattle.std.specs.Prelude.{List, map, reverse, true, ◌≡◌}
use Rattle.nt_event.proofs.Options.{both}
use Rattle.nt_event.specs.contracts.inserts.Part as part
use Rattle.nt_event.specs.contracts.inserts.PartPartialEq.TheImpl as part_eq
use Rattle.nt_history.proofs.Same.{Same, nat_same, option_same}
use Rattle.nt_history.proofs.SameParts.{cpu_same, dpc_same, importance_same, key_same, thread_same}
use denote.Enum.Bare.{same_true}
use Rattle.nt_shade_dpcs.specs.contracts.locks.ShadeLockPartialEq.TheImpl as lock_eq
use Rattle.nt_shade_dpcs.specs.contracts.objects.ShadeObjectPartialEq.TheImpl as object_eq
use Rattle.nt_shade_dpcs.specs.contracts.queues.ShadeInsertPartialEq.TheImpl as insert_eq
use Rattle.nt_shade_dpcs.specs.contracts.queues.ShadeQueuePartialEq.TheImpl as queue_eq
use Rattle.nt_shade_dpcs.specs.contracts.shade.ShadeDpcsPartialEq.TheImpl as dpcs_eq
use Rattle.nt_shade_dpcs.specs.contracts.timers.ShadeKeyPartialEq.TheImpl as key_shade_eq
use Rattle.nt_shade_dpcs.specs.declared.queues.ShadeInsert.{ShadeInsert}
use Rattle.nt_shade_dpcs.specs.declared.shade.ShadeDpcs.{ShadeDpcs}
use Rattle.nt_shade_dpcs.specs.Same.{SayTheSame as LanesSayTheSame}
use Rattle.nt_shade_dpcs.specs.Shades.{insert_said, lock_said, object_said, queue_said}
use Rattle.nt_shade.specs.contracts.cpus.ShadeCpuPartialEq.TheImpl as cpu_eq
use Rattle.nt_shade.specs.declared.shade.Shade.{Shade}
use Rattle.nt_shade.specs.Cpus.{cpu_said}
use Rattle.nt_shade.specs.Same.{SayTheSame, are_equal}
use Rattle.nt_shade.proofs.EqualThreads.{frames_say, threads_say}
use Rattle.nt_shade.proofs.Lists.{Says, lists_same, lists_say, turned_lists_say}
use Rattle.nt_shade.proofs.SameParts.{flag_same}

-- ---- lanes

-- objects are the same
object_same : Same object_eq.ghosts.eq
object_same x y h =
    let a = both _ _ h in
    let b = both _ _ a.1 in
    let importances = importance_same x.importance y.importance a.0 in
    let targets = option_same cpu_same x.target y.target b.0 in
    let standings = option_same cpu_same x.standing y.standing b.1 in
    λ i. record { importance = importances i; target = targets i; standing = standings i }

-- parts of a DPC queue are the same
part_same : Same part_eq.ghosts.eq
part_same = same_true part.the_type tt

-- pending inserts of DPCs are the same
insert_same : Same insert_eq.ghosts.eq
insert_same x y h =
    let a = both _ _ h in
    let b = both _ _ a.1 in
    let dpcs = dpc_same x.dpc y.dpc a.0 in
    let parts = part_same x.part y.part b.0 in
    let highs = flag_same x.high y.high b.1 in
    λ i. record { dpc = dpcs i; part = parts i; high = highs i }

-- queues say the same
queues_say : Says queue_eq.ghosts.eq queue_said
queues_say x y h =
    let a = both _ _ h in
    let inserts = ap (λ (xs : List ShadeInsert). map insert_said (reverse xs)) (lists_same insert_same x.pending.items y.pending.items a.0) in
    let idles = flag_same x.idle y.idle a.1 in
    λ i. record { pending = inserts i; idle = idles i }

-- locks say the same
locks_say : Says lock_eq.ghosts.eq lock_said
locks_say x y h =
    let a = both _ _ h in
    let holders = option_same cpu_same x.holder y.holder a.0 in
    let spinners = lists_same flag_same x.spinners.items y.spinners.items a.1 in
    λ i. record { holder = holders i; spinners = spinners i }

-- set keys are the same
key_shade_same : Same key_shade_eq.ghosts.eq
key_shade_same x y h =
    let a = both _ _ h in
    let b = both _ _ a.1 in
    let keys = key_same x.key y.key a.0 in
    let dues = nat_same x.due y.due b.0 in
    let periods = nat_same x.period y.period b.1 in
    λ i. record { key = keys i; due = dues i; period = periods i }

-- what stands in lanes says the same
dpcs_say : (x y : ShadeDpcs) → dpcs_eq.ghosts.eq x y ≡ true → LanesSayTheSame x y
dpcs_say x y h =
    let a = both _ _ h in
    let b = both _ _ a.1 in
    let c = both _ _ b.1 in
    let d = both _ _ c.1 in
    record {
      objects = ap (map object_said) (lists_same object_same x.objects.items y.objects.items a.0);
      queues = lists_say queues_say x.queues.items y.queues.items b.0;
      locks = lists_say locks_say x.locks.items y.locks.items c.0;
      now = nat_same x.timers.now y.timers.now d.0;
      keys = lists_same key_shade_same x.timers.keys.items y.timers.keys.items d.1;
    }

-- ---- processors

-- what processors keep says the same
cpus_say : Says cpu_eq.ghosts.eq cpu_said
cpus_say x y h =
    let a = both _ _ h in
    let b = both _ _ a.1 in
    let c = both _ _ b.1 in
    let d = both _ _ c.1 in
    let e = both _ _ d.1 in
    let own = turned_lists_say frames_say x.own.items y.own.items a.0 in
    let runs = option_same thread_same x.running y.running b.0 in
    let threads = lists_say (λ t u k. turned_lists_say frames_say t.items u.items k) x.threads.items y.threads.items c.0 in
    let rests = flag_same x.rested y.rested d.0 in
    let fires = option_same dpc_same x.fire y.fire e.0 in
    let sweeps = flag_same x.sweep y.sweep e.1 in
    λ i. record (cpu_said x) {
      frames = record { own = own i; running = runs i; threads = threads i };
      rested = rests i;
      fire = fires i;
      sweep = sweeps i;
    }

-- ---- all

-- whole shades
pub equal_say : (x y : Shade) → are_equal x y ≡ true → SayTheSame x y
equal_say x y h =
    let a = both _ _ h in
    let b = both _ _ a.1 in
    let c = both _ _ b.1 in
    record {
      dpcs = dpcs_say x.dpcs y.dpcs a.0;
      counts = lists_same nat_same x.counts.items y.counts.items b.0;
      threads = lists_say threads_say x.threads.items y.threads.items c.0;
      cpus = lists_say cpus_say x.cpus.items y.cpus.items c.1;
    }
