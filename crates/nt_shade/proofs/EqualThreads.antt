-- Threads and frames of shades that are found equal say the same.
use Rattle.std.proofs.Common.{ap, reverse}
use Rattle.std.specs.Prelude.{List, map}
use Rattle.nt_event.proofs.Options.{both}
use Rattle.nt_event.specs.declared.frames.Held.{Held}
use Rattle.nt_history.proofs.Same.{Same, nat_same, option_same}
use Rattle.nt_history.proofs.SameParts.{apc_same}
use Rattle.nt_shade.specs.contracts.frames.ShadeFramePartialEq.TheImpl as frame_eq
use Rattle.nt_shade.specs.contracts.threads.ShadePickPartialEq.TheImpl as pick_eq
use Rattle.nt_shade.specs.contracts.threads.ShadeThreadPartialEq.TheImpl as thread_eq
use Rattle.nt_shade.specs.declared.threads.ShadePick.{ShadePick}
use Rattle.nt_shade.specs.Frames.{frame_said}
use Rattle.nt_shade.specs.Threads.{pick_said, thread_said}
use Rattle.nt_shade.proofs.Lists.{Says, lists_same}
use Rattle.nt_shade.proofs.SameParts.{again_same, body_same, doing_same, flag_same, held_same, kind_same}

-- pending inserts of APCs are the same
pick_same : Same pick_eq.ghosts.eq
pick_same x y h =
    let a = both _ _ h in
    let apcs = apc_same x.apc y.apc a.0 in
    let kinds = kind_same x.kind y.kind a.1 in
    λ i. record { apc = apcs i; kind = kinds i }

-- threads
pub threads_say : Says thread_eq.ghosts.eq thread_said
threads_say x y h =
    let a = both _ _ h in
    let b = both _ _ a.1 in
    let c = both _ _ b.1 in
    let d = both _ _ c.1 in
    let e = both _ _ d.1 in
    let f = both _ _ e.1 in
    let g = both _ _ f.1 in
    let doings = doing_same x.doing y.doing a.0 in
    let kernels = flag_same x.alerted_kernel y.alerted_kernel b.0 in
    let users = flag_same x.alerted_user y.alerted_user c.0 in
    let pendings = flag_same x.user_pending y.user_pending d.0 in
    let releases = flag_same x.released y.released e.0 in
    let leavings = flag_same x.leaving y.leaving f.0 in
    let apcs = ap (λ (xs : List ShadePick). map pick_said (reverse xs)) (lists_same pick_same x.apcs.items y.apcs.items g.0) in
    let doors = flag_same x.closed y.closed g.1 in
    λ i. record {
      doing = doings i;
      alerted_kernel = kernels i;
      alerted_user = users i;
      user_pending = pendings i;
      released = releases i;
      leaving = leavings i;
      apcs = record { pending = apcs i; closed = doors i };
    }

-- frames
pub frames_say : Says frame_eq.ghosts.eq frame_said
frames_say x y h =
    let a = both _ _ h in
    let b = both _ _ a.1 in
    let c = both _ _ b.1 in
    let d = both _ _ c.1 in
    let e = both _ _ d.1 in
    let f = both _ _ e.1 in
    let g = both _ _ f.1 in
    let j = both _ _ g.1 in
    let k = both _ _ j.1 in
    let bodies = body_same x.body y.body a.0 in
    let levels = nat_same x.level y.level b.0 in
    let places = nat_same x.place y.place c.0 in
    let crits = nat_same x.crit y.crit d.0 in
    let guards = nat_same x.guard y.guard e.0 in
    let phases = flag_same x.kernel_phase y.kernel_phase f.0 in
    let leavings = flag_same x.leaving y.leaving g.0 in
    let agains = option_same again_same x.again y.again j.0 in
    let spins = option_same held_same x.spin y.spin k.0 in
    let helds = ap (λ (xs : List Held). reverse xs) (lists_same held_same x.held.items y.held.items k.1) in
    λ i. record {
      name = 0;
      body = bodies i;
      level = levels i;
      place = places i;
      crit = crits i;
      guard = guards i;
      kernel_phase = phases i;
      leaving = leavings i;
      again = agains i;
      spin = spins i;
      held = helds i;
    }
