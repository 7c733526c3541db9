use Rattle.std.proofs.Common.{None, ap, false, refl}
use Rattle.nt_event.specs.declared.commands.Regions.{Regions}
use Rattle.nt_event.specs.declared.jobs.Stand.{Stand}
use Rattle.nt_states.specs.ThreadLanes.{ThreadLanes}
use Rattle.lanes_table.proofs.threads.tell_release.Goals as goal

pub returns : goal.returns
returns c =
    let free : Regions = record { crit = 0; guard = 0; busy = false } in
    let st : Stand = record {
      cpu = record { 0 = 1 };
      thread = None;
      frame = 0;
      body = None;
      level = 0;
      regions = free;
      below = free;
      ended_level = 0;
      after = 0;
      again = None;
      sweep = false;
    } in
    ap (λ (x : ThreadLanes). x.script) (c.tell.ensures st c.call-event.result refl)
